-- Where copies agree on a node, what was read is what it holds.
use Rattle.std.proofs.Common.{◌≡◌, ℕ, ◌≤◌, List, Result, Ok, Err, refl, ap, sym, ◌∙◌, arith}
use Rattle.vol_types.specs.KeyMaps.{Entries}
use Rattle.vol_types.specs.declared.pointers.NodePtr.{NodePtr}
use Rattle.record_codec.specs.declared.sets.SetHead.{SetHead}
use Rattle.dev_model.specs.Devices.{FaultCounts}
use Rattle.node_store.specs.declared.reading.ReadNode.{ReadNode}
use Rattle.node_store.specs.declared.sets.StoredSets.{StoredSets}
use Rattle.node_store.specs.Answers.{AgreeOn, IsReadAs}
use Rattle.node_store.specs.NodeContents.{NodeContent, content_if, content_in, content_with, entries_after}
use Rattle.node_store.specs.StoredSets.{Copies, sets_in}
use Rattle.node_store.proofs.MadeUp.{sets_made_up}

ends_so : (end : ℕ) (entries : Result Entries ℕ) (content : NodeContent) → content_with end entries ≡ Ok content → end ≡ content.end
ends_so end (Err n) content is = cc
ends_so end (Ok entries) content is =
    let made : NodeContent = record { entries = entries; end = end } in
    let ok : Result NodeContent ℕ = Ok made in
    let both : ok ≡ Ok content = is in
    let same : made ≡ content = cc in
    ap (λ (c : NodeContent). c.end) same

sets_so : (wanted : SetHead) (found : Result StoredSets ℕ) (content : NodeContent) → content_if wanted found ≡ Ok content → (sets : StoredSets) × (found ≡ Ok sets) × (sets.end ≡ content.end)
sets_so wanted (Err n) content is = cc
sets_so wanted (Ok sets) content is = (sets, refl, ends_so sets.end (entries_after wanted sets.sets _) content is)

pub content_made_up : (old new : FaultCounts) (id : List ℕ) (wanted : SetHead) (copies : Copies) (ptr : NodePtr) (read : ReadNode) → AgreeOn id wanted.birth copies → IsReadAs old new id wanted ptr copies read
    → content_in copies id wanted ≡ Ok (record { entries = read.node.entries; end = read.end })
content_made_up old new id wanted copies ptr read agree is =
    let content : NodeContent = record { entries = read.node.entries; end = read.end } in
    let found = sets_so wanted (sets_in is.seen id wanted.birth) content is.content in
    let same = sets_made_up id wanted.birth read.end copies is.seen agree is.shown found.0 found.1 (let le : read.end ≤ found.0.end = omega (arith, found.2) in le) in
    ap (content_if wanted) (same ∙ sym found.1) ∙ is.content
