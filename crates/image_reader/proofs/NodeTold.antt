-- A node that was read, with the changes of its keys, is the one that is defined, and ragged where it is.
use Rattle.std.proofs.Common.{◌≡◌, ⊎_elim, ℕ, ◌+◌, Bool, true, false, cond, List, [], ◌∷◌, Option, Some, Result, Ok, Err, refl, ap, sym, ◌∙◌, subst}
use Rattle.std.specs.Prelude.{◌↔◌, option_map, slice_get, slice_index_or}
use Rattle.std.specs.List.{filter}
use Rattle.std.specs.List.Sorted.{IsStrictlySortedBy}
use Rattle.std.proofs.lemmas.Option.{same_Some}
use Rattle.dev_model.specs.Devices.{FaultCounts}
use Rattle.dev_model.specs.Disk.{Image, block_at}
use Rattle.geometry.specs.Faults.{SomeFailed}
use Rattle.image_view.specs.BaseLaws.{sets_in-comes}
use Rattle.image_view.specs.Found.{are_mirrored, bad_place, sets_in}
use Rattle.image_view.specs.Trees.{NodeRead, Wanted, first_place, is_of_node, read_node, updated}
use Rattle.key_codec.specs.Combined.{ok_is}
use Rattle.key_codec.specs.Formats.{◌>>=◌, carried}
use Rattle.node_mem.specs.Nodes.{IsNode}
use Rattle.node_store.specs.Answers.{AreAlike, IsBadAt, IsReadAs}
use Rattle.node_store.specs.Copies.{copies_at}
use Rattle.node_store.specs.NodeContents.{NodeContent, content_if, content_in, content_with, entries_after, wanted_of}
use Rattle.node_store.specs.StoredSets.{Copies, sets_in as stored_in}
use Rattle.node_store.specs.declared.reading.ReadNode.{ReadNode}
use Rattle.node_store.specs.declared.sets.StoredSets.{StoredSets}
use Rattle.record_codec.specs.declared.sets.SetHead.{SetHead}
use Rattle.vol_types.specs.KeyMaps.{Entries}
use Rattle.vol_types.specs.Maps.{IsMap}
use Rattle.vol_types.specs.Positions.{pos_cmp}
use Rattle.vol_types.specs.declared.keys.Update.{Update}
use Rattle.vol_types.specs.declared.layout.Layout.{Layout}
use Rattle.vol_types.specs.declared.pointers.NodePtr.{NodePtr}
use Rattle.vol_types.specs.declared.pointers.Place.{Place}
use Rattle.vol_types.specs.declared.positions.Btree.{Btree}
use Rattle.vol_types.specs.declared.positions.Pos.{Pos}
use Rattle.vol_types.specs.declared.values.Value.{Value}
use Rattle.image_reader.specs.Answers.{IsRagged}
use Rattle.image_reader.specs.Changes.{Changes, all_noted, changes_within, with_changes}
use Rattle.image_reader.specs.Nodes.{node_in}
use Rattle.image_reader.specs.declared.nodes.FoundNode.{FoundNode}
use Rattle.image_reader.proofs.Noted.{made-noted}

no_changes : IsMap {X = Option Value} pos_cmp []
unfolding IsStrictlySortedBy
no_changes = tt

-- the place that is named is the block's on the first place
named_at : (places : List Place) (n : ℕ) (place : Place) → option_map (λ (p : Place). record { dev = p.dev; block = p.block + n }) (slice_get places 0) ≡ Some place
    → record { dev = (slice_index_or places 0 (record { dev = 0; block = 0 })).dev; block = (slice_index_or places 0 (record { dev = 0; block = 0 })).block + n } ≡ place
named_at [] n place is = absurd cc
named_at (p ∷ places) n place is = same_Some _ _ is

-- a content that was found has the end of its sets
ended : (end : ℕ) (entries : Result Entries ℕ) (content : NodeContent) → content_with end entries ≡ Ok content → content.end ≡ end
ended end (Ok entries) content is = ap (λ (c : NodeContent). c.end) (sym (ok_is _ _ is))
ended end (Err n) content is = absurd cc

sets_ended : (wanted : SetHead) (sets : Result StoredSets ℕ) (content : NodeContent) → content_if wanted sets ≡ Ok content → (found : StoredSets) × (sets ≡ Ok found) × (content.end ≡ found.end)
sets_ended wanted (Ok found) content is = (found, refl, ended found.end (entries_after wanted found.sets []) content is)
sets_ended wanted (Err n) content is = absurd cc

not_true : (b : Bool) → (b ≡ false → ⊥) → b ≡ true
not_true true other = refl
not_true false other = absurd (other refl)

module _ (old new : FaultCounts) (layout : Layout) (image : Image) (btree : Btree) (least greatest : Pos) (pointer : NodePtr) where
  -- the node as it is looked for
  abbrev wanted : Wanted
  wanted = record { btree = btree; least = least; greatest = greatest; pointer = pointer }

  -- what each of its sets must say
  abbrev head : SetHead
  head = wanted_of btree least greatest pointer

  -- what its places show
  abbrev copies : Copies
  copies = copies_at (block_at image) pointer.places

  -- a node with its entries and its end
  abbrev node_with : List Update → NodeContent → NodeRead
  node_with updates content = record { greatest = greatest; pointer = pointer; entries = updated (filter (is_of_node wanted) updates) content.entries; end = content.end }

  module _ (read : ReadNode) (answer : IsReadAs old new layout.id head pointer copies read) where
    -- what was read
    abbrev content : NodeContent
    content = record { entries = read.node.entries; end = read.end }

    -- What was read is what its places hold.
    is_content : (SomeFailed old new → content_in copies layout.id head ≡ Ok content) → content_in copies layout.id head ≡ Ok content
    is_content made_up = ⊎_elim
        (λ (same : answer.seen ≡ copies). subst (λ (cs : Copies). content_in cs layout.id head ≡ Ok content) same answer.content)
        made_up answer.all

    pub node_told : (updates : List Update) (changes : Changes) (node : FoundNode) → are_mirrored layout 0 pointer.places ≡ true → changes ≡ all_noted btree pointer.level updates []
        → (SomeFailed old new → content_in copies layout.id head ≡ Ok content) → IsNode read.node → read.node.least ≡ least → read.node.greatest ≡ greatest
        → node_in node ≡ record { greatest = greatest; pointer = pointer; entries = with_changes (changes_within read.node.least read.node.greatest changes) read.node.entries; end = read.end }
        → read_node (sets_in layout image) updates wanted ≡ Ok (node_in node)
    node_told updates changes node mirrored noted made_up sound low high is =
        ap (λ r. r >>= (λ content. Ok (node_with updates content))) (sets_in-comes layout image wanted content mirrored (is_content made_up))
        ∙ ap (λ (es : Entries). Ok (record { greatest = greatest; pointer = pointer; entries = es; end = read.end }))
        (made-noted least greatest read.node.entries sound.rises btree pointer updates [] no_changes
        ∙ (λ i. with_changes (changes_within (sym low i) (sym high i) (sym noted i)) read.node.entries))
        ∙ ap (λ (n : NodeRead). Ok n) (sym is)

    -- A node of which no read failed is ragged where it was seen to be.
    pub ragged_told : (SomeFailed old new → ⊥) → (read.ragged ≡ true) ↔ IsRagged layout.id image pointer
    ragged_told unfailed =
        let same : answer.seen ≡ copies = ⊎_elim (λ (same : answer.seen ≡ copies). same) (λ (failed : SomeFailed old new). absurd (unfailed failed)) answer.all in
        let alike : (read.ragged ≡ false) ↔ AreAlike read.end copies = subst (λ (cs : Copies). (read.ragged ≡ false) ↔ AreAlike read.end cs) same answer.ragged in
        let found = sets_ended head (stored_in copies layout.id pointer.birth) content (is_content (λ failed. absurd (unfailed failed))) in (
          λ ragged. record { sets = found.0; found = found.1; differ = λ all. let even : read.ragged ≡ false = alike.1 (subst (λ n. AreAlike n copies) (sym found.2) all) in absurd cc },
          λ (is : IsRagged layout.id image pointer). not_true read.ragged (λ even.
              let one : is.sets ≡ found.0 = ok_is _ _ (sym is.found ∙ found.1) in
              is.differ (subst (λ (s : StoredSets). AreAlike s.end copies) (sym one) (subst (λ n. AreAlike n copies) found.2 (alike.0 even)))),
        )

  -- A node that is bad is so.
  pub node_bad : (updates : List Update) (place : Place) → are_mirrored layout 0 pointer.places ≡ true → IsBadAt layout.id head pointer copies place → read_node (sets_in layout image) updates wanted ≡ Err place
  node_bad updates place mirrored bad =
      ap (λ (test : Bool). cond test (carried (bad_place pointer) (content_in copies layout.id head)) (Err (first_place pointer)) >>= (λ content. Ok (node_with updates content))) mirrored
      ∙ ap (λ r. carried (bad_place pointer) r >>= (λ content. Ok (node_with updates content))) bad.content
      ∙ ap (λ (p : Place). Err p) (named_at pointer.places bad.block place bad.named)

  -- So is one whose places aren't one bucket inside each metadata device, in their order.
  pub node_misplaced : (updates : List Update) (test : Bool) → test ≡ are_mirrored layout 0 pointer.places → test ≡ false → read_node (sets_in layout image) updates wanted ≡ Err (first_place pointer)
  node_misplaced updates test is misplaced =
      ap (λ (t : Bool). cond t (carried (bad_place pointer) (content_in copies layout.id head)) (Err (first_place pointer)) >>= (λ content. Ok (node_with updates content))) (sym is ∙ misplaced)
