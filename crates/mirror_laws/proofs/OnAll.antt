-- What stands on every metadata device stands whole on each; and it goes on standing there where images agree on the base.
use Rattle.std.proofs.Common.{◌≡◌, ℕ, ◌+◌, ◌<◌, List, [], ◌∷◌, length, get_or, Option, Ok, sym, ap, subst, ◌∙◌, arith}
use Rattle.std.proofs.lemmas.List.{get_or_default}
use Rattle.std.proofs.lemmas.List.Elements.{All-cons, All-nil}
use Rattle.std.proofs.lemmas.Option.{same_Some}
use Rattle.std.specs.Prelude.{All}
use Rattle.dev_model.specs.Disk.{Image, block_at}
use Rattle.image_view.specs.BaseLaws.{copies-same, found-newest}
use Rattle.image_view.specs.Bases.{AgreeInBucket, AgreeOnBase, AgreeOnNode}
use Rattle.image_view.specs.Found.{Found, IsAlike, found}
use Rattle.image_view.specs.Trees.{nodes_of}
use Rattle.image_view.proofs.CrashNewest.{AreWhole}
use Rattle.journal_ring.specs.Entries.{AgreeFrom, IsMadeOf, IsWhole}
use Rattle.journal_ring.specs.MadeOf.{made_of}
use Rattle.journal_ring.specs.Parts.{Area, area_of, numbered}
use Rattle.journal_ring.specs.declared.found.FoundEntry.{FoundEntry}
use Rattle.node_store.specs.Copies.{block_in, copy_at}
use Rattle.node_store.specs.StoredSets.{Copies}
use Rattle.node_store.specs.declared.opening.OpenBlock.{OpenBlock}
use Rattle.replay.specs.Mending.{StandsOnAll}
use Rattle.replay.specs.Roots.{Shows}
use Rattle.vol_types.specs.declared.layout.Layout.{Layout}
use Rattle.vol_types.specs.declared.pointers.NodePtr.{NodePtr}
use Rattle.vol_types.specs.declared.pointers.Place.{Place}
use Rattle.mirror_laws.specs.Standing.{EntryStandsOn, NodeStandsOn, StandsWholeOn}
use Rattle.mirror_laws.proofs.DegradedJournal.{EntryLaws, some_places}
use Rattle.mirror_laws.proofs.DegradedNodes.{copy_there}

-- A whole entry that stands on every metadata device stands whole on each.
pub entry_on_each : EntryLaws → (layout : Layout) (mirror : ℕ) → mirror < layout.metadata_replicas → (image : Image) (entry : FoundEntry) → IsWhole layout (area_of image) entry → StandsOnAll layout image entry → EntryStandsOn layout mirror (area_of image) entry
entry_on_each laws layout mirror low image entry whole stands =
    let m = made_of layout (area_of image) whole.0 entry whole.1 in
    let same : m.0 ≡ stands.blocks = laws.one layout.id entry.number entry.entry m.0 stands.blocks (laws.sealed layout (area_of image) entry m.0 m.1) stands.sealed in
    record {
      blocks = stands.blocks;
      made = subst (λ (bs : List (List ℕ)). IsMadeOf layout (area_of image) entry bs) same m.1;
      stand = λ p lower. stands.stand mirror p low lower;
      agree = λ dev p block head within lower there opens continues. same_Some block (get_or stands.blocks p []) (sym there ∙ stands.stand dev p within lower);
    }

-- A node whose copies are alike up to where its sets end stands whole on each.
pub node_on_each : (f : Found) (mirror : ℕ) (image : Image) (node : NodePtr) → IsAlike f image node → NodeStandsOn f mirror image node
node_on_each f mirror image node alike end found birth place there on n block less of shows =
    alike end found birth (copy_at (block_at image) place) shows.0 (copy_there (block_at image) node.places place there) shows.1 n less ∙ shows.2

-- ---- what was found

module _ (laws : EntryLaws) (are_whole : AreWhole) (f : Found) (mirror : ℕ) (low : mirror < f.layout.metadata_replicas) (image : Image) (is : found image ≡ Ok f) where
  pub entries_on_each : ((index : ℕ) → index < length f.needed → StandsOnAll f.layout image (get_or f.needed index f.last)) → All (EntryStandsOn f.layout mirror (area_of image)) f.needed
  entries_on_each stand k none lower =
      let new = found-newest image f is in
      let whole = are_whole f.layout (area_of image) f.last f.needed (some_places image f is) new.last new.needed in
      entry_on_each laws f.layout mirror low image (get_or f.needed k none) (whole k none lower) (subst (StandsOnAll f.layout image) (get_or_default f.needed k f.last none lower) (stand k lower))

-- ---- images that agree on the base

entry_again : (layout : Layout) (mirror : ℕ) → mirror < layout.metadata_replicas → (one other : Area) (entry : FoundEntry) → AgreeFrom layout one other entry.number entry.end → EntryStandsOn layout mirror one entry → EntryStandsOn layout mirror other entry
entry_again layout mirror low one other entry same stands =
    let end = stands.made.end in
    let at : (dev p : ℕ) → dev < layout.metadata_replicas → p < length stands.blocks → numbered layout one dev (entry.number + p) ≡ numbered layout other dev (entry.number + p) =
    λ dev p within lower. same dev (entry.number + p) within (omega arith) (omega (arith, lower, end)) in
    record {
      blocks = stands.blocks;
      made = record {
        first = stands.made.first;
        payload = stands.made.payload;
        begins = stands.made.begins;
        is_head = stands.made.is_head;
        session = stands.made.session;
        sequence = stands.made.sequence;
        end = stands.made.end;
        stand = λ p lower. let there = stands.made.stand p lower in (there.0, there.1, sym (at there.0 p there.1 lower) ∙ there.2);
        record_is = stands.made.record_is;
        read = stands.made.read;
      };
      stand = λ p lower. sym (at mirror p low lower) ∙ stands.stand p lower;
      agree = λ dev p block head within lower there opens continues. stands.agree dev p block head within lower (at dev p within lower ∙ there) opens continues;
    }

-- the copy at a place of an image, as one of a list
one_copy : (one other : Image) (place : Place) → AgreeInBucket one other place → copy_at (block_at other) place ≡ copy_at (block_at one) place
one_copy one other place same = ap (λ (copies : Copies). get_or copies 0 []) (copies-same one other (place ∷ []) (All-cons (AgreeInBucket one other) place [] same (All-nil (AgreeInBucket one other))))

node_again : (f : Found) (mirror : ℕ) (one other : Image) (node : NodePtr) → AgreeOnNode one other node → NodeStandsOn f mirror one node → NodeStandsOn f mirror other node
node_again f mirror one other node same stands end found birth place there on n block less of shows =
    let all = copies-same one other node.places same in
    let shown = subst (λ (copies : Copies). Shows copies n block) all shows in
    let bucket : AgreeInBucket one other place = subst (AgreeInBucket one other) there.2 (same there.0 place there.1) in
    ap (λ (copy : List (Option OpenBlock)). block_in copy n) (one_copy one other place bucket) ∙ stands end found birth place there on n block less of shown

-- Nodes that stand whole on a device in one image do so in one that agrees on their buckets.
pub nodes_again : (f : Found) (mirror : ℕ) (one other : Image) → All (AgreeOnNode one other) (nodes_of f.trees.nodes) → All (NodeStandsOn f mirror one) (nodes_of f.trees.nodes) → All (NodeStandsOn f mirror other) (nodes_of f.trees.nodes)
nodes_again f mirror one other same stand k none lower = node_again f mirror one other (get_or (nodes_of f.trees.nodes) k none) (same k none lower) (stand k none lower)

-- What stands whole on a device in one image does so in one that agrees on the base.
pub stands_again : (f : Found) (mirror : ℕ) (one other : Image) → AgreeOnBase f one other → StandsWholeOn f mirror one → StandsWholeOn f mirror other
stands_again f mirror one other agree stands = record {
  on_mirror = stands.on_mirror;
  entries = λ k none lower. entry_again f.layout mirror stands.on_mirror (area_of one) (area_of other) (get_or f.needed k none) (agree.entries k none lower) (stands.entries k none lower);
  nodes = nodes_again f mirror one other agree.nodes stands.nodes;
}
