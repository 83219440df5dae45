-- Laws on leaves and on new nodes while devices are called, for whoever calls them: they stand where none of their blocks is asked for.
use Rattle.std.proofs.Common.{◌≡◌, ℕ, ◌+◌, ◌<◌, ◌≤◌, List, length, get_or, refl, sym, ◌∙◌, subst, arith}
use Rattle.std.proofs.lemmas.List.Elements.{Contains-get_or}
use Rattle.std.specs.Prelude.{Contains}
use Rattle.dev_model.specs.Devices.{DevicesState, now}
use Rattle.dev_model.specs.Disk.{Image, IsCrashImage, as_read}
use Rattle.image_view.specs.BaseLaws.{copies-same, node-same}
use Rattle.image_view.specs.Bases.{AgreeOnNode}
use Rattle.crash_safety.specs.Parts.{AsksAt}
use Rattle.node_store.specs.Answers.{AgreeOn, AreAlike}
use Rattle.node_store.specs.NodeContents.{NodeContent}
use Rattle.node_store.specs.declared.planning.Blocked.{Blocked}
use Rattle.vol_types.specs.Limits.{bucket_blocks}
use Rattle.vol_types.specs.Positions.{greatest_pos, least_pos}
use Rattle.vol_types.specs.declared.layout.Layout.{Layout}
use Rattle.vol_types.specs.declared.pointers.NodePtr.{NodePtr}
use Rattle.vol_types.specs.declared.pointers.Place.{Place}
use Rattle.vol_types.specs.declared.positions.Btree.{Btree}
use Rattle.crash_safety.specs.Leaves.{IsOfNode, KeepsOff, StandsAsLeaf}
use Rattle.crash_safety.specs.NodeParts.{StandParts}

-- the blocks of the bucket on a node's places
of_node : (node : NodePtr) (k : ℕ) (d : Place) → k < length node.places → (n : ℕ) → n < bucket_blocks → IsOfNode node (get_or node.places k d).dev ((get_or node.places k d).block + n)
of_node node k d lower n few = (get_or node.places k d, n, Contains-get_or node.places k d lower, few, refl, refl)

module _ (layout : Layout) (session : ℕ) (btree : Btree) (root : NodePtr) (content : NodeContent) (old new : DevicesState) where
  -- A leaf stands where its buckets are read as they were, and a crash leaves them so.
  pub leaf_stays : AgreeOnNode (as_read (now old)) (as_read (now new)) root → ((image : Image) → IsCrashImage (now new) image → AgreeOnNode (as_read (now old)) image root)
      → StandsAsLeaf layout session btree root content old → StandsAsLeaf layout session btree root content new
  leaf_stays same left stands = record {
    leaf = stands.leaf;
    reads = node-same layout (as_read (now old)) (as_read (now new)) root same btree least_pos greatest_pos ∙ stands.reads;
    mirrored = stands.mirrored;
    alike = subst (AreAlike content.end) (sym (copies-same (as_read (now old)) (as_read (now new)) root.places same)) stands.alike;
    agree = subst (AgreeOn layout.id root.birth) (sym (copies-same (as_read (now old)) (as_read (now new)) root.places same)) stands.agree;
    born = stands.born;
    placed = stands.placed;
    left = λ image may k d lower n few. sym (same k d lower n few) ∙ left image may k d lower n few;
  }

  -- So it does where calls ask for none of its blocks.
  pub leaf_elsewhere : (touched : ℕ → ℕ → Type 0) (asked : ℕ → ℕ → List ℕ → Type 0) → AsksAt touched asked old new → KeepsOff touched root → StandsAsLeaf layout session btree root content old → StandsAsLeaf layout session btree root content new
  leaf_elsewhere touched asked call off stands = leaf_stays
      (λ k d lower n few. call.elsewhere _ _ (off _ _ (of_node root k d lower n few)))
      (λ image may k d lower n few.
      let before = call.crashes.each new.moment call.crashes.later (omega arith) image may in
      stands.left before.0 before.1 k d lower n few ∙ before.2 _ _ (off _ _ (of_node root k d lower n few)))
      stands

module _ (blocked : Blocked) (count : ℕ) where
  -- What keeps off a node at whose places blocks are planned touches none of these.
  pub parts_off : (touched : ℕ → ℕ → Type 0) (fresh : NodePtr) → blocked.places ≡ fresh.places → blocked.block + count ≤ bucket_blocks → KeepsOff touched fresh
      → (part : ℕ) (place : Place) → part < count → Contains blocked.places place → ¬ touched place.dev (place.block + (blocked.block + part))
  parts_off touched fresh same few off part place less there =
      off place.dev (place.block + (blocked.block + part)) (place, blocked.block + part, subst (λ (ps : List Place). Contains ps place) same there, omega (arith, few, less), refl, refl)

  -- The planned blocks that stand go on standing where calls ask for none of them.
  pub parts_elsewhere : (touched : ℕ → ℕ → Type 0) (asked : ℕ → ℕ → List ℕ → Type 0) (old new : DevicesState) → AsksAt touched asked old new
      → ((part : ℕ) (place : Place) → part < count → Contains blocked.places place → ¬ touched place.dev (place.block + (blocked.block + part))) → StandParts blocked count old → StandParts blocked count new
  parts_elsewhere touched asked old new call off stand part less place there = sym (call.elsewhere _ _ (off part place less there)) ∙ stand part less place there
