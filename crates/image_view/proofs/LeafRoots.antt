-- What roots mean that are leaves, and what the roots of a next entry mean whose nodes hold keys with updates.
use Rattle.std.proofs.Common.{◌≡◌, ℕ, zero, suc, ◌<◌, Bool, true, false, cond, List, [], ◌∷◌, ◌++◌, length, map, take, drop, Some, None, Result, Ok, Err, refl, sym, ap, subst, ◌∙◌, arith}
use Rattle.std.proofs.lemmas.List.{append-nil, take-append-drop}
use Rattle.std.proofs.lemmas.List.Elements.{recursion_from_All}
use Rattle.std.specs.List.{AllByRecursion}
use Rattle.std.specs.Option.{option_map_or}
use Rattle.std.proofs.lemmas.Bool.{eqb-true}
use Rattle.std.specs.Prelude.{◌==◌, ◌||◌, All, slice_get}
use Rattle.dev_model.specs.Disk.{Image}
use Rattle.journal_ring.specs.declared.found.FoundEntry.{FoundEntry}
use Rattle.key_codec.specs.Combined.{ok_is}
use Rattle.key_codec.specs.Formats.{◌>>=◌}
use Rattle.node_store.specs.NodeContents.{NodeContent}
use Rattle.vol_types.specs.Btrees.{btree_code}
use Rattle.vol_types.specs.KeyMapLaws.{entries_of-key_map}
use Rattle.vol_types.specs.KeyMaps.{IsKeyMap, KeyMap, with_updates}
use Rattle.vol_types.specs.Maps.{IsMap}
use Rattle.vol_types.specs.Positions.{greatest_pos, pos_cmp}
use Rattle.vol_types.specs.declared.keys.Update.{Update}
use Rattle.vol_types.specs.declared.layout.Layout.{Layout}
use Rattle.vol_types.specs.declared.pointers.NodePtr.{NodePtr}
use Rattle.vol_types.specs.declared.pointers.Place.{Place}
use Rattle.vol_types.specs.declared.positions.Btree.{Btree}
use Rattle.vol_types.specs.declared.positions.Btree.TheVariants.{Extents, Inodes, Dirents, Subvols, Snapshots, Alloc, Backptrs, Deleted, Counters}
use Rattle.image_view.specs.BaseLaws.{found-trees}
use Rattle.image_view.specs.EntryUpdates.{updates_of-append}
use Rattle.image_view.specs.Found.{Found, found, sets_in, updates_of}
use Rattle.image_view.specs.NewNodes.{AreLeafRoots, HoldsPassed, leaf_trees, over_nodes, root_end, wanted_root}
use Rattle.image_view.specs.Trees.{BtreeRead, NodeRead, SetsOf, TreesRead, btree_of, each_of, ends_of, first_place, first_twin, has_birth, joined, nodes_of, read_down, trees_of, with_own_births, with_roots}
use Rattle.image_view.specs.UpdatedTrees.{IsOfLeaf, with_key_updates}
use Rattle.image_view.proofs.LeafUpdates.{all_entries}
use Rattle.image_view.proofs.LevelUpdates.{ok_reads}
use Rattle.image_view.proofs.NineRoots.{EntryLaws, nine_roots}
use Rattle.image_view.proofs.Replayed.{keys_again}
use Rattle.image_view.proofs.SetRanges.{sets_are_ordered}
use Rattle.image_view.proofs.TreeUpdates.{trees_of-more}

-- a btree that was read, of one leaf
abbrev leaf_read : (Btree → NodeContent) → Btree × NodePtr → BtreeRead
leaf_read content pair = record { entries = (content pair.0).entries; levels = ((greatest_pos, pair.1) ∷ []) ∷ []; ends = root_end content pair ∷ [] }

abbrev was_read : BtreeRead → Result BtreeRead Place
was_read read = Ok read

abbrev ok_node : NodeRead → Result NodeRead Place
ok_node read = Ok read

abbrev were_read : List BtreeRead → Result (List BtreeRead) Place
were_read reads = Ok reads

-- The root is a leaf whose sets come to its btree's content.
record IsLeafRoot (sets : SetsOf) (content : Btree → NodeContent) (pair : Btree × NodePtr) : Type 0 where
  leaf : pair.1.level ≡ 0
  comes : sets (wanted_root pair.0 pair.1) ≡ Ok (content pair.0)

module _ (sets : SetsOf) (content : Btree → NodeContent) where
  -- A btree of one leaf is what the leaf's sets come to.
  leaf_is : (pair : Btree × NodePtr) → IsLeafRoot sets content pair → btree_of sets [] pair ≡ was_read (leaf_read content pair)
  leaf_is pair is =
      ap (λ level. read_down sets [] pair.0 level ((greatest_pos, pair.1) ∷ [])) is.leaf
      ∙ ap (λ r. (r >>= (λ (read : NodeContent). ok_node (record { greatest = greatest_pos; pointer = pair.1; entries = read.entries; end = read.end })) >>= (λ first. ok_reads (first ∷ []))) >>= (λ reads. was_read (record { entries = all_entries reads; levels = ((greatest_pos, pair.1) ∷ []) ∷ []; ends = ends_of reads }))) is.comes
      ∙ ap (λ entries. was_read (record { entries = entries; levels = ((greatest_pos, pair.1) ∷ []) ∷ []; ends = root_end content pair ∷ [] })) (append-nil (content pair.0).entries)

  -- So are several.
  leaves_are : (pairs : List (Btree × NodePtr)) → AllByRecursion (IsLeafRoot sets content) pairs → each_of (btree_of sets []) pairs ≡ were_read (map (leaf_read content) pairs)
  leaves_are [] are = refl
  leaves_are (pair ∷ pairs) are =
      ap (λ r. r >>= (λ read. each_of (btree_of sets []) pairs >>= (λ rest. were_read (read ∷ rest)))) (leaf_is pair are.0)
      ∙ ap (λ r. r >>= (λ rest. were_read (leaf_read content pair ∷ rest))) (leaves_are pairs are.1)

-- Nine btrees of one leaf each, together.
leaves_joined : (roots : List NodePtr) (content : Btree → NodeContent) → length roots ≡ 9 → joined (map (leaf_read content) (with_roots roots)) ≡ leaf_trees roots content
leaves_joined [] content nine = absurd (omega (arith, nine))
leaves_joined (a ∷ []) content nine = absurd (omega (arith, nine))
leaves_joined (a ∷ b ∷ []) content nine = absurd (omega (arith, nine))
leaves_joined (a ∷ b ∷ c ∷ []) content nine = absurd (omega (arith, nine))
leaves_joined (a ∷ b ∷ c ∷ d ∷ []) content nine = absurd (omega (arith, nine))
leaves_joined (a ∷ b ∷ c ∷ d ∷ e ∷ []) content nine = absurd (omega (arith, nine))
leaves_joined (a ∷ b ∷ c ∷ d ∷ e ∷ f ∷ []) content nine = absurd (omega (arith, nine))
leaves_joined (a ∷ b ∷ c ∷ d ∷ e ∷ f ∷ g ∷ []) content nine = absurd (omega (arith, nine))
leaves_joined (a ∷ b ∷ c ∷ d ∷ e ∷ f ∷ g ∷ h ∷ []) content nine = absurd (omega (arith, nine))
leaves_joined (a ∷ b ∷ c ∷ d ∷ e ∷ f ∷ g ∷ h ∷ i ∷ []) content nine = refl
leaves_joined (a ∷ b ∷ c ∷ d ∷ e ∷ f ∷ g ∷ h ∷ i ∷ j ∷ more) content nine = absurd (omega (arith, nine))

-- The nodes of btrees of one leaf are their roots.
root_nodes : (roots : List NodePtr) (content : Btree → NodeContent) → nodes_of (leaf_trees roots content).nodes ≡ roots
root_nodes [] content = refl
root_nodes (root ∷ roots) content = ap (λ rest. root ∷ rest) (root_nodes roots content)

-- Each of nine roots is the leaf of its btree.
leaf_roots : (sets : SetsOf) (roots : List NodePtr) (content : Btree → NodeContent) → AreLeafRoots sets roots content → AllByRecursion (IsLeafRoot sets content) (with_roots roots)
leaf_roots sets [] content are = absurd (omega (arith, are.nine))
leaf_roots sets (a ∷ []) content are = absurd (omega (arith, are.nine))
leaf_roots sets (a ∷ b ∷ []) content are = absurd (omega (arith, are.nine))
leaf_roots sets (a ∷ b ∷ c ∷ []) content are = absurd (omega (arith, are.nine))
leaf_roots sets (a ∷ b ∷ c ∷ d ∷ []) content are = absurd (omega (arith, are.nine))
leaf_roots sets (a ∷ b ∷ c ∷ d ∷ e ∷ []) content are = absurd (omega (arith, are.nine))
leaf_roots sets (a ∷ b ∷ c ∷ d ∷ e ∷ f ∷ []) content are = absurd (omega (arith, are.nine))
leaf_roots sets (a ∷ b ∷ c ∷ d ∷ e ∷ f ∷ g ∷ []) content are = absurd (omega (arith, are.nine))
leaf_roots sets (a ∷ b ∷ c ∷ d ∷ e ∷ f ∷ g ∷ h ∷ []) content are = absurd (omega (arith, are.nine))
leaf_roots sets (a ∷ b ∷ c ∷ d ∷ e ∷ f ∷ g ∷ h ∷ i ∷ more) content are =
    let all = recursion_from_All (λ (root : NodePtr). root.level ≡ 0) (a ∷ b ∷ c ∷ d ∷ e ∷ f ∷ g ∷ h ∷ i ∷ more) are.leaves in
    (record { leaf = all.0; comes = are.each Extents a refl }, (record { leaf = all.1.0; comes = are.each Inodes b refl }, (record { leaf = all.1.1.0; comes = are.each Dirents c refl }, (record { leaf = all.1.1.1.0; comes = are.each Subvols d refl }, (record { leaf = all.1.1.1.1.0; comes = are.each Snapshots e refl }, (record { leaf = all.1.1.1.1.1.0; comes = are.each Alloc f refl }, (record { leaf = all.1.1.1.1.1.1.0; comes = are.each Backptrs g refl }, (record { leaf = all.1.1.1.1.1.1.1.0; comes = are.each Deleted h refl }, (record { leaf = all.1.1.1.1.1.1.1.1.0; comes = are.each Counters i refl }, tt)))))))))

-- One of some nodes has a birth, where it is found among theirs.
with_birth : (node : NodePtr) (others : List NodePtr) → has_birth node others ≡ true → (place : ℕ) × (other : NodePtr) × (slice_get others place ≡ Some other) × (node.birth ≡ other.birth)
with_birth node [] has = absurd cc
with_birth node (one ∷ others) has = by (one.birth == node.birth) refl has (with_birth node others)
  where
    by : (b : Bool) → (one.birth == node.birth) ≡ b → (b || has_birth node others) ≡ true → (has_birth node others ≡ true → (place : ℕ) × (other : NodePtr) × (slice_get others place ≡ Some other) × (node.birth ≡ other.birth))
        → (place : ℕ) × (other : NodePtr) × (slice_get (one ∷ others) place ≡ Some other) × (node.birth ≡ other.birth)
    by true same has later = (0, one, refl, sym (eqb-true one.birth node.birth same))
    by false same has later = let at = later has in (suc at.0, at.1, at.2, at.3)

-- Nodes of which no two have one birth have no twins.
no_twin : (roots : List NodePtr) → ((place other : ℕ) (one same : NodePtr) → slice_get roots place ≡ Some one → slice_get roots other ≡ Some same → one.birth ≡ same.birth → place ≡ other) → first_twin roots ≡ None
no_twin [] own = refl
no_twin (root ∷ roots) own = by (has_birth root roots) refl (no_twin roots (λ place other one same at there birth. let next = own (suc place) (suc other) one same at there birth in omega (arith, next)))
  where
    by : (b : Bool) → has_birth root roots ≡ b → first_twin roots ≡ None → cond b (Some root) (first_twin roots) ≡ None
    by true has later =
        let at = with_birth root roots has in
        let place = own 0 (suc at.0) root at.1 refl at.2 at.3 in
        absurd (omega (arith, place))
    by false has later = later

-- Roots that are leaves mean what their sets come to.
pub roots_are : (sets : SetsOf) (roots : List NodePtr) (content : Btree → NodeContent) → AreLeafRoots sets roots content → trees_of sets [] roots ≡ Ok (leaf_trees roots content)
unfolding trees_of
roots_are sets roots content are =
    ap (λ r. r >>= (λ btrees. with_own_births (joined btrees))) (leaves_are sets content (with_roots roots) (leaf_roots sets roots content are))
    ∙ ap with_own_births (leaves_joined roots content are.nine)
    ∙ ap (λ twin. option_map_or (λ (node : NodePtr). Err (first_place node)) twin (Ok (leaf_trees roots content))) (ap first_twin (root_nodes roots content) ∙ no_twin roots are.births)

root_at : (roots : List NodePtr) (place : ℕ) → place < length roots → (root : NodePtr) × (slice_get roots place ≡ Some root)
root_at [] place less = absurd (omega (arith, less))
root_at (root ∷ roots) zero less = (root, refl)
root_at (root ∷ roots) (suc place) less = root_at roots place (omega (arith, less))

below_nine : (btree : Btree) → btree_code btree < 9
below_nine Extents = omega arith
below_nine Inodes = omega arith
below_nine Dirents = omega arith
below_nine Subvols = omega arith
below_nine Snapshots = omega arith
below_nine Alloc = omega arith
below_nine Backptrs = omega arith
below_nine Deleted = omega arith
below_nine Counters = omega arith

-- In an image their keys are maps.
pub roots_rise : (layout : Layout) (image : Image) (roots : List NodePtr) (content : Btree → NodeContent) → AreLeafRoots (sets_in layout image) roots content → IsKeyMap (leaf_trees roots content).keys
roots_rise layout image roots content are = record {
  rises = λ btree.
      let nine = are.nine in
      let less = below_nine btree in
      let root = root_at roots (btree_code btree) (omega (arith, nine, less)) in
      subst (IsMap pos_cmp) (sym (entries_of-key_map (λ b. (content b).entries) btree)) (sets_are_ordered layout image (wanted_root btree root.0) (content btree) (are.each btree root.0 root.1)).rises;
}

-- ---- the next entry

all_right : (xs ys : List Update) → AllByRecursion IsOfLeaf (xs ++ ys) → AllByRecursion IsOfLeaf ys
all_right [] ys all = all
all_right (x ∷ xs) ys all = all_right xs ys all.1

all_both : (xs ys : List Update) → AllByRecursion IsOfLeaf xs → AllByRecursion IsOfLeaf ys → AllByRecursion IsOfLeaf (xs ++ ys)
all_both [] ys one other = other
all_both (x ∷ xs) ys one other = (one.0, all_both xs ys one.1 other)

-- The updates of the entries that are still needed and of the next one are of leaves.
left_leaves : (passed : ℕ) (needed : List FoundEntry) (next : FoundEntry) → All IsOfLeaf (updates_of needed) → All IsOfLeaf next.entry.updates → AllByRecursion IsOfLeaf (updates_of (drop passed needed ++ next ∷ []))
left_leaves passed needed next leaves more =
    let all : updates_of (drop passed needed ++ next ∷ []) ≡ updates_of (drop passed needed) ++ next.entry.updates = updates_of-append (drop passed needed) (next ∷ []) ∙ ap (λ (us : List Update). updates_of (drop passed needed) ++ us) (append-nil next.entry.updates) in
    let split : updates_of needed ≡ updates_of (take passed needed) ++ updates_of (drop passed needed) = ap updates_of (sym (take-append-drop passed needed)) ∙ updates_of-append (take passed needed) (drop passed needed) in
    subst (AllByRecursion IsOfLeaf) (sym all) (all_both (updates_of (drop passed needed)) next.entry.updates
    (all_right (updates_of (take passed needed)) (updates_of (drop passed needed)) (subst (AllByRecursion IsOfLeaf) split (recursion_from_All IsOfLeaf (updates_of needed) leaves)))
    (recursion_from_All IsOfLeaf next.entry.updates more))

-- Roots that name new nodes mean the keys that were found with the next entry's updates, where the nodes' sets hold the keys of the old ones with
-- the updates of the entries that are passed.
pub new_means : EntryLaws → (image : Image) (f : Found) (passed : ℕ) (next : FoundEntry) (old new : TreesRead) → found image ≡ Ok f → trees_of (sets_in f.layout image) [] f.last.entry.roots ≡ Ok old → IsKeyMap old.keys
    → length next.entry.roots ≡ 9 → trees_of (sets_in f.layout image) [] next.entry.roots ≡ Ok new → All IsOfLeaf (updates_of f.needed) → All IsOfLeaf next.entry.updates
    → ((btree : Btree) → HoldsPassed f.needed passed old.keys new.keys btree)
    → trees_of (sets_in f.layout image) (updates_of (drop passed f.needed ++ next ∷ [])) next.entry.roots ≡ Ok (with_key_updates next.entry.updates (over_nodes f.trees new))
new_means laws image f passed next old new is before rises nine read leaves more has =
    let sets = sets_in f.layout image in
    let ordered = sets_are_ordered f.layout image in
    let updates : List Update = updates_of (drop passed f.needed ++ next ∷ []) in
    let made : with_key_updates (updates_of f.needed) old ≡ f.trees =
    ok_is (with_key_updates (updates_of f.needed) old) f.trees
    (sym (trees_of-more sets [] (updates_of f.needed) f.last.entry.roots old ordered (recursion_from_All IsOfLeaf (updates_of f.needed) leaves) (nine_roots laws image f is) before) ∙ found-trees image f is) in
    let keys : with_updates updates new.keys ≡ with_updates next.entry.updates f.trees.keys =
    keys_again f.needed passed next old.keys new.keys rises has ∙ ap (λ (t : TreesRead). with_updates next.entry.updates t.keys) made in
    trees_of-more sets [] updates next.entry.roots new ordered (left_leaves passed f.needed next leaves more) nine read
    ∙ ap (λ (ks : KeyMap). Ok (record { keys = ks; nodes = new.nodes; ends = new.ends })) keys
