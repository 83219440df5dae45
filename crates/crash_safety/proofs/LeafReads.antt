-- What is known of roots that are leaves where it is known what they mean: what the sets of each come to, the nodes, and that births differ.
use Rattle.std.proofs.Common.{◌≡◌, ℕ, zero, suc, Bool, true, false, cond, List, [], ◌∷◌, length, map, Option, None, Some, Result, Ok, Err, refl, sym, ap, ◌∙◌}
use Rattle.std.proofs.lemmas.Bool.{eq-eqb, or_left, or_right, true≢false}
use Rattle.std.proofs.lemmas.Option.{none-some, same_Some}
use Rattle.std.specs.List.{AllByRecursion, filter, flat_map}
use Rattle.std.specs.Option.{option_map_or}
use Rattle.std.specs.Prelude.{◌==◌, slice_get}
use Rattle.key_codec.specs.Combined.{bind_ok, ok_is}
use Rattle.key_codec.specs.Formats.{◌>>=◌}
use Rattle.node_store.specs.NodeContents.{NodeContent}
use Rattle.tree_nodes.specs.Levels.{Levels}
use Rattle.vol_types.specs.Positions.{greatest_pos, least_pos}
use Rattle.vol_types.specs.declared.keys.Update.{Update}
use Rattle.vol_types.specs.declared.pointers.NodePtr.{NodePtr}
use Rattle.vol_types.specs.declared.pointers.Place.{Place}
use Rattle.vol_types.specs.declared.positions.Btree.{Btree}
use Rattle.image_view.specs.NewNodes.{wanted_root}
use Rattle.image_view.specs.Trees.{BtreeRead, NodeRead, SetsOf, TreesRead, btree_of, each_of, ends_of, first_place, first_twin, has_birth, is_of_node, joined, nodes_of, read_down, read_level, read_node, trees_of, updated, with_own_births, with_roots}
use Rattle.crash_safety.specs.Leaves.{leaf_nodes}
use Rattle.crash_safety.proofs.NineRoots.{pairs_are_roots, root_nodes}

-- ---- one leaf

-- The sets of a root come to something.
pub record IsRead (sets : SetsOf) (pair : Btree × NodePtr) : Type 0 where
  pub content : NodeContent
  pub comes : sets (wanted_root pair.0 pair.1) ≡ Ok content

-- the level of a leaf that is a root
abbrev leaf_levels : Btree × NodePtr → Levels
leaf_levels pair = ((greatest_pos, pair.1) ∷ []) ∷ []

abbrev was_read : BtreeRead → Result BtreeRead Place
was_read read = Ok read

module _ (sets : SetsOf) (updates : List Update) where
  -- A btree that was read, of one leaf.
  down_read : (pair : Btree × NodePtr) (read : BtreeRead) → read_down sets updates pair.0 0 ((greatest_pos, pair.1) ∷ []) ≡ Ok read → IsRead sets pair × (read.levels ≡ leaf_levels pair)
  down_read pair read is =
      let nodes_read : List NodeRead → Result (List NodeRead) Place = λ reads. Ok reads in
      let node_read : NodeRead → Result NodeRead Place = λ node. Ok node in
      let with_rest : NodeRead → Result (List NodeRead) Place = λ first. nodes_read [] >>= (λ others. nodes_read (first ∷ others)) in
      let with_entries : NodeContent → Result NodeRead Place = λ content. node_read (record { greatest = greatest_pos; pointer = pair.1; entries = updated (filter (is_of_node (wanted_root pair.0 pair.1)) updates) content.entries; end = content.end }) in
      let of_leaves : List NodeRead → Result BtreeRead Place = λ reads. was_read (record { entries = flat_map (λ (node : NodeRead). node.entries) reads; levels = leaf_levels pair; ends = ends_of reads }) in
      let level = bind_ok (read_level sets updates pair.0 least_pos ((greatest_pos, pair.1) ∷ [])) of_leaves read is in
      let node = bind_ok (read_node sets updates (wanted_root pair.0 pair.1)) with_rest level.0 level.1 in
      let content = bind_ok (sets (wanted_root pair.0 pair.1)) with_entries node.0 node.1 in
      (record { content = content.0; comes = content.1 }, ap (λ (r : BtreeRead). r.levels) (sym (ok_is _ _ level.2)))

  root_read : (pair : Btree × NodePtr) (read : BtreeRead) → pair.1.level ≡ 0 → btree_of sets updates pair ≡ Ok read → IsRead sets pair × (read.levels ≡ leaf_levels pair)
  root_read pair read leaf is = down_read pair read (ap (λ (level : ℕ). read_down sets updates pair.0 level ((greatest_pos, pair.1) ∷ [])) (sym leaf) ∙ is)

  -- All of them.
  roots_read : (pairs : List (Btree × NodePtr)) (reads : List BtreeRead) → AllByRecursion (λ (pair : Btree × NodePtr). pair.1.level ≡ 0) pairs → each_of (btree_of sets updates) pairs ≡ Ok reads
      → AllByRecursion (IsRead sets) pairs × (map (λ (read : BtreeRead). read.levels) reads ≡ map leaf_levels pairs)
  roots_read [] reads leaves is = (tt, ap (map (λ (read : BtreeRead). read.levels)) (sym (ok_is [] reads is)))
  roots_read (pair ∷ pairs) reads leaves is =
      let were_read : List BtreeRead → Result (List BtreeRead) Place = λ all. Ok all in
      let with_first : BtreeRead → List BtreeRead → Result (List BtreeRead) Place = λ read rest. were_read (read ∷ rest) in
      let first = bind_ok (btree_of sets updates pair) (λ read. each_of (btree_of sets updates) pairs >>= with_first read) reads is in
      let rest = bind_ok (each_of (btree_of sets updates) pairs) (with_first first.0) reads first.2 in
      let here = root_read pair first.0 leaves.0 first.1 in
      let later = roots_read pairs rest.0 leaves.1 rest.1 in (
        (here.0, later.0),
        ap (map (λ (read : BtreeRead). read.levels)) (sym (ok_is (first.0 ∷ rest.0) reads rest.2)) ∙ (λ i. here.1 i ∷ later.1 i),
      )

-- ---- births

-- Where a node of some has the birth of another one, it is found among theirs.
has_member : (node : NodePtr) (others : List NodePtr) (place : ℕ) (other : NodePtr) → slice_get others place ≡ Some other → other.birth ≡ node.birth → has_birth node others ≡ true
has_member node [] place other at same = absurd (none-some other at)
has_member node (one ∷ others) zero other at same = or_left (one.birth == node.birth) (has_birth node others) (eq-eqb one.birth node.birth (ap (λ (n : NodePtr). n.birth) (same_Some one other at) ∙ same))
has_member node (one ∷ others) (suc place) other at same = or_right (one.birth == node.birth) (has_birth node others) (has_member node others place other at same)

-- Of nodes without twins no first one is.
not_first : (root : NodePtr) (roots : List NodePtr) → first_twin (root ∷ roots) ≡ None → (has_birth root roots ≡ true → ⊥) × (first_twin roots ≡ None)
not_first root roots none = by (has_birth root roots) none
  where
    by : (b : Bool) → cond b (Some root) (first_twin roots) ≡ None → (b ≡ true → ⊥) × (first_twin roots ≡ None)
    by true none = absurd (none-some root (sym none))
    by false none = (λ is. true≢false (sym is), none)

-- So no two nodes have one birth.
own_births : (roots : List NodePtr) → first_twin roots ≡ None → (place other : ℕ) (one same : NodePtr) → slice_get roots place ≡ Some one → slice_get roots other ≡ Some same → one.birth ≡ same.birth → place ≡ other
own_births [] none place other one same at there birth = absurd (none-some one at)
own_births (root ∷ roots) none zero zero one same at there birth = refl
own_births (root ∷ roots) none zero (suc other) one same at there birth =
    absurd ((not_first root roots none).0 (has_member root roots other same there (sym birth ∙ ap (λ (n : NodePtr). n.birth) (sym (same_Some root one at)))))
own_births (root ∷ roots) none (suc place) zero one same at there birth =
    absurd ((not_first root roots none).0 (has_member root roots place one at (birth ∙ ap (λ (n : NodePtr). n.birth) (sym (same_Some root same there)))))
own_births (root ∷ roots) none (suc place) (suc other) one same at there birth = ap suc (own_births roots (not_first root roots none).1 place other one same at there birth)

-- ---- nine roots

no_twins : (twin : Option NodePtr) (all read : TreesRead) → option_map_or (λ (node : NodePtr). Err (first_place node)) twin (Ok all) ≡ Ok read → twin ≡ None
no_twins None all read is = refl
no_twins (Some node) all read is = absurd cc

-- The levels of leaves are their nodes.
levels_are : (pairs : List (Btree × NodePtr)) (roots : List NodePtr) → map (λ (pair : Btree × NodePtr). pair.1) pairs ≡ roots → map leaf_levels pairs ≡ leaf_nodes roots
levels_are pairs roots same = here pairs ∙ ap leaf_nodes same
  where
    here : (pairs : List (Btree × NodePtr)) → map leaf_levels pairs ≡ leaf_nodes (map (λ (pair : Btree × NodePtr). pair.1) pairs)
    here [] = refl
    here (pair ∷ pairs) = ap (λ rest. leaf_levels pair ∷ rest) (here pairs)

-- Roots that are leaves, and mean something, have sets that come to something, and births of their own.
pub leaves_read : (sets : SetsOf) (updates : List Update) (roots : List NodePtr) (read : TreesRead) → length roots ≡ 9 → AllByRecursion (λ (pair : Btree × NodePtr). pair.1.level ≡ 0) (with_roots roots) → trees_of sets updates roots ≡ Ok read
    → AllByRecursion (IsRead sets) (with_roots roots) × ((place other : ℕ) (one same : NodePtr) → slice_get roots place ≡ Some one → slice_get roots other ≡ Some same → one.birth ≡ same.birth → place ≡ other)
unfolding trees_of
leaves_read sets updates roots read nine leaves is =
    let btrees = bind_ok (each_of (btree_of sets updates) (with_roots roots)) (λ all. with_own_births (joined all)) read is in
    let are = roots_read sets updates (with_roots roots) btrees.0 leaves btrees.1 in
    let nodes : (joined btrees.0).nodes ≡ leaf_nodes roots = are.1 ∙ levels_are (with_roots roots) roots (pairs_are_roots roots nine) in
    let none : first_twin (nodes_of (joined btrees.0).nodes) ≡ None = no_twins (first_twin (nodes_of (joined btrees.0).nodes)) (joined btrees.0) read btrees.2 in
    (are.0, own_births roots (sym (ap (λ (all : List Levels). first_twin (nodes_of all)) nodes ∙ ap first_twin (root_nodes roots)) ∙ none))
