-- The index of nodes in the place of one, once the memory for them was taken.
use Rattle.std.proofs.Common.{◌≡◌, ℕ, ◌+◌, ◌-◌, ◌<◌, Some, None, List, [], ◌∷◌, length, refl, sym, ap, ◌∙◌, subst, arith}
use Rattle.std.specs.Prelude.{◌≢◌, All, IsSome, option_map, slice_set}
use Rattle.std.specs.Ordering.{nat_cmp}
use Rattle.std.proofs.lemmas.List.Elements.{All-cons, All-nil}
use Rattle.birth_index.specs.Births.{Index, IsFree, IsFreeIn, IsIndex, birth_of, grown, halves, levels_of, name_at, named, replaced, root_above, root_named, with_named}
use Rattle.birth_index.specs.ChangeLaws.{index-divided, index-grown}
use Rattle.birth_index.specs.FindLaws.{free_in}
use Rattle.birth_index.specs.PlaceLaws.{none_before_one, not_there}
use Rattle.birth_index.specs.declared.name.Named.{Named}
use Rattle.birth_index.specs.declared.name.NodeName.{NodeName}
use Rattle.birth_index.proofs.Rooming.{still_there}
use Rattle.tree_nodes.specs.Levels.{Covers, IsTree, Levels, divided, level_of, under_root}
use Rattle.tree_nodes.specs.TreeLaws.{level-there, tree-height}
use Rattle.vol_types.specs.Btrees.{btree_code}
use Rattle.vol_types.specs.Maps.{value_at}
use Rattle.vol_types.specs.Positions.{IsBefore, greatest_pos, pos_cmp}
use Rattle.vol_types.specs.Widths.{PosFits}
use Rattle.vol_types.specs.declared.pointers.NodePtr.{NodePtr}
use Rattle.vol_types.specs.declared.positions.Btree.{Btree}
use Rattle.vol_types.specs.declared.positions.Pos.{Pos}

-- an index of the same nodes
pub same_index : (index new : Index) (nodes after : List Levels) → new ≡ index → after ≡ nodes → IsIndex index nodes → IsIndex new after
same_index index new nodes after is same found = subst (λ (i : Index). IsIndex i after) (sym is) (subst (IsIndex index) (sym same) found)

module _ (index : Index) (nodes : List Levels) (name : NodeName) (gone : ℕ) (is : IsIndex index nodes) (has : birth_of nodes name ≡ Some gone) where
  -- the birth of the node is there, and stays there while others come
  pub gone_there : (news : List Named) (taken : Index) → taken ≡ with_named news index → IsSome (value_at nat_cmp gone taken)
  gone_there news taken same =
      subst (λ (i : Index). IsSome (value_at nat_cmp gone i)) (sym same) (still_there gone news index (subst IsSome (sym (is.found gone name has)) refl))

  one_free : (birth : ℕ) → IsFree nodes name birth → IsFreeIn index gone birth
  one_free birth free = free_in index (birth_of nodes) name is gone has birth free

  pub fresh_free : (birth : ℕ) → IsFree nodes name birth → All (λ (new : Named). IsFreeIn index gone new.birth) (named birth name ∷ [])
  fresh_free birth free = All-cons (λ (new : Named). IsFreeIn index gone new.birth) (named birth name) [] (one_free birth free) (All-nil (λ (new : Named). IsFreeIn index gone new.birth))

  pub halves_free : (at : Pos) (first second : ℕ) (news : List Named) → news ≡ halves name at first second → IsFree nodes name first → IsFree nodes name second → All (λ (new : Named). IsFreeIn index gone new.birth) news
  halves_free at first second news are one other =
      let P : Named → Type 0 = λ new. IsFreeIn index gone new.birth in
      subst (All P) (sym are)
      (All-cons P (named second name) (named first (name_at name at) ∷ []) (one_free second other) (All-cons P (named first (name_at name at)) [] (one_free first one) (All-nil P)))

  pub grown_free : (at : Pos) (first second root : ℕ) (news : List Named) → news ≡ grown name at first second root → IsFree nodes name first → IsFree nodes name second → IsFree nodes name root → All (λ (new : Named). IsFreeIn index gone new.birth) news
  grown_free at first second root news are one other top =
      let P : Named → Type 0 = λ new. IsFreeIn index gone new.birth in
      subst (All P) (sym are)
      (All-cons P (named second name) (named first (name_at name at) ∷ named root (root_above name) ∷ []) (one_free second other)
      (All-cons P (named first (name_at name at)) (named root (root_above name) ∷ []) (one_free first one) (All-cons P (named root (root_above name)) [] (one_free root top) (All-nil P))))

-- no birth where no node ends
no_birth : (nodes : List Levels) (name : NodeName) → value_at pos_cmp name.greatest (level_of (levels_of nodes name.btree) name.level) ≡ None → birth_of nodes name ≡ None
no_birth nodes name none = ap (option_map (λ (node : NodePtr). node.birth)) none

-- where a node is divided, the index finds both halves
pub halves_found : (index : Index) (nodes : List Levels) (name : NodeName) (gone : ℕ) (at : Pos) (first second : NodePtr) → IsIndex index nodes → birth_of nodes name ≡ Some gone → btree_code name.btree < length nodes → IsTree (levels_of nodes name.btree)
    → PosFits at → Covers (level_of (levels_of nodes name.btree) name.level) name.greatest at → IsBefore at name.greatest → IsFree nodes name first.birth → IsFree nodes name second.birth → first.birth ≢ second.birth
    → (news : List Named) (new : Index) (after : List Levels) → news ≡ halves name at first.birth second.birth → new ≡ replaced gone news index
    → after ≡ slice_set nodes (btree_code name.btree) (divided name.level name.greatest at first second (levels_of nodes name.btree)) → IsIndex new after
halves_found index nodes name gone at first second is has there tree fits covers before one other apart news new after are put set =
    let levels = levels_of nodes name.btree in
    let row = (tree.each name.level (level-there levels name.level name.greatest covers.there)).row in
    same_index (replaced gone (halves name at first.birth second.birth) index) new (slice_set nodes (btree_code name.btree) (divided name.level name.greatest at first second levels)) after
    (put ∙ ap (λ (ns : List Named). replaced gone ns index) are) set
    (index-divided index nodes name gone is there has at first second (no_birth nodes (name_at name at) (not_there (level_of levels name.level) name.greatest at row fits covers before)) one other apart)

-- where a root is divided, it finds the new root as well
pub grown_found : (index : Index) (nodes : List Levels) (btree : Btree) (gone : ℕ) (at : Pos) (first second root : NodePtr) → IsIndex index nodes → birth_of nodes (root_named nodes btree) ≡ Some gone → btree_code btree < length nodes → IsTree (levels_of nodes btree)
    → IsBefore at greatest_pos → IsFree nodes (root_named nodes btree) first.birth → IsFree nodes (root_named nodes btree) second.birth → IsFree nodes (root_named nodes btree) root.birth → first.birth ≢ second.birth → root.birth ≢ first.birth → root.birth ≢ second.birth
    → (news : List Named) (new : Index) (after : List Levels) → news ≡ grown (root_named nodes btree) at first.birth second.birth root.birth → new ≡ replaced gone news index
    → after ≡ slice_set nodes (btree_code btree) (under_root root (divided (length (levels_of nodes btree) - 1) greatest_pos at first second (levels_of nodes btree))) → IsIndex new after
grown_found index nodes btree gone at first second root is has there tree before one other top apart from_first from_second news new after are put set =
    let levels = levels_of nodes btree in
    let name = root_named nodes btree in
    let height : 0 < length levels = omega (arith, (tree-height levels tree).0) in
    let low : length levels - 1 < length levels = omega (arith, height) in
    let count : length levels - 1 + 1 ≡ length levels = omega (arith, height) in
    let ends = (tree.each (length levels - 1) low).ends in
    same_index (replaced gone (grown name at first.birth second.birth root.birth) index) new (slice_set nodes (btree_code btree) (under_root root (divided (length levels - 1) greatest_pos at first second levels))) after
    (put ∙ ap (λ (ns : List Named). replaced gone ns index) are) set
    (index-grown index nodes name gone is there has at first second (no_birth nodes (name_at name at) (none_before_one (level_of levels (length levels - 1)) greatest_pos at tree.root ends before)) one other apart root top from_first from_second count)
