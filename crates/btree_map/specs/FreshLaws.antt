-- Btrees without keys are btrees.
use Rattle.std.proofs.Common.{◌≡◌, ℕ, zero, suc, ◌+◌, ◌<◌, true, false, List, [], ◌∷◌, length, refl, sym, ◌∙◌, subst, arith}
use Rattle.std.specs.Prelude.{All, slice_index_or}
use Rattle.std.specs.List.Sorted.{IsStrictlySortedBy}
use Rattle.std.proofs.lemmas.Bool.{false≢true}
use Rattle.std.proofs.lemmas.List.{get_or-map, length-map}
use Rattle.std.proofs.lemmas.List.Elements.{All-nil, All-cons}
use Rattle.btree_map.specs.Trees.{AreRoots, IsBtree, IsTrees, cut_in, fresh_trees, levels_in, no_cut, one_leaf}
use Rattle.tree_keys.specs.Cuts.{Cut, IsCut}
use Rattle.tree_nodes.specs.Levels.{EndsAt, IsLevel, IsNodeOf, IsTree, level_of, under_root}
use Rattle.vol_types.specs.Btrees.{btree_code}
use Rattle.vol_types.specs.Positions.{greatest_pos}
use Rattle.vol_types.specs.Ranges.{IsValue}
use Rattle.vol_types.specs.Standing.{MayStand}
use Rattle.vol_types.specs.Widths.{PosFits}
use Rattle.vol_types.specs.declared.pointers.NodePtr.{NodePtr}
use Rattle.vol_types.specs.declared.positions.Btree.{Btree}
use Rattle.vol_types.specs.declared.positions.Btree.TheVariants.{Extents, Inodes, Dirents, Subvols, Snapshots, Alloc, Backptrs, Deleted, Counters}
use Rattle.vol_types.specs.declared.positions.Pos.{Pos}

no_root : NodePtr
no_root = record { birth = 0; level = 0; places = [] }

-- There are nine btrees.
pub code-lt : (btree : Btree) → btree_code btree < 9
code-lt Extents = omega arith
code-lt Inodes = omega arith
code-lt Dirents = omega arith
code-lt Subvols = omega arith
code-lt Snapshots = omega arith
code-lt Alloc = omega arith
code-lt Backptrs = omega arith
code-lt Deleted = omega arith
code-lt Counters = omega arith

greatest_fits : All PosFits (greatest_pos ∷ [])
greatest_fits = All-cons PosFits greatest_pos [] (record { inode = omega arith; offset = omega arith; snapshot = omega arith }) (All-nil PosFits)

-- No keys and one leaf are a cut.
pub cut-one_leaf : IsCut one_leaf
unfolding IsStrictlySortedBy
cut-one_leaf = record {
  rises = tt;
  fit = All-nil PosFits;
  in_range = All-nil IsValue;
  ends = record { rise = (tt, tt); fit = greatest_fits; whole = refl };
}

-- One leaf is a tree.
pub tree-one_leaf : (root : NodePtr) → IsNodeOf 0 root → IsTree (under_root root [])
unfolding IsStrictlySortedBy
tree-one_leaf root node = record {
  each = each;
  nested = λ level at ends. absurd (false≢true (none level at ends));
  root = refl;
}
  where
    leaf : IsLevel 0 ((greatest_pos, root) ∷ [])
    leaf = record { row = record { rises = (tt, tt); fits = greatest_fits }; ends = refl; each = All-cons (IsNodeOf 0) root [] node (All-nil (IsNodeOf 0)) }

    each : (level : ℕ) → level < 1 → IsLevel level (level_of (under_root root []) level)
    each zero lt = leaf
    each (suc level) lt = absurd (omega (arith, lt))

    none : (level : ℕ) (at : Pos) → EndsAt (level_of (under_root root []) (level + 1)) at → false ≡ true
    none level at ends = let next : level + 1 ≡ suc level = omega arith in subst (λ (n : ℕ). EndsAt (level_of (under_root root []) n) at) next ends

-- Btrees without keys are nine btrees.
pub trees-fresh : (roots : List NodePtr) → AreRoots roots → IsTrees (fresh_trees roots)
trees-fresh roots are = record {
  key_count = length-map roots (λ _. one_leaf) ∙ are.count;
  node_count = length-map roots (λ root. under_root root []) ∙ are.count;
  each = each;
}
  where
    each : (btree : Btree) → IsBtree btree (cut_in (fresh_trees roots) btree) (levels_in (fresh_trees roots) btree)
    each btree =
        let lt : btree_code btree < length roots = subst (λ n. btree_code btree < n) (sym are.count) (code-lt btree) in
        let root = slice_index_or roots (btree_code btree) no_root in
        let cut = get_or-map (λ (_ : NodePtr). one_leaf) roots (btree_code btree) no_root no_cut lt in
        let levels = get_or-map (λ (root : NodePtr). under_root root []) roots (btree_code btree) no_root [] lt in
        subst (λ (c : Cut). IsBtree btree c (levels_in (fresh_trees roots) btree)) (sym cut) (subst (IsBtree btree one_leaf) (sym levels) (record {
          keys = cut-one_leaf;
          nodes = tree-one_leaf root (are.each (btree_code btree) no_root lt);
          leaves = refl;
          stand = All-nil (MayStand btree 0);
        }))
