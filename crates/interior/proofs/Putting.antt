-- The entries of nodes after one was put.
use Rattle.std.proofs.Common.{◌≡◌, [], ◌∷◌, map, refl, ap}
use Rattle.std.specs.Ordering.{match_ordering}
use Rattle.std.specs.declared.cmp.Ordering.{Ordering}
use Rattle.std.specs.declared.cmp.Ordering.TheVariants.{Less, Equal, Greater}
use Rattle.vol_types.specs.Maps.{with_value}
use Rattle.vol_types.specs.Positions.{pos_cmp}
use Rattle.vol_types.specs.declared.pointers.NodePtr.{NodePtr}
use Rattle.vol_types.specs.declared.positions.Pos.{Pos}
use Rattle.vol_types.specs.declared.values.Value.TheVariants as values
use Rattle.tree_nodes.specs.Levels.{Level}
use Rattle.interior.specs.Contents.{entry_of}

-- the entries after a node was put
pub entries-put : (at : Pos) (node : NodePtr) (nodes : Level) → map entry_of (with_value pos_cmp at node nodes) ≡ with_value pos_cmp at (values.Node node) (map entry_of nodes)
entries-put at node [] = refl
entries-put at node (e ∷ es) = by (pos_cmp at e.0) (entries-put at node es)
  where
    by : (r : Ordering) → map entry_of (with_value pos_cmp at node es) ≡ with_value pos_cmp at (values.Node node) (map entry_of es)
        → map entry_of (match_ordering r ((at, node) ∷ e ∷ es) ((e.0, node) ∷ es) (e ∷ with_value pos_cmp at node es)) ≡ match_ordering r ((at, values.Node node) ∷ map entry_of (e ∷ es)) ((e.0, values.Node node) ∷ map entry_of es) (entry_of e ∷ with_value pos_cmp at (values.Node node) (map entry_of es))
    by Less later = refl
    by Equal later = refl
    by Greater later = ap (λ xs. entry_of e ∷ xs) later
