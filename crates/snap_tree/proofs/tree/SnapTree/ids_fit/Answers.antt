use Rattle.std.proofs.Common.{arith, sym, subst}
use Rattle.std.specs.Prelude.{IsSome}
use Rattle.std.specs.Ordering.{nat_cmp}
use Rattle.vol_types.specs.Maps.{value_at}
use Rattle.snap_tree.specs.Snaps.{Snaps}
use Rattle.snap_tree.specs.Places.{chain_begins}
use Rattle.snap_tree.proofs.tree.SnapTree.ids_fit.Goals as goal

pub returns-clause-fits : goal.returns-clause-fits
returns-clause-fits c id there =
    let inside : IsSome (value_at nat_cmp id c.self.inside.snaps.entries) = subst (λ (s : Snaps). IsSome (value_at nat_cmp id s)) (sym c.self.view_is) there in
    omega (arith, (chain_begins c.self.inside.snaps.entries id inside).0, (c.self.invariant.linked id inside).fits)
