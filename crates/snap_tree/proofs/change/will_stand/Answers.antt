use Rattle.std.proofs.Common.{sym, subst}
use Rattle.std.specs.Ordering.{nat_cmp}
use Rattle.vol_types.specs.Maps.{value_at}
use Rattle.snap_tree.specs.Links.{IsPast}
use Rattle.snap_tree.specs.Changes.{ChangeFits}
use Rattle.snap_tree.proofs.Cursors.{step_down}
use Rattle.snap_tree.proofs.Listing.{stands, unchanged_fits}
use Rattle.snap_tree.proofs.change.will_stand.Goals as goal

pub loop-next-preserved : goal.loop-next-preserved
loop-next-preserved c new leads =
    let pairs = c.args.pairs.now.keys in
    let changes = c.args.changes.now.entries in
    step_down (λ id. ChangeFits new pairs changes id (value_at nat_cmp id changes)) c.loop-next.next c.last_below-next.result c.in-Some.id c.in-Some.is (c.loop-next.invariant new leads) (c.will_fit.ensures.fits (sym (cc (c.if-not-will_fit.false))) new leads)
    (λ id lt past. unchanged_fits new pairs changes id (value_at nat_cmp id changes) (c.last_below-next.ensures.greatest id lt past))

pub returns : goal.returns
returns c new rises leads =
    sym (stands c.args.snaps.now.entries new c.args.pairs.now.keys c.args.changes.now.entries c.requires.index leads c.requires.tree c.requires.small rises (λ id. c.loop-next.invariant new leads id (subst (λ o. IsPast o id) (sym c.in_default.is) tt)))
