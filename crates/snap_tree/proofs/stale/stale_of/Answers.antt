use Rattle.std.proofs.Common.{sym, subst}
use Rattle.snap_tree.specs.Links.{IsPast}
use Rattle.snap_tree.proofs.Staleness.{closed_down, few_still}
use Rattle.snap_tree.proofs.stale.stale_of.Goals as goal

pub loop-next-preserved : goal.loop-next-preserved
loop-next-preserved c =
    let old = c.args.snaps.now.entries in
    let was = c.loop-next.stale.keys in
    let now = c.add_children.new.ids.keys in
    record {
      moved = λ id is. c.add_children.ensures.kept id (c.loop-next.invariant.moved id is);
      few = few_still old c.args.changes.now.entries was now c.loop-next.next c.in-Some.id c.in-Some.is c.loop-next.invariant.there c.loop-next.invariant.few c.add_children.ensures.kept c.add_children.ensures.only;
      closed = closed_down old was now c.loop-next.next c.last_id_below-next.result c.in-Some.id c.requires.tree c.in-Some.is c.loop-next.invariant.closed c.in_ok-add_children.ensures.ok c.add_children.ensures.kept c.add_children.ensures.only c.last_id_below-next.ensures.greatest;
      there = c.last_id_below-next.ensures.there;
    }

pub returns-clause-closed : goal.returns-clause-closed
returns-clause-closed c id = c.loop-next.invariant.closed id (subst (λ o. IsPast o id) (sym c.in_default.is) tt)
