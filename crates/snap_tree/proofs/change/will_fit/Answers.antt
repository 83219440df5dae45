use Rattle.std.proofs.Common.{sym, ◌∙◌}
use Rattle.snap_tree.proofs.Listing.{breaks_joined, breaks_held}
use Rattle.snap_tree.proofs.change.will_fit.Goals as goal

pub returns-in-Some-new-clause-breaks : goal.returns-in-Some-new-clause-breaks
returns-in-Some-new-clause-breaks c is new leads =
    breaks_joined c.args.snaps.now.entries new c.args.pairs.now.keys c.args.changes.now.entries c.requires.index leads c.args.id c.in-Some.change.now c.in-Some-new.snap (sym c.in-Some.ensures.value) c.in-Some-new.is (sym (c.will_join.ensures new leads) ∙ is)

pub returns-in-None-clause-breaks : goal.returns-in-None-clause-breaks
returns-in-None-clause-breaks c is new leads =
    breaks_held c.args.snaps.now.entries new c.args.pairs.now.keys c.args.changes.now.entries c.requires.index leads c.args.id c.in-Some.change.now (sym c.in-Some.ensures.value) c.in-None.is (c.is_let_go.ensures.no is)
