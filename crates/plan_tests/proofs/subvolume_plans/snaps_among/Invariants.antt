use Rattle.std.proofs.Common.{All}
use Rattle.snap_tree.specs.Snaps.{IsSnapKey}
use Rattle.plan_tests.proofs.subvolume_plans.snaps_among.Given as goal

abbrev pub invariant-loop-update : goal.invariant-loop-update
invariant-loop-update l = All IsSnapKey l.keys
