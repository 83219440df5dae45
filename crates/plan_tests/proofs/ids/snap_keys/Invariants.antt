use Rattle.std.proofs.Common.{All}
use Rattle.snap_tree.specs.Snaps.{IsSnapKey}
use Rattle.plan_tests.proofs.ids.snap_keys.Given as goal

abbrev pub invariant-loop-id : goal.invariant-loop-id
invariant-loop-id l = All IsSnapKey l.keys
