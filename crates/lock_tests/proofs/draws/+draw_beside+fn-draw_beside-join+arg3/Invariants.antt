use Rattle.std.proofs.Common.{◌+◌, ◌-◌, ◌*◌}
use Rattle.lock_tests.proofs.draws.+draw_beside+fn-draw_beside-join+arg3.Given as goal

abbrev pub decreases-draw_beside : goal.decreases-draw_beside
decreases-draw_beside g l = 2 * (l.actors - l.next) + 2

abbrev pub decreases-join+arg3 : goal.decreases-join+arg3
decreases-join+arg3 g l = 2 * (l.actors - l.next) + 1
