use Rattle.std.proofs.Common.{ap}
use Rattle.lock_tests.proofs.Drawing.{first_ready, first_alone}
use Rattle.lock_tests.proofs.draws.draws_add_up.Goals as goal

pub draw_beside-first-requires-clause-rest : goal.draw_beside-first-requires-clause-rest
draw_beside-first-requires-clause-rest g c κs within = first_ready _ c.args.actors _ c.requires.0 (ap (λ v. v.ledger) c.in-Ok.ensures.1)

pub close-machine-requires-clause-alone : goal.close-machine-requires-clause-alone
close-machine-requires-clause-alone g c = first_alone _ c.args.actors _ _ (ap (λ v. v.ledger) c.in-Ok.ensures.1) c.draw_beside-first.ensures.ledger c.draw_beside-first.ensures.actor
