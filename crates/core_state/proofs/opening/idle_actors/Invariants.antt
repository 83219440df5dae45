use Rattle.std.proofs.Common.{◌≡◌, replicate}
use Rattle.core_actors.specs.Actors.{idle_actor}
use Rattle.core_state.proofs.opening.idle_actors.Given as goal

abbrev pub invariant-loop : goal.invariant-loop
invariant-loop l = l.actors.items ≡ replicate l.counter idle_actor
