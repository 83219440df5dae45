-- As many idle actors as were made, and one more.
use Rattle.std.proofs.Common.{◌≡◌, ◌∙◌, ◌++◌, ◌∷◌, [], List, ℕ, ap, arith, replicate}
use Rattle.std.proofs.lemmas.List.{replicate_more}
use Rattle.core_actors.specs.Actors.{idle_actor}
use Rattle.core_actors.specs.declared.actor.Actor.{Actor}
use Rattle.core_state.proofs.opening.idle_actors.Goals as goal

pub loop-preserved : goal.loop-preserved
loop-preserved c =
    c.in_ok-push.ensures.items ∙ ap (λ (actor : Actor). c.loop.actors.items ++ actor ∷ []) c.new.ensures ∙ ap (λ (actors : List Actor). actors ++ idle_actor ∷ []) c.loop.invariant ∙ replicate_more c.loop.counter idle_actor

pub returns : goal.returns
returns c =
    let all : c.loop.counter ≡ 17 = omega arith in
    c.loop.invariant ∙ ap (λ (n : ℕ). replicate n idle_actor) all
