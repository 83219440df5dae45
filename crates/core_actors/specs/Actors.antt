-- What an actor has under way, and what its events make of it.
use Rattle.std.specs.Prelude.{ℕ, ◌+◌, ◌-◌, ◌^◌, min, Bool, true, false, ◌||◌, not, ◌==◌, if◌then◌else◌, Option, Some, None, is_some, List, [], ◌∷◌, ◌++◌, length}
use Rattle.vol_types.specs.declared.keys.Key.{Key}
use Rattle.vol_types.specs.declared.keys.Update.{Update}
use Rattle.vol_types.specs.declared.queries.Query.{Query}
use Rattle.core_actors.specs.declared.actor.Actor.{Actor}
use Rattle.core_actors.specs.declared.actor.Failure.{Failure}
use Rattle.core_actors.specs.declared.actor.Failure.TheVariants as failures
use Rattle.core_actors.specs.declared.answer.Refusal.{Refusal}
use Rattle.core_actors.specs.declared.answer.Refusal.TheVariants as refusals
use Rattle.journal_writer.specs.declared.stage.Stage.{Stage}

-- an actor without an operation
abbrev pub idle_actor : Actor
idle_actor = record {
  operation = None;
  uncounted = 0;
  failure = None;
  durable = false;
  stage = None;
  told = 0;
  looks = [];
  has_ids = false;
  intended = None;
}

-- whether a transaction is under way: the actor has looked, or intends updates
abbrev pub holds : Actor → Bool
holds actor = actor.has_ids || is_some actor.intended || not (length actor.looks == 0)

-- a number that stands still at 2^64 - 1, with one more
abbrev pub one_more : ℕ → ℕ
one_more count = min (count + 1) (2 ^ 64 - 1)

-- an actor whose transaction begins after so many commits; with the first one its operation begins
abbrev pub begun : Bool → ℕ → Actor → Actor
begun first commits actor = record actor {
  operation = Some commits;
  durable = false;
  uncounted = if first then 0 else actor.uncounted;
  failure = if first then None else actor.failure;
}

-- an actor with one more look
abbrev pub with_look : Query → List Key → Actor → Actor
with_look query answer actor = record actor { looks = actor.looks ++ record { query = query; answer = answer } ∷ [] }

-- an actor that has looked at the trees of snapshot ids
abbrev pub with_ids : Actor → Actor
with_ids actor = record actor { has_ids = true }

-- an actor that intends these updates, or none
abbrev pub with_intent : Option (List Update) → Actor → Actor
with_intent updates actor = record actor { intended = updates }

-- what a refusal says with which an operation may end; a split or a checkpoint answers the others of a commit; a
-- `Seal` or a `Freeze` is refused so only over an image that another program wrote
abbrev pub failure_of : Refusal → Option Failure
failure_of (refusals.Halted halt) = Some (failures.Halted halt.dev halt.tick)
failure_of refusals.Spent = Some failures.Spent
failure_of (refusals.NoSpace none) = Some (failures.NoSpace none.idle none.changes)
failure_of other = None

-- the later one of two failures
abbrev pub later : Option Failure → Option Failure → Option Failure
later before None = before
later before (Some failure) = Some failure

-- an actor whose commit was refused
abbrev pub noted : Refusal → Actor → Actor
noted refusal actor = record actor { failure = later actor.failure (failure_of refusal) }

-- an actor of which an event found that this device failed
abbrev pub with_fault : ℕ → Actor → Actor
with_fault dev actor = record actor { failure = Some (failures.DeviceFault dev) }

-- an actor without a transaction
abbrev pub dropped : Actor → Actor
dropped actor = record actor { looks = []; has_ids = false; intended = None }

-- an actor without an operation and its transaction
abbrev pub ended : Actor → Actor
ended actor = record (dropped actor) { operation = None }

-- an actor whose transaction was committed; where that counts its operation is over
abbrev pub committed : Bool → Actor → Actor
committed counted actor = if counted then ended actor else record (dropped actor) { uncounted = one_more actor.uncounted }

-- an actor that was told the stage of the journal, and whether its commits are durable
abbrev pub told_of : Stage → Bool → Actor → Actor
told_of stage durable actor = record actor { stage = Some stage; told = one_more actor.told; durable = if durable then true else actor.durable }
