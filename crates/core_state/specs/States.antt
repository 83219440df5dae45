-- A volume with its actors, and what is kept of them.
use Rattle.std.specs.Prelude.{◌≡◌, ℕ, ◌<◌, true, ◌==◌, if◌then◌else◌, IfSome, Option, Some, None, List, length, slice_index_or, slice_set}
use Rattle.btree_map.specs.Trees.{keys_in}
use Rattle.vol_types.specs.KeyMaps.{GivesLooks}
use Rattle.core_actors.specs.Actors.{holds, idle_actor}
use Rattle.core_volume.specs.Commits.{AreIntended}
use Rattle.core_volume.specs.Volumes.{IsVolume, Volume, halted_at}
use Rattle.core_actors.specs.declared.actor.Actor.{Actor}
use Rattle.vol_types.specs.declared.failure.Halt.{Halt}

-- how many actors there are: 16 clients and the reclaimer
abbrev pub actor_count : ℕ
actor_count = 17

-- the volume, what each actor has under way, and which one has the turn, if one has it
pub record State : Type 0 where
  pub volume : Volume
  pub actors : List Actor
  pub turn : Option ℕ

-- what an actor has under way
abbrev pub mine : State → ℕ → Actor
mine state actor = slice_index_or state.actors actor idle_actor

-- the state with another actor in its place
abbrev pub with_mine : ℕ → Actor → State → State
with_mine actor changed state = record state { actors = slice_set state.actors actor changed }

-- the actor that has the turn, if it is another one
abbrev pub other_holder : ℕ → Option ℕ → Option ℕ
other_holder actor None = None
other_holder actor (Some holder) = if holder == actor then None else Some holder

-- the state in which an actor took the turn
abbrev pub with_turn : ℕ → State → State
with_turn actor state = record state { turn = Some actor }

-- the turn after an actor gave it back, if it had it
abbrev pub given_back : ℕ → Option ℕ → Option ℕ
given_back actor turn = other_holder actor turn

-- the state in which an actor gave the turn back, if it had it
abbrev pub without_turn : ℕ → State → State
without_turn actor state = record state { turn = given_back actor state.turn }

-- the state of a session that stops writing
abbrev pub with_halt : Halt → State → State
with_halt halt state = record state { volume = halted_at halt state.volume }

-- What an actor has under way: it has the turn if a transaction is, its looks are answered by the keys that are in memory, and what it intends
-- may be intended.
pub record IsActor (volume : Volume) (turn : Option ℕ) (number : ℕ) (actor : Actor) : Type 0 where
  pub has_turn : holds actor ≡ true → turn ≡ Some number
  pub looks : GivesLooks (keys_in volume.trees) actor.looks
  pub intended : IfSome actor.intended (AreIntended volume.layout.metadata_replicas)

-- What is kept of a volume and its actors.
pub record IsState (state : State) : Type 0 where
  pub volume : IsVolume state.volume
  pub count : length state.actors ≡ actor_count
  pub holder : IfSome state.turn (λ holder. holder < actor_count)
  pub each : (number : ℕ) → IsActor state.volume state.turn number (mine state number)
