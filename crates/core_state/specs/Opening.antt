-- What is kept of a volume that was loaded, before any event.
use Rattle.std.specs.Prelude.{◌≡◌, ℕ, None, List, replicate}
use Rattle.btree_map.specs.Trees.{Trees}
use Rattle.journal_ring.specs.declared.found.FoundEntry.{FoundEntry}
use Rattle.vol_types.specs.declared.layout.Layout.{Layout}
use Rattle.vol_types.specs.declared.pointers.Place.{Place}
use Rattle.core_actors.specs.Actors.{idle_actor}
use Rattle.core_volume.specs.Opening.{IsVolumeOpened}
use Rattle.core_state.specs.States.{State, actor_count}

-- The volume is what was loaded, no actor has an operation, and none has the turn.
pub record IsOpened (layout : Layout) (session : ℕ) (trees : Trees) (needed : List FoundEntry) (nodes : List Place) (state : State) : Type 0 where
  pub volume : IsVolumeOpened layout session trees needed nodes state.volume
  pub actors : state.actors ≡ replicate actor_count idle_actor
  pub turn : state.turn ≡ None
