-- An open volume: what is in memory of it, and the devices on which it lies.
use Rattle.std.specs.Prelude.{◌≡◌, ℕ, true, List}
use Rattle.dev_model.specs.Devices.{DevicesState}
use Rattle.core_state.specs.Devices.{FlushesDevice, WritesEntry, WritesNode}
use Rattle.core_state.specs.Events.{EventGives, FlushGives, WriteGives, WriteSetGives}
use Rattle.core_state.specs.States.{State}
use Rattle.core_actors.specs.declared.answer.Answer.{Answer}
use Rattle.core_actors.specs.declared.event.Event.{Event}
use Rattle.core_actors.specs.declared.event.Event.TheVariants as events
use Rattle.geometry.specs.Layouts.{is_layout_of}
use Rattle.image_view.specs.Found.{Found}
use Rattle.vol_core.specs.KeptFiles.{KeepsFilesIf}
use Rattle.vol_core.specs.Rested.{KeepsRingIf}
use Rattle.vol_core.specs.Room.{KeepsRoomIf, MayKeepIf}
use Rattle.vol_core.specs.Safety.{KeepsSafe}

-- what is in memory, and the devices
pub record CoreState (D : Type 0) : Type 0 where
  pub memory : State
  pub devices : D

-- The volume lies on devices of these sizes.
abbrev pub LiesOn : List ℕ → State → Type 0
LiesOn sizes memory = is_layout_of sizes memory.volume.layout ≡ true

-- What is kept of an open volume: it lies on its devices, is safe on them, and its ring, the room in it and the blocks of files are kept. The ring and the room hang on
-- what is in memory alone.
pub record IsCore (tells : Type 0) (begun : Found) (start state : DevicesState) (memory : State) : Type 0 where
  pub lies : LiesOn state.sizes memory
  pub safe : KeepsSafe tells begun start state memory.volume
  pub may : MayKeepIf tells begun start
  pub ring : KeepsRingIf begun memory.volume
  pub room : KeepsRoomIf begun memory.volume
  pub files : KeepsFilesIf tells begun start state memory.volume

-- An actor's event is answered and changes what is in memory as its row says. A part of an entry and a block of a node are written, and a device is
-- flushed, as these events say; with every other event no device is called.
abbrev pub StepGives : {D : Type 0} → Type 0 → (D → DevicesState) → CoreState D → ℕ → Event → Answer → CoreState D → Type 0
StepGives tells state old actor events.WriteEntry answer new =
    WriteGives (state new.devices).moment old.memory actor answer new.memory × WritesEntry tells old.memory.volume.writer.ring answer (state old.devices) (state new.devices)
StepGives tells state old actor (events.Flush dev) answer new =
    FlushGives dev (state new.devices).moment old.memory actor answer new.memory × FlushesDevice tells dev answer (state old.devices) (state new.devices)
StepGives tells state old actor (events.WriteSet node) answer new =
    WriteSetGives node (state new.devices).moment old.memory actor answer new.memory × WritesNode tells old.memory.volume.work.unfinished answer (state old.devices) (state new.devices)
StepGives tells state old actor event answer new = EventGives old.memory actor event answer new.memory × (new.devices ≡ old.devices)
