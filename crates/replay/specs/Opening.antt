-- What opening a volume gives.
use Rattle.std.specs.Prelude.{⊤, ℕ, ◌+◌, ◌≤◌, nat_lt, if◌then◌else◌, List, Result, Ok, Err}
use Rattle.dev_model.specs.Disk.{Image}
use Rattle.image_view.specs.Found.{Found, with_session}
use Rattle.image_view.specs.declared.fault.MountFault.{MountFault}
use Rattle.image_view.specs.declared.fault.MountFault.TheVariants.{NoEntry, DeviceFault, NoMemory}
use Rattle.journal_ring.specs.declared.found.FoundEntry.{FoundEntry}
use Rattle.image_reader.specs.Answers.{IsFront}
use Rattle.vol_types.specs.declared.layout.Layout.{Layout}
use Rattle.replay.specs.declared.beginning.BeginFault.{BeginFault}
use Rattle.replay.specs.declared.beginning.BeginFault.TheVariants as of_begin

-- what was found, in its next session; where no number is left it is refused as where no session is named
abbrev pub in_next_session : Result Found MountFault → Result Found MountFault
in_next_session (Ok f) = if nat_lt f.session 4294967295 then Ok (with_session (f.session + 1) f) else Err NoEntry
in_next_session (Err fault) = Err fault

-- why a volume isn't opened whose session isn't begun, or whose journal isn't mended
abbrev pub opening_fault : BeginFault → MountFault
opening_fault of_begin.Spent = NoEntry
opening_fault (of_begin.DeviceFault dev) = DeviceFault dev
opening_fault of_begin.NoMemory = NoMemory

-- A fault that refuses what the devices hold: it names none of them as failed, and isn't out of memory.
abbrev pub IsRefusal : MountFault → Type 0
IsRefusal (DeviceFault dev) = ⊥
IsRefusal NoMemory = ⊥
IsRefusal fault = ⊤

-- The session that the image names is the last one: no number is left.
pub record IsSpent (image : Image) : Type 0 where
  pub layout : Layout
  pub session : ℕ
  pub needed : List FoundEntry
  pub front : IsFront image layout session needed
  pub last : 4294967295 ≤ session
