-- What contracts see of devices in memory.
use Rattle.std.specs.Prelude.{◌≡◌, ℕ}
use Rattle.dev_model.specs.Disk.{sizes_of}
use Rattle.dev_model.specs.Devices.{DevicesState}
use Rattle.dev_model.specs.Plan.{Plan}
use Rattle.dev_model.specs.Recorded.{disks_of, recorded}
use Rattle.dev_model.specs.Tallies.{faults_in}
use Rattle.dev_model.specs.declared.memory.MemDevices.{MemDevices}

-- what they show as devices
abbrev pub mem_state : MemDevices → DevicesState
mem_state devices = record {
  sizes = sizes_of (disks_of devices.recording);
  moment = (recorded devices.recording).moment;
  disks = (recorded devices.recording).disks;
  faults = faults_in devices.faults;
}

-- which calls are to fail, and how many there were
abbrev pub plan_of : MemDevices → Plan
plan_of devices = devices.plan

-- how many calls were out of memory
abbrev pub shortages_of : MemDevices → ℕ
shortages_of devices = devices.shortages.count

-- only the plan may be another
pub record ChangesPlan (old new : MemDevices) : Type 0 where
  pub recording : new.recording ≡ old.recording
  pub faults : new.faults ≡ old.faults
  pub shortages : new.shortages ≡ old.shortages
