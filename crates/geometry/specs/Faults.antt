-- Which device a fault names, which one failed between two counts, and the faults of calls on devices as faults of reading superblocks.
use Rattle.std.specs.Prelude.{ℕ, Option, Some, None, Result, Ok, Err, slice_index_or}
use Rattle.vol_types.specs.Faults.{RoseBy}
use Rattle.dev_model.specs.Devices.{FaultCounts}
use Rattle.geometry.specs.declared.fault.DiskFault.{DiskFault}
use Rattle.geometry.specs.declared.fault.DiskFault.TheVariants as of_disk
use Rattle.geometry.specs.declared.fault.SuperFault.{SuperFault}
use Rattle.geometry.specs.declared.fault.SuperFault.TheVariants.{NoSuper, Version, Mixed, BadLayout, DeviceFault, NoMemory}

-- the same fault
abbrev pub super_fault : DiskFault → SuperFault
super_fault (of_disk.DeviceFault dev) = DeviceFault dev
super_fault of_disk.NoMemory = NoMemory

-- the device that a fault names as failed, if it names one
abbrev pub fault_device : DiskFault → Option ℕ
fault_device (of_disk.DeviceFault dev) = Some dev
fault_device of_disk.NoMemory = None

-- the device that a result names as failed, if it names one
abbrev pub failed_device : {T : Type 0} → Result T DiskFault → Option ℕ
failed_device (Ok value) = None
failed_device (Err fault) = fault_device fault

-- the device that a fault of superblocks names as failed, if it names one
abbrev pub super_fault_device : SuperFault → Option ℕ
super_fault_device NoSuper = None
super_fault_device Version = None
super_fault_device Mixed = None
super_fault_device BadLayout = None
super_fault_device (DeviceFault dev) = Some dev
super_fault_device NoMemory = None

-- the device that a result of reading superblocks names as failed, if it names one
abbrev pub failed_super_device : {T : Type 0} → Result T SuperFault → Option ℕ
failed_super_device (Ok value) = None
failed_super_device (Err fault) = super_fault_device fault

-- A call of this device failed in between: its count rose, or stands at its end.
abbrev pub DeviceFailed : ℕ → FaultCounts → FaultCounts → Type 0
DeviceFailed dev old new = RoseBy 1 (slice_index_or old.calls dev 0) (slice_index_or new.calls dev 0)

-- A call of some device failed in between.
abbrev pub SomeFailed : FaultCounts → FaultCounts → Type 0
SomeFailed old new = (dev : ℕ) × DeviceFailed dev old new
