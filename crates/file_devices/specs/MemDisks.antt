-- What devices in memory hold are disks, of the sizes that they show.
use Rattle.std.proofs.Common.{◌≡◌, All}
use Rattle.dev_model.specs.Disk.{IsDisk, sizes_of}
use Rattle.dev_model.specs.Devices.{now}
use Rattle.dev_model.specs.Memory.{mem_state}
use Rattle.dev_model.specs.Recorded.{disks_of}
use Rattle.dev_model.specs.Told.{told_disks, told_sizes}
use Rattle.dev_model.specs.declared.memory.MemDevices.{MemDevices}

pub mem_are_disks : (d : MemDevices) → All IsDisk (now (mem_state d))
mem_are_disks d = told_disks d.recording.start.items (disks_of d.recording) d.recording.steps.items d.recording.replays d.recording.are_disks

pub mem_sizes_agree : (d : MemDevices) → (mem_state d).sizes ≡ sizes_of (now (mem_state d))
mem_sizes_agree d = told_sizes d.recording.start.items (disks_of d.recording) d.recording.steps.items d.recording.replays
