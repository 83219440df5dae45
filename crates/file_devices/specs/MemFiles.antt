-- What a file in memory tells.
use Rattle.dev_model.specs.Memory.{mem_state}
use Rattle.file_devices.specs.Files.{FileState}
use Rattle.file_devices.specs.Recalled.{recalled}
use Rattle.file_devices.specs.declared.memory.MemFile.{MemFile}

-- the disk of its device at each of its moments, the bytes behind it, and its lock
abbrev pub file_state : MemFile → FileState
file_state file = record {
  story = recalled (mem_state file.devices).disks file.marks.members file.start;
  rest = file.rest;
  free = file.free;
  locked = file.locked;
}
