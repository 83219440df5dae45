-- What a file in memory recalls: at which moments its calls were made, and so what it was at each moment.
use Rattle.std.specs.Prelude.{ℕ, ◌+◌, nat_le, if◌then◌else◌, min, List, [], ◌∷◌, slice_index_or}
use Rattle.dev_model.specs.Disk.{Disk, blank}
use Rattle.file_devices.specs.Files.{Story}
use Rattle.file_devices.specs.declared.mark.Mark.{Mark}

-- the moment of its device at some moment of the file, after a call more
abbrev pub after_mark : Mark → ℕ → ℕ → ℕ
after_mark mark own m = if nat_le m mark.at then own else if nat_le m (mark.at + 1) then min (mark.before + 1) mark.behind else mark.behind

-- and after all calls
abbrev pub own_at : List Mark → ℕ → ℕ → ℕ
own_at [] own m = own
own_at (mark ∷ marks) own m = own_at marks (after_mark mark own m) m

-- the device's moment in the end
abbrev pub own_end : List Mark → ℕ → ℕ
own_end [] own = own
own_end (mark ∷ marks) own = own_end marks mark.behind

-- the only disk
abbrev pub disk_in : List Disk → Disk
disk_in disks = slice_index_or disks 0 (blank 0)

-- the disk at each moment, of a device with these disks at its own moments
abbrev pub recalled : (ℕ → List Disk) → List Mark → ℕ → Story
recalled disks marks start m = disk_in (disks (own_at marks start m))
