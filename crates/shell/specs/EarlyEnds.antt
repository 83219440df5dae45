-- Which early end a fault leads to.
use Rattle.text_io.specs.declared.source.TakeFault.{TakeFault}
use Rattle.text_io.specs.declared.source.TakeFault.TheVariants.{ReadFault, TooLong as TextTooLong, NoMemory as NoTextMemory}
use Rattle.script_text.specs.declared.reading.ScriptFault.{ScriptFault}
use Rattle.script_text.specs.declared.reading.ScriptFault.TheVariants.{Bad, NoMemory as NoScriptMemory}
use Rattle.command_line.specs.declared.request.WordsFault.{WordsFault}
use Rattle.command_line.specs.declared.request.WordsFault.TheVariants as of_words
use Rattle.geometry.specs.declared.fault.DiskFault.{DiskFault}
use Rattle.geometry.specs.declared.fault.DiskFault.TheVariants as of_disk
use Rattle.image_view.specs.declared.fault.MountFault.{MountFault}
use Rattle.image_view.specs.declared.fault.MountFault.TheVariants as of_mount
use Rattle.replay.specs.declared.beginning.BeginFault.{BeginFault}
use Rattle.replay.specs.declared.beginning.BeginFault.TheVariants as of_begin
use Rattle.shell.specs.declared.early_end.MountRefusal.TheVariants.{NoSuper, Version, Mixed, BadLayout, NoEntry, MissingEntry, BadNode, Unsound}
use Rattle.shell.specs.declared.early_end.EarlyEnd.{EarlyEnd}
use Rattle.shell.specs.declared.early_end.EarlyEnd.TheVariants.{Usage, BadLine, TooLong, Source, Refused, Device, OutOfMemory}

-- of a fault in the arguments
abbrev pub end_of_arguments : WordsFault → EarlyEnd
end_of_arguments of_words.Usage = Usage
end_of_arguments of_words.NoMemory = OutOfMemory

-- of a fault of the source
abbrev pub end_of_take : TakeFault → EarlyEnd
end_of_take ReadFault = Source
end_of_take TextTooLong = TooLong
end_of_take NoTextMemory = OutOfMemory

-- of a fault in the script
abbrev pub end_of_script : ScriptFault → EarlyEnd
end_of_script (Bad line cause) = BadLine line cause
end_of_script NoScriptMemory = OutOfMemory

-- of a fault of loading a volume
abbrev pub end_of_mount : MountFault → EarlyEnd
end_of_mount of_mount.NoSuper = Refused NoSuper
end_of_mount of_mount.Version = Refused Version
end_of_mount of_mount.Mixed = Refused Mixed
end_of_mount of_mount.BadLayout = Refused BadLayout
end_of_mount of_mount.NoEntry = Refused NoEntry
end_of_mount (of_mount.MissingEntry sequence) = Refused (MissingEntry sequence)
end_of_mount (of_mount.BadNode place) = Refused (BadNode place)
end_of_mount (of_mount.Unsound check) = Refused (Unsound check)
end_of_mount (of_mount.DeviceFault dev) = Device dev
end_of_mount of_mount.NoMemory = OutOfMemory

-- of a fault of beginning a session and mending the journal
abbrev pub end_of_begin : BeginFault → EarlyEnd
end_of_begin of_begin.Spent = Refused NoEntry
end_of_begin (of_begin.DeviceFault dev) = Device dev
end_of_begin of_begin.NoMemory = OutOfMemory

-- of a fault of devices that are being formatted
abbrev pub end_of_disk : DiskFault → EarlyEnd
end_of_disk (of_disk.DeviceFault dev) = Device dev
end_of_disk of_disk.NoMemory = OutOfMemory
