-- Why no command was begun, and with which status the program then ends.
use Rattle.std.specs.Prelude.{ℕ}
use Rattle.file_devices.specs.declared.trouble.OpenFault.{OpenFault}
use Rattle.file_devices.specs.declared.trouble.OpenFault.TheVariants.{Device, NoMemory}
use Rattle.bvol.specs.declared.refusal.NotBegun.{NotBegun}
use Rattle.bvol.specs.declared.refusal.NotBegun.TheVariants.{Usage, NotText, Device as NoDevice, Memory}

-- the refusal where files weren't opened
abbrev pub refusal_of : OpenFault → NotBegun
refusal_of (Device dev trouble) = NoDevice dev trouble
refusal_of NoMemory = Memory

-- the status of a refusal
abbrev pub refusal_status : NotBegun → ℕ
refusal_status Usage = 1
refusal_status NotText = 1
refusal_status (NoDevice dev trouble) = 6
refusal_status Memory = 7
