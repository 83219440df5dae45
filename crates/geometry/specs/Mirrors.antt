-- Blocks that stand at one place on each of the first devices.
use Rattle.std.specs.Prelude.{◌≡◌, ℕ, ◌<◌, List, Some, Result, IfErr, slice_get}
use Rattle.dev_model.specs.Disk.{Disk, Image, IsAtRest, block_at}
use Rattle.dev_model.specs.Devices.{IsPlace}
use Rattle.geometry.specs.declared.fault.DiskFault.{DiskFault}
use Rattle.geometry.specs.declared.fault.DiskFault.TheVariants.{DeviceFault}

-- the places of this block on the first so many devices
abbrev pub IsMirror : ℕ → ℕ → ℕ → ℕ → Type 0
IsMirror mirrors block dev b = (dev < mirrors) × (b ≡ block)

-- these bytes at those places
abbrev pub IsMirrorBlock : ℕ → ℕ → List ℕ → ℕ → ℕ → List ℕ → Type 0
IsMirrorBlock mirrors block bytes dev b asked = IsMirror mirrors block dev b × (asked ≡ bytes)

-- no block at all
abbrev pub NoBlock : ℕ → ℕ → List ℕ → Type 0
NoBlock dev block bytes = ⊥

-- The first so many devices have this block.
abbrev pub HaveBlock : List ℕ → ℕ → ℕ → Type 0
HaveBlock sizes mirrors block = (dev : ℕ) → dev < mirrors → IsPlace sizes dev block

-- The block has these bytes on the first so many devices.
abbrev pub HoldMirrors : ℕ → ℕ → List ℕ → Image → Type 0
HoldMirrors mirrors block bytes image = (dev : ℕ) → dev < mirrors → block_at image dev block ≡ Some bytes

-- Where it fails, it names one of the first so many devices.
abbrev pub NamesOneOf : {T : Type 0} → ℕ → Result T DiskFault → Type 0
NamesOneOf count result = IfErr result (λ fault. (dev : ℕ) × (dev < count) × (fault ≡ DeviceFault dev))

-- Nothing of the first so many devices is pending.
abbrev pub AreAtRest : ℕ → List Disk → Type 0
AreAtRest count disks = (dev : ℕ) (disk : Disk) → dev < count → slice_get disks dev ≡ Some disk → IsAtRest disk
