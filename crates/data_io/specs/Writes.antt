-- A block that is written at each of its places.
use Rattle.std.specs.Prelude.{◌≡◌, ℕ, List, Contains, Option, Some, None, Result, Ok, Err, IfErr}
use Rattle.dev_model.specs.Devices.{IsPlace}
use Rattle.dev_model.specs.Disk.{Image}
use Rattle.vol_types.specs.declared.pointers.Place.{Place}
use Rattle.data_io.specs.declared.fault.DataFault.{DataFault}
use Rattle.data_io.specs.declared.fault.DataFault.TheVariants.{DeviceFault, DataLost, NoMemory}
use Rattle.data_io.specs.Reads.{block_of}

-- It is one of the places.
abbrev pub IsOneOf : List Place → ℕ → ℕ → Type 0
IsOneOf places dev block = Contains places (record { dev = dev; block = block })

-- These bytes at one of the places.
abbrev pub IsBlockAt : List Place → List ℕ → ℕ → ℕ → List ℕ → Type 0
IsBlockAt places bytes dev block asked = IsOneOf places dev block × (asked ≡ bytes)

-- The devices have each of the places.
abbrev pub HavePlaces : List ℕ → List Place → Type 0
HavePlaces sizes places = (place : Place) → Contains places place → IsPlace sizes place.dev place.block

-- The image has these bytes at each of the places.
abbrev pub HoldPlaces : List Place → List ℕ → Image → Type 0
HoldPlaces places bytes image = (place : Place) → Contains places place → block_of image place ≡ Some bytes

-- the device that a fault names as failed, if it names one
abbrev pub data_fault_device : DataFault → Option ℕ
data_fault_device (DeviceFault dev) = Some dev
data_fault_device (DataLost lost) = None
data_fault_device NoMemory = None

-- the device that a result names as failed, if it names one
abbrev pub failed_data_device : {T : Type 0} → Result T DataFault → Option ℕ
failed_data_device (Ok value) = None
failed_data_device (Err fault) = data_fault_device fault

-- Where it fails, it names the device of one of the places.
abbrev pub NamesDeviceOf : {T : Type 0} → List Place → Result T DataFault → Type 0
NamesDeviceOf places result = IfErr result (λ fault. (place : Place) × Contains places place × (fault ≡ DeviceFault place.dev))
