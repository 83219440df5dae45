-- What loading a volume gives, also where reads of nodes fail.
use Rattle.std.specs.Prelude.{◌≡◌, ⊤, Result, Ok, Err}
use Rattle.image_view.specs.Found.{Found}
use Rattle.image_view.specs.declared.fault.MountFault.{MountFault}
use Rattle.image_view.specs.declared.fault.MountFault.TheVariants.{BadNode, DeviceFault, NoMemory}
use Rattle.image_reader.specs.declared.found.FoundVolume.{FoundVolume}
use Rattle.replay.specs.Volumes.{IsVolume, found_in}
use Rattle.replay.specs.declared.volume.Loaded.{Loaded}

-- This is what was loaded, unless a device failed or it was out of memory.
abbrev pub IsLoaded : Found → Result Loaded MountFault → Type 0
IsLoaded f (Ok loaded) = found_in loaded ≡ f
IsLoaded f (Err (DeviceFault dev)) = ⊤
IsLoaded f (Err NoMemory) = ⊤
IsLoaded f (Err fault) = ⊥

-- Why what was read makes no volume: it has no newest entry or no key map, or out of memory.
abbrev pub IsUnmade : FoundVolume → MountFault → Type 0
IsUnmade read (BadNode place) = ¬ IsVolume read
IsUnmade read NoMemory = ⊤
IsUnmade read other = ⊥
