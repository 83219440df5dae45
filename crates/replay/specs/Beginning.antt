-- How a session begins: why it doesn't, and what the devices mean while it does.
use Rattle.std.specs.Prelude.{◌≡◌, ℕ, ◌≤◌, List, Option, Some, None, Result, Ok, Err}
use Rattle.dev_model.specs.Crashes.{IsQuiet}
use Rattle.dev_model.specs.Disk.{Disk, Image, as_read}
use Rattle.geometry.specs.declared.fault.DiskFault.{DiskFault}
use Rattle.geometry.specs.declared.fault.DiskFault.TheVariants as of_disk
use Rattle.image_view.specs.Found.{Found, IsInOrder, IsUnsound, MountsAs, Volume, found, node_places, with_session}
use Rattle.key_meaning.specs.Checks.{AreNodesPlaced}
use Rattle.replay.specs.declared.beginning.BeginFault.{BeginFault}
use Rattle.replay.specs.declared.beginning.BeginFault.TheVariants as of_begin

-- for a fault of the devices
abbrev pub begin_fault : DiskFault → BeginFault
begin_fault (of_disk.DeviceFault dev) = of_begin.DeviceFault dev
begin_fault of_disk.NoMemory = of_begin.NoMemory

-- the device that a fault names as failed, if it names one
abbrev pub begin_fault_device : BeginFault → Option ℕ
begin_fault_device of_begin.Spent = None
begin_fault_device (of_begin.DeviceFault dev) = Some dev
begin_fault_device of_begin.NoMemory = None

-- the device that a result names as failed, if it names one
abbrev pub failed_begin_device : {T : Type 0} → Result T BeginFault → Option ℕ
failed_begin_device (Ok value) = None
failed_begin_device (Err fault) = begin_fault_device fault

-- This is found on the disks, which are quiet, and its nodes lie where nodes may.
pub record IsFoundOn (f : Found) (disks : List Disk) : Type 0 where
  pub quiet : IsQuiet disks
  pub finds : found (as_read disks) ≡ Ok f
  pub placed : AreNodesPlaced (node_places f) f.layout

-- An image means what another one does in which this was found, in the same session or a later one: the volume is the same, or the
-- first check that fails, and it is in order where that one is.
pub record MeansTheSame (f : Found) (one image : Image) : Type 0 where
  pub session : ℕ
  pub later : f.session ≤ session
  pub finds : found image ≡ Ok (with_session session f)
  pub in_order : IsInOrder f one → IsInOrder (with_session session f) image
  pub mounts : (volume : Volume) → MountsAs one volume → MountsAs image volume
  pub unsound : (check : ℕ) → IsUnsound one check → IsUnsound image check
