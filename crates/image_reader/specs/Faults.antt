-- Which faults a reader hands on, and which device they name.
use Rattle.std.specs.Prelude.{ℕ, Option, Some, None, Result, Ok, Err}
use Rattle.geometry.specs.declared.fault.DiskFault.{DiskFault}
use Rattle.geometry.specs.declared.fault.DiskFault.TheVariants as disks
use Rattle.image_view.specs.declared.fault.MountFault.{MountFault}
use Rattle.image_view.specs.declared.fault.MountFault.TheVariants as mounts
use Rattle.node_store.specs.declared.fault.NodeFault.{NodeFault}
use Rattle.node_store.specs.declared.fault.NodeFault.TheVariants as nodes
use Rattle.image_reader.specs.declared.fault.TreeFault.{TreeFault}
use Rattle.image_reader.specs.declared.fault.TreeFault.TheVariants.{BadNode, DeviceFault, NoMemory}

-- the fault of a node as one of its btree
abbrev pub tree_fault : NodeFault → TreeFault
tree_fault (nodes.BadNode place) = BadNode place
tree_fault (nodes.DeviceFault dev) = DeviceFault dev
tree_fault nodes.NoMemory = NoMemory

-- the fault of a btree as one of its volume
abbrev pub mount_fault : TreeFault → MountFault
mount_fault (BadNode place) = mounts.BadNode place
mount_fault (DeviceFault dev) = mounts.DeviceFault dev
mount_fault NoMemory = mounts.NoMemory

-- the fault of a call on several devices as one of their volume
abbrev pub disk_fault : DiskFault → MountFault
disk_fault (disks.DeviceFault dev) = mounts.DeviceFault dev
disk_fault disks.NoMemory = mounts.NoMemory

-- the device that a fault of a btree names as failed, if it names one
abbrev pub tree_fault_device : TreeFault → Option ℕ
tree_fault_device (BadNode place) = None
tree_fault_device (DeviceFault dev) = Some dev
tree_fault_device NoMemory = None

-- the device that a result names as failed, if it names one
abbrev pub failed_tree_device : {T : Type 0} → Result T TreeFault → Option ℕ
failed_tree_device (Ok value) = None
failed_tree_device (Err fault) = tree_fault_device fault

-- the device that a fault of a volume names as failed, if it names one
abbrev pub mount_fault_device : MountFault → Option ℕ
mount_fault_device mounts.NoSuper = None
mount_fault_device mounts.Version = None
mount_fault_device mounts.Mixed = None
mount_fault_device mounts.BadLayout = None
mount_fault_device mounts.NoEntry = None
mount_fault_device (mounts.MissingEntry sequence) = None
mount_fault_device (mounts.BadNode place) = None
mount_fault_device (mounts.Unsound check) = None
mount_fault_device (mounts.DeviceFault dev) = Some dev
mount_fault_device mounts.NoMemory = None

-- the device that a result names as failed, if it names one
abbrev pub failed_mount_device : {T : Type 0} → Result T MountFault → Option ℕ
failed_mount_device (Ok value) = None
failed_mount_device (Err fault) = mount_fault_device fault
