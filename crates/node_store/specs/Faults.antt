-- Which device a fault of a node names as failed.
use Rattle.std.specs.Prelude.{ℕ, Option, Some, None, Result, Ok, Err}
use Rattle.geometry.specs.declared.fault.DiskFault.{DiskFault}
use Rattle.geometry.specs.declared.fault.DiskFault.TheVariants as disks
use Rattle.node_store.specs.declared.fault.NodeFault.{NodeFault}
use Rattle.node_store.specs.declared.fault.NodeFault.TheVariants.{DeviceFault, BadNode, NoMemory}

-- the fault of a call on several devices
abbrev pub node_fault : DiskFault → NodeFault
node_fault (disks.DeviceFault dev) = DeviceFault dev
node_fault disks.NoMemory = NoMemory

-- the device that a fault names as failed, if it names one
abbrev pub node_fault_device : NodeFault → Option ℕ
node_fault_device (DeviceFault dev) = Some dev
node_fault_device (BadNode place) = None
node_fault_device NoMemory = None

-- the device that a result names as failed, if it names one
abbrev pub failed_node_device : {T : Type 0} → Result T NodeFault → Option ℕ
failed_node_device (Ok value) = None
failed_node_device (Err fault) = node_fault_device fault
