-- The classes of operations, and which failures each may have.
use Rattle.std.specs.Prelude.{Bool, true, false, ◌&&◌, ◌||◌}
use Rattle.forest_ops.specs.declared.operation.Op.{Op}
use Rattle.forest_ops.specs.declared.operation.Op.TheVariants.{Mkdir, Mkfile, Write, Trunc, Read, Ls, Stat, Link, Unlink, Rmdir, Rename, Subvol, Snap, Delsub, Subs, Sync, Fsync, Sweep, Usage}
use Rattle.forest_ops.specs.declared.operation.Class.{Class}
use Rattle.forest_ops.specs.declared.operation.Class.TheVariants.{Changes, Syncs, Sweeps, Reads}
use Rattle.forest_ops.specs.declared.operation.Reply.{Reply}
use Rattle.forest_ops.specs.declared.operation.Reply.TheVariants.{NoSpace, DeviceFault, DataLost, Halted, Spent}

-- the class of an operation
abbrev pub class_of : Op → Class
class_of (Mkdir path) = Changes
class_of (Mkfile path) = Changes
class_of (Write path offset bytes) = Changes
class_of (Trunc path size) = Changes
class_of (Link from to) = Changes
class_of (Unlink path) = Changes
class_of (Rmdir path) = Changes
class_of (Rename from to) = Changes
class_of (Subvol name) = Changes
class_of (Snap source copy locked) = Changes
class_of (Delsub name) = Changes
class_of Sync = Syncs
class_of (Fsync path) = Syncs
class_of (Sweep steps) = Sweeps
class_of (Read path offset len) = Reads
class_of (Ls path) = Reads
class_of (Stat path) = Reads
class_of Subs = Reads
class_of Usage = Reads

-- the class is that of operations that change the forest
abbrev pub is_changing : Class → Bool
is_changing Changes = true
is_changing class = false

-- the failures that a class may have for lack of devices, space and numbers
abbrev pub may_have : Class → Reply → Bool
may_have Changes (NoSpace short) = true
may_have Changes (DeviceFault dev) = true
may_have Changes (Halted dev tick) = true
may_have Changes Spent = true
may_have Syncs (DeviceFault dev) = true
may_have Syncs (Halted dev tick) = true
may_have Syncs Spent = true
may_have Sweeps (NoSpace short) = true
may_have Sweeps (DeviceFault dev) = true
may_have Sweeps Spent = true
may_have class reply = false

-- the operation looks at what is stored; a sync alone doesn't
abbrev pub looks : Op → Bool
looks Sync = false
looks op = true

-- a block is lost
abbrev pub is_lost : Reply → Bool
is_lost (DataLost lost) = true
is_lost reply = false

-- a failure that the operation may have, which leaves the forest as it is
abbrev pub may_fail : Op → Reply → Bool
may_fail op reply = may_have (class_of op) reply || (looks op && is_lost reply)
