-- What the plan of an operation promises of a key map.
use Rattle.std.specs.Prelude.{◌≡◌, ◌≢◌, ℕ, ◌≤◌, ⊤, Bool, true, false, None, List, [], length}
use Rattle.forest_ops.specs.Acknowledged.{synced_count}
use Rattle.forest_ops.specs.Classes.{class_of}
use Rattle.forest_ops.specs.History.{commits as is_commit_of}
use Rattle.forest_ops.specs.Steps.{answer_of, forest_after}
use Rattle.forest_ops.specs.declared.operation.Class.TheVariants.{Syncs}
use Rattle.forest_ops.specs.declared.operation.Op.{Op}
use Rattle.forest_ops.specs.declared.operation.Op.TheVariants.{Delsub, Fsync, Link, Ls, Mkdir, Mkfile, Read as ReadBytes, Rename, Rmdir, Snap, Stat, Subs, Subvol, Sync, Unlink, Write}
use Rattle.forest_ops.specs.declared.operation.Reply.{Reply}
use Rattle.forest_ops.specs.declared.operation.Reply.TheVariants.{NoSpace, DeviceFault, DataLost, Halted, Spent, NoMemory}
use Rattle.fs_plan.specs.Updating.{updates_of}
use Rattle.fs_plan.specs.declared.planned.Plan.{Plan}
use Rattle.key_meaning.specs.Checks.{IsSound}
use Rattle.key_meaning.specs.Forest.{Read, forest_in}
use Rattle.key_meaning.specs.Tidy.{IsTidy}
use Rattle.path_plan.specs.Made.{AreMade}
use Rattle.plain_forest.specs.Forest.{Forest}
use Rattle.vol_types.specs.KeyMaps.{KeyMap, with_updates}
use Rattle.vol_types.specs.declared.layout.Layout.{Layout}
use Rattle.vol_types.specs.declared.pointers.Place.{Place}

-- whether an operation can be planned so far
abbrev pub is_planned : Op → Bool
is_planned (Mkdir path) = true
is_planned (Mkfile path) = true
is_planned (Link from to) = true
is_planned (Unlink path) = true
is_planned (Rmdir path) = true
is_planned (Rename from to) = true
is_planned (Ls path) = true
is_planned (Stat path) = true
is_planned (Subvol name) = true
is_planned (Snap source copy locked) = true
is_planned (Delsub name) = true
is_planned Subs = true
is_planned Sync = true
is_planned (Fsync path) = true
is_planned other = false

-- The operation's numbers are within their bounds: a write has 1 to 65,536 bytes, and a read asks for at most 65,536.
abbrev pub IsBounded : Op → Type 0
IsBounded (Write path offset bytes) = (1 ≤ length bytes) × (length bytes ≤ 65536)
IsBounded (ReadBytes path offset len) = len ≤ 65536
IsBounded other = ⊤

-- the reply is a failure, as no forest answers
abbrev pub is_failure : Reply → Bool
is_failure (NoSpace short) = true
is_failure (DeviceFault dev) = true
is_failure (DataLost lost) = true
is_failure (Halted dev tick) = true
is_failure Spent = true
is_failure NoMemory = true
is_failure reply = false

-- What is so of a plan by its operation's class, over any keys: it says whether it is a commit, answers with no failure, has
-- updates only where it is a commit, and a number of commits only where the operation syncs.
pub record IsOfItsClass (plan : Plan) : Type 0 where
  pub commits : (forest : Forest) → plan.commits ≡ is_commit_of plan.op plan.reply forest
  pub unfailed : is_failure plan.reply ≡ false
  pub idle : plan.commits ≡ false → plan.updates ≡ []
  pub unsynced : class_of plan.op ≢ Syncs → synced_count plan.reply ≡ None

-- The plan's reply is that of the client's operation on the forest that the key map means, as an image holds it, and it says whether
-- the operation is a commit there. Its updates are those of the operation over these keys. With them the key map means the forest
-- after the operation, and is sound and tidy.
pub record IsPlanOf (keys : KeyMap) (nodes : List Place) (layout : Layout) (client : ℕ) (plan : Plan) : Type 0 where
  pub reply : (read : Read) → plan.reply ≡ answer_of client plan.op (forest_in keys read)
  pub commits : (read : Read) → plan.commits ≡ is_commit_of plan.op plan.reply (forest_in keys read)
  pub updates : plan.updates ≡ updates_of keys client plan.op
  pub means : (read : Read) → forest_in (with_updates plan.updates keys) read ≡ forest_after client plan.op (forest_in keys read)
  pub sound : IsSound (with_updates plan.updates keys) nodes layout
  pub tidy : IsTidy (with_updates plan.updates keys)
  pub made : AreMade plan.updates
