-- What the plan of an operation comes to, by the updates of a change or by the reply of what changes nothing.
use Rattle.std.specs.Prelude.{true, false, List, [], Option, Some, None, Result, Ok, Err}
use Rattle.forest_ops.specs.declared.operation.Cause.{Cause}
use Rattle.forest_ops.specs.declared.operation.Op.{Op}
use Rattle.forest_ops.specs.declared.operation.Reply.{Reply}
use Rattle.forest_ops.specs.declared.operation.Reply.TheVariants.{Okay, Refused}
use Rattle.fs_plan.specs.declared.planned.Outcome.{Outcome}
use Rattle.fs_plan.specs.declared.planned.Plan.{Plan}
use Rattle.vol_types.specs.declared.keys.Update.{Update}

-- the plan of an operation that comes to this
abbrev pub plan_of : Op → Outcome → Plan
plan_of op outcome = record { op = op; updates = outcome.updates; reply = outcome.reply; commits = outcome.commits }

-- what is only answered
abbrev pub answered : Reply → Outcome
answered reply = record { updates = []; reply = reply; commits = false }

-- what a change comes to: a commit of its updates, or a refusal
abbrev pub changed : Result (List Update) Cause → Outcome
changed (Ok updates) = record { updates = updates; reply = Okay; commits = true }
changed (Err cause) = answered (Refused cause)

-- what a rename comes to: where there is nothing to move it is done, and is no commit
abbrev pub moved : Result (Option (List Update)) Cause → Outcome
moved (Ok (Some updates)) = changed (Ok updates)
moved (Ok None) = answered Okay
moved (Err cause) = answered (Refused cause)
