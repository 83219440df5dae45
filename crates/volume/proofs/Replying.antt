-- What replies show of themselves: a failure is no commit, and what the forest answers a plan shows no failure.
use Rattle.std.proofs.Common.{◌≡◌, ℕ, Bool, true, false, cond, List, [], Option, None, Some, refl, sym, ap, ◌∙◌, inl, inr, ⊎_elim}
use Rattle.std.specs.Prelude.{◌≢◌, ◌⊎◌, ◌&&◌, ◌||◌, is_some}
use Rattle.std.proofs.lemmas.Bool.{false≢true, true≢false}
use Rattle.std.proofs.lemmas.Option.{none-some as none_some}
use Rattle.core_state.specs.States.{State}
use Rattle.core_volume.specs.Volumes.{Volume}
use Rattle.vol_types.specs.declared.failure.Halt.{Halt}
use Rattle.dev_model.specs.Devices.{FaultCounts}
use Rattle.forest_ops.specs.Classes.{class_of, is_changing, is_lost, looks, may_fail, may_have}
use Rattle.forest_ops.specs.History.{commits, is_done}
use Rattle.forest_ops.specs.declared.operation.Class.{Class}
use Rattle.forest_ops.specs.declared.operation.Class.TheVariants.{Changes, Reads, Sweeps, Syncs}
use Rattle.forest_ops.specs.declared.operation.Op.{Op}
use Rattle.forest_ops.specs.declared.operation.Reply.{Reply}
use Rattle.forest_ops.specs.declared.operation.Reply.TheVariants as replies
use Rattle.fs_plan.specs.Plans.{IsOfItsClass, is_failure, is_planned}
use Rattle.fs_plan.specs.declared.planned.Plan.{Plan}
use Rattle.plain_forest.specs.Forest.{Forest}
use Rattle.forest_ops.specs.Acknowledged.{synced_count}
use Rattle.vol_session.specs.Sessions.{IsAnswerNow, IsFailureNow, IsPlanNow, IsSyncedNow}
use Rattle.image_view.specs.Found.{Found}
use Rattle.volume.specs.Answers.{HasCause, nothing_short}
use Rattle.volume.specs.Serving.{HaltsAs, IsChange, IsDoneNow, IsIntended, IsWriting, halt_told, is_synced}
use Rattle.volume.proofs.Failing.{commit_changes, commit_is_done, faults_after, not_done}

-- ---- classes

-- A class fails with failures alone.
class_fails : (class : Class) (reply : Reply) → is_failure reply ≡ false → may_have class reply ≡ false
class_fails Changes (replies.NoSpace short) none = absurd (true≢false none)
class_fails Changes (replies.DeviceFault dev) none = absurd (true≢false none)
class_fails Changes (replies.Halted dev tick) none = absurd (true≢false none)
class_fails Changes replies.Spent none = absurd (true≢false none)
class_fails Changes other none = refl
class_fails Syncs (replies.DeviceFault dev) none = absurd (true≢false none)
class_fails Syncs (replies.Halted dev tick) none = absurd (true≢false none)
class_fails Syncs replies.Spent none = absurd (true≢false none)
class_fails Syncs other none = refl
class_fails Sweeps (replies.NoSpace short) none = absurd (true≢false none)
class_fails Sweeps (replies.DeviceFault dev) none = absurd (true≢false none)
class_fails Sweeps replies.Spent none = absurd (true≢false none)
class_fails Sweeps other none = refl
class_fails Reads replies.Okay none = refl
class_fails Reads other none = refl

none_lost : (reply : Reply) → is_failure reply ≡ false → is_lost reply ≡ false
none_lost (replies.DataLost lost) none = absurd (true≢false none)
none_lost other none = refl

and_false : (b : Bool) → (b && false) ≡ false
and_false true = refl
and_false false = refl

-- What is no failure is none that an operation may have.
no_failure : (op : Op) (reply : Reply) → is_failure reply ≡ false → may_fail op reply ≡ false
no_failure op reply none =
    ap (λ (b : Bool). b || (looks op && is_lost reply)) (class_fails (class_of op) reply none) ∙ ap (λ (b : Bool). looks op && b) (none_lost reply none) ∙ and_false (looks op)

-- What an operation may fail with is a failure.
failure_of : (op : Op) (reply : Reply) → may_fail op reply ≡ true → is_failure reply ≡ true
failure_of op reply may = by (is_failure reply) refl
  where
    by : (failed : Bool) → is_failure reply ≡ failed → is_failure reply ≡ true
    by true is = is
    by false is = absurd (false≢true (sym (no_failure op reply is) ∙ may))

-- What changes the forest is of the class of changes.
changes_are : (class : Class) → is_changing class ≡ true → class ≡ Changes
changes_are Changes is = refl
changes_are other is = absurd (false≢true is)

-- ---- failures

-- A failure isn't done, and acknowledges nothing.
failure_not_done : (reply : Reply) → is_failure reply ≡ true → is_done reply ≡ false
failure_not_done replies.Okay failed = absurd (false≢true failed)
failure_not_done (replies.More size) failed = absurd (false≢true failed)
failure_not_done other failed = refl

failure_unsynced : (reply : Reply) → is_failure reply ≡ true → synced_count reply ≡ None
failure_unsynced (replies.Synced count) failed = absurd (false≢true failed)
failure_unsynced other failed = refl

-- So it is of what an operation may fail with,
pub failing_is_unsynced : (op : Op) (reply : Reply) → may_fail op reply ≡ true → synced_count reply ≡ None
failing_is_unsynced op reply may = failure_unsynced reply (failure_of op reply may)

-- and that is no commit in any forest.
pub failure_commits_nothing : (op : Op) (reply : Reply) → may_fail op reply ≡ true → (forest : Forest) → commits op reply forest ≡ false
failure_commits_nothing op reply may forest = not_done op reply forest (failure_not_done reply (failure_of op reply may))

-- An operation may fail with what its class may.
class_may_fail : (class : Class) (op : Op) (reply : Reply) → class_of op ≡ class → may_have class reply ≡ true → may_fail op reply ≡ true
class_may_fail class op reply is may = ap (λ c. may_have c reply || (looks op && is_lost reply)) is ∙ ap (λ b. b || (looks op && is_lost reply)) may

-- A change may fail now with what changes may, where the forest would do it.
pub change_fails : (memory : State) (client : ℕ) (op : Op) (reply : Reply) → is_changing (class_of op) ≡ true → may_have Changes reply ≡ true → IsDoneNow memory client op → IsFailureNow memory client op reply
change_fails memory client op reply changing may done = record {
  may = class_may_fail Changes op reply (changes_are (class_of op) changing) may;
  done = λ changes. done;
}

-- An operation that syncs may fail so, and changes nothing.
pub sync_fails : (memory : State) (client : ℕ) (op : Op) (reply : Reply) → class_of op ≡ Syncs → may_have Syncs reply ≡ true → IsFailureNow memory client op reply
sync_fails memory client op reply syncs may = record {
  may = class_may_fail Syncs op reply syncs may;
  done = λ changing. absurd (false≢true (sym (ap is_changing syncs) ∙ changing));
}

-- ---- plans

-- a forest without anything
abbrev pub bare : Forest
bare = record { subvolumes = []; next = []; ids_left = 0 }

-- What a plan commits is a change,
pub plan_changes : (plan : Plan) → is_planned plan.op ≡ true → IsOfItsClass plan → plan.commits ≡ true → IsChange plan.op plan.reply
plan_changes plan planned class commits = record { planned = planned; commits = λ forest. sym (class.commits forest) ∙ commits }

-- and changes the forest wherever it is done,
pub change_changes : (op : Op) (reply : Reply) → IsChange op reply → is_changing (class_of op) ≡ true
change_changes op reply change = commit_changes op reply bare (change.commits bare)

pub change_is_done : (op : Op) (reply : Reply) → IsChange op reply → is_done reply ≡ true
change_is_done op reply change = commit_is_done op reply bare (change.commits bare)

-- and is done now.
pub plan_is_done : (memory : State) (client : ℕ) (plan : Plan) → is_done plan.reply ≡ true → IsPlanNow memory client plan → IsDoneNow memory client plan.op
plan_is_done memory client plan done now nodes layout sound tidy read = sym (ap is_done ((now nodes layout sound tidy).reply read)) ∙ done

pub intended_is_done : (memory : State) (client : ℕ) (op : Op) (reply : Reply) → IsIntended memory client op reply → IsDoneNow memory client op
intended_is_done memory client op reply is nodes layout sound tidy read = sym (ap is_done ((is.now nodes layout sound tidy).reply read)) ∙ change_is_done op reply is.change

-- A plan's reply is the forest's, and no failure.
pub plan_answers : (memory : State) (client : ℕ) (plan : Plan) → IsOfItsClass plan → IsPlanNow memory client plan → IsAnswerNow memory client plan.op plan.reply
plan_answers memory client plan class now = record {
  unfailed = no_failure plan.op plan.reply class.unfailed;
  answers = λ nodes layout sound tidy read. (now nodes layout sound tidy).reply read;
}

-- Whether an operation syncs is known,
syncs_or_not : (op : Op) → (class_of op ≡ Syncs) ⊎ (class_of op ≢ Syncs)
syncs_or_not op = by (class_of op) refl
  where
    by : (class : Class) → class_of op ≡ class → (class_of op ≡ Syncs) ⊎ (class_of op ≢ Syncs)
    by Syncs is = inl is
    by Changes is = inr (λ same. true≢false (ap is_changing (sym is ∙ same)))
    by Sweeps is = inr (λ same. true≢false (ap (λ c. may_have c (replies.NoSpace nothing_short)) (sym is ∙ same)))
    by Reads is = inr (λ same. false≢true (ap (λ c. may_have c replies.Spent) (sym is ∙ same)))

-- so that a plan whose reply is a number of commits is one of an operation that syncs,
pub synced_syncs : (plan : Plan) → IsOfItsClass plan → is_synced plan.reply ≡ true → class_of plan.op ≡ Syncs
synced_syncs plan class synced =
    ⊎_elim (λ (syncs : class_of plan.op ≡ Syncs). syncs) (λ (other : class_of plan.op ≢ Syncs). absurd (false≢true (sym (ap is_some (class.unsynced other)) ∙ synced))) (syncs_or_not plan.op)

-- which the forest answers so.
pub plan_is_synced : (memory : State) (client : ℕ) (plan : Plan) → is_synced plan.reply ≡ true → IsPlanNow memory client plan → IsSyncedNow memory client plan.op
plan_is_synced memory client plan synced now nodes layout sound tidy read = sym (ap is_synced ((now nodes layout sound tidy).reply read)) ∙ synced

unsynced_none : (reply : Reply) → is_synced reply ≡ false → synced_count reply ≡ None
unsynced_none (replies.Synced count) unsynced = absurd (true≢false unsynced)
unsynced_none other unsynced = refl

-- ---- causes

-- The forest's reply shows no failure, and no halt.
pub record IsQuiet (reply : Reply) : Type 0 where
  pub unsynced : synced_count reply ≡ None
  pub cause : (begun : Found) (client : ℕ) (op : Op) (volume : Volume) (before after : FaultCounts) → after ≡ before → HasCause begun client op reply volume before after
  pub halts : (before after : ℕ) (sizes : List ℕ) (old new : Option Halt) → new ≡ old → HaltsAs reply before after sizes old new

pub forests_is_quiet : (reply : Reply) → is_failure reply ≡ false → is_synced reply ≡ false → IsQuiet reply
forests_is_quiet reply unfailed unsynced = record {
  unsynced = unsynced_none reply unsynced;
  cause = λ begun client op volume before after same. quiet_cause begun client op reply volume before after unfailed same;
  halts = λ before after sizes old new same. quiet_halts reply before after sizes old new unfailed same;
}
  where
    quiet_cause : (begun : Found) (client : ℕ) (op : Op) (reply : Reply) (volume : Volume) (before after : FaultCounts) → is_failure reply ≡ false → after ≡ before → HasCause begun client op reply volume before after
    quiet_cause begun client op (replies.DeviceFault dev) volume before after none same = absurd (true≢false none)
    quiet_cause begun client op (replies.Halted dev tick) volume before after none same = absurd (true≢false none)
    quiet_cause begun client op (replies.NoSpace short) volume before after none same = absurd (true≢false none)
    quiet_cause begun client op replies.Spent volume before after none same = absurd (true≢false none)
    quiet_cause begun client op replies.NoMemory volume before after none same = absurd (true≢false none)
    quiet_cause begun client op other volume before after none same = same

    quiet_halts : (reply : Reply) (before after : ℕ) (sizes : List ℕ) (old new : Option Halt) → is_failure reply ≡ false → new ≡ old → HaltsAs reply before after sizes old new
    quiet_halts (replies.DeviceFault dev) before after sizes old new none same = absurd (true≢false none)
    quiet_halts (replies.Halted dev tick) before after sizes old new none same = absurd (true≢false none)
    quiet_halts other before after sizes old new none same = same

-- What is done is no failure.
pub done_is_quiet : (reply : Reply) → is_done reply ≡ true → IsQuiet reply
done_is_quiet replies.Okay done = forests_is_quiet replies.Okay refl refl
done_is_quiet (replies.More size) done = forests_is_quiet (replies.More size) refl refl
done_is_quiet other done = absurd (false≢true done)

-- What isn't done is done only where the session writes,
pub undone_writes : (op : Op) (reply : Reply) (halted : Option Halt) → is_done reply ≡ false → IsWriting op reply halted
undone_writes op reply halted not_so changes done = absurd (false≢true (sym not_so ∙ done))

-- and so is what is told where no halt is.
pub untold_writes : (op : Op) (reply : Reply) (halted : Option Halt) → halt_told op reply halted ≡ None → IsWriting op reply halted
untold_writes op reply halted none changes done = sym (ap (λ (b : Bool). cond (b && is_done reply) halted None) changes ∙ ap (λ (b : Bool). cond b halted None) done) ∙ none

-- The halt that is told of an operation is the session's, and the operation a change that would be done.
pub record IsHaltTold (op : Op) (reply : Reply) (halted : Option Halt) (halt : Halt) : Type 0 where
  pub changes : is_changing (class_of op) ≡ true
  pub done : is_done reply ≡ true
  pub halted_so : halted ≡ Some halt

pub told_halts : (op : Op) (reply : Reply) (halted : Option Halt) (halt : Halt) → halt_told op reply halted ≡ Some halt → IsHaltTold op reply halted halt
told_halts op reply halted halt is = by (is_changing (class_of op)) (is_done reply) refl refl is
  where
    by : (changing done : Bool) → is_changing (class_of op) ≡ changing → is_done reply ≡ done → cond (changing && done) halted None ≡ Some halt → IsHaltTold op reply halted halt
    by true true changes done told = record { changes = changes; done = done; halted_so = told }
    by true false changes done told = absurd (none_some halt told)
    by false done changes is_it told = absurd (none_some halt told)

-- The counts after a reply are as its cause says.
pub faults_caused : (begun : Found) (client : ℕ) (op : Op) (reply : Reply) (volume : Volume) (before after : FaultCounts) → HasCause begun client op reply volume before after → after ≡ faults_after reply before
faults_caused begun client op (replies.DeviceFault dev) volume before after cause = cause
faults_caused begun client op (replies.Halted dev tick) volume before after cause = cause.0
faults_caused begun client op (replies.NoSpace short) volume before after cause = cause.0
faults_caused begun client op replies.Spent volume before after cause = cause.0
faults_caused begun client op replies.NoMemory volume before after cause = absurd cause
faults_caused begun client op other volume before after cause = cause
