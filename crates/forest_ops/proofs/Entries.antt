-- What an entry leaves, by its reply.
use Rattle.std.proofs.Common.{◌≡◌, ℕ, Bool, true, false, cond, refl, sym, ap, ◌∙◌}
use Rattle.std.specs.Prelude.{not, ◌&&◌, ◌||◌, IsTrue}
use Rattle.plain_forest.specs.Forest.{Forest}
use Rattle.forest_ops.specs.Steps.{forest_after, answer_of}
use Rattle.forest_ops.specs.Classes.{class_of, is_changing, may_have, looks, is_lost, may_fail}
use Rattle.forest_ops.specs.History.{History, is_done, is_idle, commits, with_numbers, after_entry, after_all, IsAnswer}
use Rattle.forest_ops.specs.declared.operation.Class.{Class}
use Rattle.forest_ops.specs.declared.operation.Class.TheVariants.{Changes, Syncs, Sweeps, Reads}
use Rattle.forest_ops.specs.declared.operation.Reply.{Reply}
use Rattle.forest_ops.specs.declared.operation.Reply.TheVariants.{Okay, More, Synced, Content, List as Listed, File as FileIs, Dir as DirectoryIs, SubNames, Used, NoSpace, DeviceFault, DataLost, Halted, Spent, NoMemory, Refused}
use Rattle.forest_ops.specs.declared.operation.Entry.{Entry}
use Rattle.forest_ops.proofs.Idle.{only_commits}

-- open numbers make nothing done or undone
same_done : (count used : ℕ) (reply : Reply) → is_done (with_numbers count used reply) ≡ is_done reply
same_done count used Okay = refl
same_done count used (More size) = refl
same_done count used (Synced none) = refl
same_done count used (Content bytes) = refl
same_done count used (Listed names) = refl
same_done count used (FileIs number size links) = refl
same_done count used (DirectoryIs number entries) = refl
same_done count used (SubNames names) = refl
same_done count used (Used none) = refl
same_done count used (NoSpace short) = refl
same_done count used (DeviceFault dev) = refl
same_done count used (DataLost lost) = refl
same_done count used (Halted dev tick) = refl
same_done count used Spent = refl
same_done count used NoMemory = refl
same_done count used (Refused cause) = refl

-- an entry that is a commit where its operation changes the forest
changed_or_left : (forest after : Forest) (test : Bool) → (test ≡ false → after ≡ forest) → cond test after forest ≡ after
changed_or_left forest after true left = refl
changed_or_left forest after false left = sym (left refl)

-- after an entry with the forest's reply the forest is what its operation makes of it
pub answer_is_step : (opening : Forest) (before : History) (entry : Entry) → IsAnswer opening before entry → after_entry (after_all opening before) entry ≡ forest_after entry.client entry.op (after_all opening before)
answer_is_step opening before entry is =
    let forest = after_all opening before in
    let answer = answer_of entry.client entry.op forest in
    let done : is_done entry.reply ≡ is_done answer = ap is_done is.reply ∙ same_done is.count is.used answer in
    let same : commits entry.op entry.reply forest ≡ commits entry.op answer forest =
    ap (λ done. is_changing (class_of entry.op) && done && not (is_idle entry.op forest)) done in
    changed_or_left forest (forest_after entry.client entry.op forest) (commits entry.op entry.reply forest)
    (λ none. only_commits entry.client entry.op forest (sym same ∙ none))

-- what is done is no failure
undone : (class : Class) (looked : Bool) (reply : Reply) → IsTrue (may_have class reply || (looked && is_lost reply)) → is_done reply ≡ false
undone Changes true Okay fails = absurd (cc)
undone Changes false Okay fails = absurd (cc)
undone Syncs true Okay fails = absurd (cc)
undone Syncs false Okay fails = absurd (cc)
undone Sweeps true Okay fails = absurd (cc)
undone Sweeps false Okay fails = absurd (cc)
undone Reads true Okay fails = absurd (cc)
undone Reads false Okay fails = absurd (cc)
undone Changes true (More size) fails = absurd (cc)
undone Changes false (More size) fails = absurd (cc)
undone Syncs true (More size) fails = absurd (cc)
undone Syncs false (More size) fails = absurd (cc)
undone Sweeps true (More size) fails = absurd (cc)
undone Sweeps false (More size) fails = absurd (cc)
undone Reads true (More size) fails = absurd (cc)
undone Reads false (More size) fails = absurd (cc)
undone class looked (Synced count) fails = refl
undone class looked (Content bytes) fails = refl
undone class looked (Listed names) fails = refl
undone class looked (FileIs number size links) fails = refl
undone class looked (DirectoryIs number entries) fails = refl
undone class looked (SubNames names) fails = refl
undone class looked (Used blocks) fails = refl
undone class looked (NoSpace short) fails = refl
undone class looked (DeviceFault dev) fails = refl
undone class looked (DataLost lost) fails = refl
undone class looked (Halted dev tick) fails = refl
undone class looked Spent fails = refl
undone class looked NoMemory fails = refl
undone class looked (Refused cause) fails = refl

no_commit : (changes done moves : Bool) → done ≡ false → changes && done && moves ≡ false
no_commit true true moves is = absurd (cc)
no_commit true false moves is = refl
no_commit false done moves is = refl

-- a failure leaves the forest
pub failure_leaves : (forest : Forest) (entry : Entry) → IsTrue (may_fail entry.op entry.reply) → after_entry forest entry ≡ forest
failure_leaves forest entry fails =
    ap (λ commit. cond commit (forest_after entry.client entry.op forest) forest)
    (no_commit (is_changing (class_of entry.op)) (is_done entry.reply) (not (is_idle entry.op forest)) (undone (class_of entry.op) (looks entry.op) entry.reply fails))
