-- What holds of every step and every history.
use Rattle.std.specs.Prelude.{◌≡◌, ℕ, false, IsTrue, [], ◌∷◌, ◌++◌}
use Rattle.plain_forest.specs.Forest.{Forest}
use Rattle.forest_ops.specs.Steps.{forest_after, answer_of}
use Rattle.forest_ops.specs.Classes.{may_fail}
use Rattle.forest_ops.specs.History.{History, commits, after_entry, after_all, IsAnswer, IsLegal, IsLegalEntry}
use Rattle.forest_ops.specs.declared.operation.Op.{Op}
use Rattle.forest_ops.specs.declared.operation.Entry.{Entry}

-- what is no commit leaves the forest
abbrev pub OnlyCommitsChange : Type 0
OnlyCommitsChange = (client : ℕ) (op : Op) (forest : Forest) → commits op (answer_of client op forest) forest ≡ false → forest_after client op forest ≡ forest

-- after an entry with the forest's reply the forest is what its operation makes of it
abbrev pub AnswersAreSteps : Type 0
AnswersAreSteps = (opening : Forest) (before : History) (entry : Entry) → IsAnswer opening before entry → after_entry (after_all opening before) entry ≡ forest_after entry.client entry.op (after_all opening before)

-- a failure leaves the forest
abbrev pub FailuresLeave : Type 0
FailuresLeave = (forest : Forest) (entry : Entry) → IsTrue (may_fail entry.op entry.reply) → after_entry forest entry ≡ forest

-- a legal history goes on by an entry that is legal after it
abbrev pub HistoriesGoOn : Type 0
HistoriesGoOn = (opening : Forest) (history : History) (entry : Entry) → IsLegal opening history → IsLegalEntry opening history entry → IsLegal opening (history ++ entry ∷ [])
