-- When a history of operations is legal, which of its entries are commits, and what it leaves.
use Rattle.std.specs.Prelude.{◌≡◌, ◌⊎◌, ℕ, ◌≤◌, Bool, true, false, not, ◌&&◌, IsTrue, ◌==◌, List, [], ◌∷◌, length, take, slice_get, Result, Ok, Err, Some, if◌then◌else◌}
use Rattle.std.specs.List.{list_any}
use Rattle.plain_forest.specs.Forest.{Forest}
use Rattle.forest_ops.specs.Walking.{File, file_at}
use Rattle.forest_ops.specs.Names.{same_path}
use Rattle.forest_ops.specs.Steps.{answer_of, forest_after}
use Rattle.forest_ops.specs.Classes.{class_of, is_changing, may_fail}
use Rattle.forest_ops.specs.declared.operation.Cause.{Cause}
use Rattle.forest_ops.specs.declared.operation.Op.{Op}
use Rattle.forest_ops.specs.declared.operation.Op.TheVariants.{Trunc, Rename}
use Rattle.forest_ops.specs.declared.operation.Reply.{Reply}
use Rattle.forest_ops.specs.declared.operation.Reply.TheVariants.{Okay, More, Synced, Used}
use Rattle.forest_ops.specs.declared.operation.Entry.{Entry}

-- operations with their replies, the first one first
abbrev pub History : Type 0
History = List Entry

-- the reply says that a change was done, in whole or in part
abbrev pub is_done : Reply → Bool
is_done Okay = true
is_done (More size) = true
is_done reply = false

-- the file has this size
abbrev pub has_size : ℕ → Result File Cause → Bool
has_size size (Ok file) = length file.bytes == size
has_size size (Err cause) = false

-- an operation that would change nothing: a rename with equal paths, and a truncation to the size that the file has
abbrev pub is_idle : Op → Forest → Bool
is_idle (Rename from to) forest = same_path from to
is_idle (Trunc path size) forest = has_size size (file_at path forest)
is_idle op forest = false

-- the operation with its reply is a commit in the forest that it finds: it changes the forest, and was done
abbrev pub commits : Op → Reply → Forest → Bool
commits op reply forest = is_changing (class_of op) && is_done reply && not (is_idle op forest)

-- an entry is a commit in the forest that it finds
abbrev pub is_commit : Forest → Entry → Bool
is_commit forest entry = commits entry.op entry.reply forest

-- the forest after an entry: a commit changes it, and nothing else does
abbrev pub after_entry : Forest → Entry → Forest
after_entry forest entry = if is_commit forest entry then forest_after entry.client entry.op forest else forest

-- the forest after a history
abbrev pub after_all : Forest → History → Forest
after_all forest [] = forest
after_all forest (entry ∷ history) = after_all (after_entry forest entry) history

-- the commits of a history, in their order
abbrev pub commits_of : Forest → History → History
commits_of forest [] = []
commits_of forest (entry ∷ history) = let later = commits_of (after_entry forest entry) history in if is_commit forest entry then entry ∷ later else later

-- how many commits a history has
abbrev pub commit_count : Forest → History → ℕ
commit_count forest history = length (commits_of forest history)

-- the forest after the first so many commits of a history
abbrev pub after_commits : Forest → History → ℕ → Forest
after_commits forest history count = after_all forest (take count (commits_of forest history))

-- a history up to and with the last entry of a client; nothing where it has none
abbrev pub up_to_own : ℕ → History → History
up_to_own client [] = []
up_to_own client (entry ∷ history) = if list_any (λ own. own.client == client) (entry ∷ history) then entry ∷ up_to_own client history else []

-- a reply of the forest with the numbers that it leaves open
abbrev pub with_numbers : ℕ → ℕ → Reply → Reply
with_numbers count used (Synced none) = Synced count
with_numbers count used (Used none) = Used used
with_numbers count used reply = reply

-- The reply is the forest's after the entries before. A sync answers with a number of commits that stood before it,
-- and at least those up to the same client's entry before it. How many blocks are used is left open.
pub record IsAnswer (opening : Forest) (before : History) (entry : Entry) : Type 0 where
  pub count : ℕ
  pub used : ℕ
  pub at_least : commit_count opening (up_to_own entry.client before) ≤ count
  pub at_most : count ≤ commit_count opening before
  pub reply : entry.reply ≡ with_numbers count used (answer_of entry.client entry.op (after_all opening before))

-- an entry is legal after those before it where its reply is the forest's, or a failure that its operation may have
abbrev pub IsLegalEntry : Forest → History → Entry → Type 0
IsLegalEntry opening before entry = IsAnswer opening before entry ⊎ IsTrue (may_fail entry.op entry.reply)

-- each entry of a history is so after those before it
abbrev pub EachEntry : (History → Entry → Type 0) → History → Type 0
EachEntry IsSo history = (place : ℕ) (entry : Entry) → slice_get history place ≡ Some entry → IsSo (take place history) entry

-- a history is legal from a forest where each entry is legal after those before it
abbrev pub IsLegal : Forest → History → Type 0
IsLegal opening history = EachEntry (IsLegalEntry opening) history
