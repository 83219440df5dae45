-- The forests after the commits of a history, with one entry more.
use Rattle.std.proofs.Common.{◌≡◌, ◌≤◌, ◌+◌, ℕ, Bool, true, false, cond, [], ◌∷◌, ◌++◌, length, take, refl, sym, ap, ◌∙◌, arith}
use Rattle.std.proofs.lemmas.List.{append-nil, length-append, take-append-le, take_all}
use Rattle.plain_forest.specs.Forest.{Forest}
use Rattle.forest_ops.specs.History.{History, after_all, after_commits, after_entry, commit_count, commits_of, is_commit}
use Rattle.forest_ops.specs.HistoryLaws.{after_all-push, commits_of-push}
use Rattle.forest_ops.specs.Steps.{forest_after}
use Rattle.forest_ops.specs.declared.operation.Entry.{Entry}

-- the first one of some commits, if it is one, and the later ones
abbrev with_first : Bool → Entry → History → History
with_first test entry later = cond test (entry ∷ later) later

-- the forest after an entry, by whether it is a commit
abbrev next_by : Entry → Forest → Bool → Forest
next_by entry forest test = cond test (forest_after entry.client entry.op forest) forest

-- The commits of a history leave what it leaves, where those after its first entry do.
leave_first : (forest : Forest) (entry : Entry) (history : History) (test : Bool) → is_commit forest entry ≡ test → after_all (next_by entry forest test) (commits_of (next_by entry forest test) history) ≡ after_all (next_by entry forest test) history
    → after_all forest (with_first test entry (commits_of (next_by entry forest test) history)) ≡ after_all (next_by entry forest test) history
leave_first forest entry history true is rest = ap (λ (b : Bool). after_all (next_by entry forest b) (commits_of (next_by entry forest true) history)) is ∙ rest
leave_first forest entry history false is rest = rest

-- The commits of a history alone leave the forest that it leaves.
pub commits_leave : (forest : Forest) (history : History) → after_all forest (commits_of forest history) ≡ after_all forest history
commits_leave forest [] = refl
commits_leave forest (entry ∷ history) = leave_first forest entry history (is_commit forest entry) refl (commits_leave (after_entry forest entry) history)

module _ (forest : Forest) (history : History) where
  -- After all its commits the forest is the one after the history.
  pub after_its_commits : after_commits forest history (commit_count forest history) ≡ after_all forest history
  after_its_commits = ap (after_all forest) (take_all (commit_count forest history) (commits_of forest history) (omega arith)) ∙ commits_leave forest history

  module _ (entry : Entry) where
    abbrev longer : History
    longer = history ++ entry ∷ []

    -- After earlier commits it is as before.
    pub earlier_stays : (count : ℕ) → count ≤ commit_count forest history → after_commits forest longer count ≡ after_commits forest history count
    earlier_stays count few =
        let more : History = cond (is_commit (after_all forest history) entry) (entry ∷ []) [] in
        ap (λ (commits : History). after_all forest (take count commits)) (commits_of-push forest history entry)
        ∙ ap (after_all forest) (take-append-le count (commits_of forest history) more few)

    -- Where the entry is a commit, there is one more, and the forest after that is the one after its operation.
    module _ (is : is_commit (after_all forest history) entry ≡ true) where
      commits_are : commits_of forest longer ≡ commits_of forest history ++ entry ∷ []
      commits_are = commits_of-push forest history entry ∙ ap (λ (b : Bool). commits_of forest history ++ cond b (entry ∷ []) []) is

      pub one_commit_more : commit_count forest longer ≡ commit_count forest history + 1
      one_commit_more = ap (λ (commits : History). length commits) commits_are ∙ length-append (commits_of forest history) (entry ∷ [])

      pub after_one_more : after_commits forest longer (commit_count forest history + 1) ≡ forest_after entry.client entry.op (after_all forest history)
      after_one_more =
          ap (λ (count : ℕ). after_commits forest longer count) (sym one_commit_more)
          ∙ ap (after_all forest) (take_all (commit_count forest longer) (commits_of forest longer) (omega arith)) ∙ commits_leave forest longer
          ∙ after_all-push forest history entry
          ∙ ap (λ (b : Bool). cond b (forest_after entry.client entry.op (after_all forest history)) (after_all forest history)) is

    -- Where it is none, there are as many, and the forests after them are the same.
    module _ (is : is_commit (after_all forest history) entry ≡ false) where
      same_commits : commits_of forest longer ≡ commits_of forest history
      same_commits = commits_of-push forest history entry ∙ ap (λ (b : Bool). commits_of forest history ++ cond b (entry ∷ []) []) is ∙ append-nil (commits_of forest history)

      pub same_count : commit_count forest longer ≡ commit_count forest history
      same_count = ap (λ (commits : History). length commits) same_commits

      pub same_forests : (count : ℕ) → after_commits forest longer count ≡ after_commits forest history count
      same_forests count = ap (λ (commits : History). after_all forest (take count commits)) same_commits
