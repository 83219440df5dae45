-- How histories go on by an entry.
use Rattle.std.proofs.Common.{◌≡◌, ℕ, zero, suc, ◌<◌, ◌≤◌, Bool, true, false, cond, [], ◌∷◌, ◌++◌, length, take, slice_get, Some, refl, ap, ◌∙◌, sym, subst, arith, ⊎_elim}
use Rattle.std.proofs.lemmas.Bool.{cases_lt}
use Rattle.std.proofs.lemmas.List.{take-append-le, take_all}
use Rattle.std.proofs.lemmas.Option.{same_Some, none-some as none_some}
use Rattle.std.specs.List.{list_any}
use Rattle.std.specs.Prelude.{◌==◌}
use Rattle.plain_forest.specs.Forest.{Forest}
use Rattle.forest_ops.specs.History.{History, is_commit, after_entry, after_all, commits_of, commit_count, up_to_own, EachEntry, IsLegal, IsLegalEntry}
use Rattle.forest_ops.specs.declared.operation.Entry.{Entry}

pub after_all-push : (forest : Forest) (history : History) (entry : Entry) → after_all forest (history ++ entry ∷ []) ≡ after_entry (after_all forest history) entry
after_all-push forest [] entry = refl
after_all-push forest (first ∷ history) entry = after_all-push (after_entry forest first) history entry

-- one commit more, where the entry is one
pub commits_of-push : (forest : Forest) (history : History) (entry : Entry) → commits_of forest (history ++ entry ∷ []) ≡ commits_of forest history ++ cond (is_commit (after_all forest history) entry) (entry ∷ []) []
commits_of-push forest [] entry = refl
commits_of-push forest (first ∷ history) entry =
    step (is_commit forest first) _ _ _ (commits_of-push (after_entry forest first) history entry)
  where
    step : (test : Bool) (all later more : History) → all ≡ later ++ more → cond test (first ∷ all) all ≡ cond test (first ∷ later) later ++ more
    step true all later more is = ap (λ entries. first ∷ entries) is
    step false all later more is = is

-- one entry before two lists, or before neither
grows : (test : Bool) (first : Entry) (later all : History) → length later ≤ length all → length (cond test (first ∷ later) later) ≤ length (cond test (first ∷ all) all)
grows true first later all le = omega (arith, le)
grows false first later all le = le

-- a part of the history that ends with an entry of a client has no more commits than the whole
pub commit_count-up_to_own : (client : ℕ) (forest : Forest) (history : History) → commit_count forest (up_to_own client history) ≤ commit_count forest history
commit_count-up_to_own client forest [] = omega arith
commit_count-up_to_own client forest (first ∷ history) =
    step (list_any (λ own. own.client == client) (first ∷ history)) (up_to_own client history) (commit_count-up_to_own client (after_entry forest first) history)
  where
    step : (own : Bool) (part : History) → commit_count (after_entry forest first) part ≤ commit_count (after_entry forest first) history → commit_count forest (cond own (first ∷ part) []) ≤ commit_count forest (first ∷ history)
    step true part le = grows (is_commit forest first) first _ _ le
    step false part le = omega arith

slice_get-push : (history : History) (entry : Entry) (place : ℕ) → place < length history → slice_get (history ++ entry ∷ []) place ≡ slice_get history place
slice_get-push [] entry place lt = absurd (omega (arith, lt))
slice_get-push (first ∷ history) entry zero lt = refl
slice_get-push (first ∷ history) entry (suc place) lt = slice_get-push history entry place (omega (arith, lt))

slice_get-push_last : (history : History) (entry found : Entry) (place : ℕ) → length history ≤ place → slice_get (history ++ entry ∷ []) place ≡ Some found → (place ≡ length history) × (entry ≡ found)
slice_get-push_last [] entry found zero le is = (refl, same_Some entry found is)
slice_get-push_last [] entry found (suc place) le is = absurd (none_some found is)
slice_get-push_last (first ∷ history) entry found zero le is = absurd (omega (arith, le))
slice_get-push_last (first ∷ history) entry found (suc place) le is =
    let rest = slice_get-push_last history entry found place (omega (arith, le)) is in
    (omega (arith, rest.0), rest.1)

take-push : (history : History) (entry : Entry) (n : ℕ) → n ≤ length history → take n (history ++ entry ∷ []) ≡ take n history
take-push history entry n le = take-append-le n history (entry ∷ []) le

module _ (IsSo : History → Entry → Type 0) where
  -- of no entry
  pub EachEntry-none : EachEntry IsSo []
  EachEntry-none place entry is = absurd (none_some entry is)

  -- of one entry more, which is so after the others
  pub EachEntry-push : (history : History) (entry : Entry) → EachEntry IsSo history → IsSo history entry → EachEntry IsSo (history ++ entry ∷ [])
  EachEntry-push history entry so_far next place found is = ⊎_elim
      (λ (before : place < length history).
      subst (λ h. IsSo h found) (sym (take-push history entry place (omega (arith, before)))) (so_far place found (sym (slice_get-push history entry place before) ∙ is)))
      (λ (after : length history ≤ place).
      let last = slice_get-push_last history entry found place after is in
      let all : take place (history ++ entry ∷ []) ≡ history = ap (λ n. take n (history ++ entry ∷ [])) last.0 ∙ take-push history entry (length history) (omega arith) ∙ take_all (length history) history (omega arith) in
      subst (λ h. IsSo h found) (sym all) (subst (λ e. IsSo history e) last.1 next))
      (cases_lt place (length history))

-- the empty history is legal
pub IsLegal-none : (opening : Forest) → IsLegal opening []
IsLegal-none opening = EachEntry-none (IsLegalEntry opening)

-- a legal history goes on by an entry that is legal after it
pub IsLegal-push : (opening : Forest) (history : History) (entry : Entry) → IsLegal opening history → IsLegalEntry opening history entry → IsLegal opening (history ++ entry ∷ [])
IsLegal-push opening history entry legal next = EachEntry-push (IsLegalEntry opening) history entry legal next
