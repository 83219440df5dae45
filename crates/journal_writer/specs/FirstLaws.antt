-- Which of the entries changes a btree first.
use Rattle.std.proofs.Common.{◌≡◌, ◌<◌, ◌≤◌, ◌+◌, ℕ, zero, suc, Bool, true, false, cond, Option, None, Some, List, [], ◌∷◌, ◌++◌, ◌⊎◌, ⊎_elim, inl, inr, refl, sym, ap, ◌∙◌, arith}
use Rattle.std.specs.Prelude.{Contains, ◌||◌}
use Rattle.std.specs.Option.{option_or}
use Rattle.std.proofs.lemmas.Bool.{true≢false}
use Rattle.std.proofs.lemmas.List.{map-append}
use Rattle.std.proofs.lemmas.Option.{none-some as none_some, same_Some}
use Rattle.vol_types.specs.KeyMaps.{KeyMap, entries_of, is_update_of}
use Rattle.vol_types.specs.KeyMapLaws.{entries_of-with_update}
use Rattle.vol_types.specs.Maps.{put_at}
use Rattle.vol_types.specs.Positions.{pos_cmp}
use Rattle.vol_types.specs.declared.keys.Update.{Update}
use Rattle.vol_types.specs.declared.positions.Btree.{Btree}
use Rattle.vol_types.specs.declared.values.Value.{Value}
use Rattle.journal_writer.specs.Changes.{changes_btree, giving, taken_back, undone}
use Rattle.journal_writer.specs.Queues.{AreBehind, AreFollowed, IsQueue, Queue, closed_changes, first_of, first_with, oldest, waiting, waiting_entries}
use Rattle.journal_writer.specs.declared.changes.Pending.{Pending}

-- What a list contains is the first of it, or one of those behind that.
contained_cases : {X : Type 0} (x : X) (xs : List X) (y : X) → Contains (x ∷ xs) y → (x ≡ y) ⊎ Contains xs y
contained_cases x xs y (zero, lt, is) = inl is
contained_cases x xs y (suc at, lt, is) = inr (at, omega (arith, lt), is)

contained_first : {X : Type 0} (x : X) (xs : List X) → Contains (x ∷ xs) x
contained_first x xs = (zero, omega arith, refl)

contained_behind : {X : Type 0} (x : X) (xs : List X) (y : X) → Contains xs y → Contains (x ∷ xs) y
contained_behind x xs y (at, lt, is) = (suc at, omega (arith, lt), is)

-- An entry that is behind a sequence among others is behind it itself.
contained-behind : (sequence : ℕ) (entries : List Pending) (entry : Pending) → AreBehind sequence entries → Contains entries entry → sequence ≤ entry.after
contained-behind sequence [] entry are has = absurd (let lt = has.1 in omega (arith, lt))
contained-behind sequence (one ∷ later) entry are has =
    let from = are.0 in
    ⊎_elim (λ (same : one ≡ entry). let e = ap (λ (e : Pending). e.after) same in omega (arith, from, e))
    (λ (behind : Contains later entry). let rest = contained-behind one.after later entry are.1 behind in omega (arith, from, rest))
    (contained_cases one later entry has)

-- What doesn't change a btree has no updates of it.
none_first : (b c : Bool) → (b || c) ≡ false → b ≡ false
none_first true c none = absurd (true≢false none)
none_first false c none = refl

none_later : (b c : Bool) → (b || c) ≡ false → c ≡ false
none_later true c none = absurd (true≢false none)
none_later false c none = none

module _ (btree : Btree) (entry : Pending) (later : List Pending) where
  -- the first entry, where it changes the btree, and else the first one behind it
  pub first-here : changes_btree btree entry.changes.updates ≡ true → first_with btree (entry ∷ later) ≡ Some (entry.after + 1)
  first-here is = ap (λ b. cond b (Some (entry.after + 1)) (first_with btree later)) is

  pub first-later : changes_btree btree entry.changes.updates ≡ false → first_with btree (entry ∷ later) ≡ first_with btree later
  first-later is = ap (λ b. cond b (Some (entry.after + 1)) (first_with btree later)) is

-- Of entries and others behind them the first one is that of the entries, or else that of the others.
pub first_append : (btree : Btree) (entries others : List Pending) → first_with btree (entries ++ others) ≡ option_or (first_with btree entries) (first_with btree others)
first_append btree [] others = refl
first_append btree (entry ∷ later) others = by (changes_btree btree entry.changes.updates) (first_append btree later others)
  where
    by : (b : Bool) → first_with btree (later ++ others) ≡ option_or (first_with btree later) (first_with btree others)
        → cond b (Some (entry.after + 1)) (first_with btree (later ++ others)) ≡ option_or (cond b (Some (entry.after + 1)) (first_with btree later)) (first_with btree others)
    by true rest = refl
    by false rest = rest

-- It is the sequence of one of the entries, which changes the btree.
abbrev IsOf : Btree → List Pending → ℕ → Type 0
IsOf btree entries first = (entry : Pending) × Contains entries entry × (changes_btree btree entry.changes.updates ≡ true) × (first ≡ entry.after + 1)

-- What the first one gives is the sequence of an entry that changes the btree.
pub first-there : (btree : Btree) (entries : List Pending) (first : ℕ) → first_with btree entries ≡ Some first → IsOf btree entries first
first-there btree [] first is = absurd (none_some first is)
first-there btree (entry ∷ later) first is = by (changes_btree btree entry.changes.updates) refl (first-there btree later first) is
  where
    by : (b : Bool) → changes_btree btree entry.changes.updates ≡ b → (first_with btree later ≡ Some first → IsOf btree later first) → cond b (Some (entry.after + 1)) (first_with btree later) ≡ Some first → IsOf btree (entry ∷ later) first
    by true changes rest is = (entry, contained_first entry later, changes, sym (same_Some (entry.after + 1) first is))
    by false not rest is = let found = rest is in (found.0, contained_behind entry later found.0 found.1, found.2, found.3)

-- Where there is none, no entry changes the btree.
pub first-none : (btree : Btree) (entries : List Pending) (entry : Pending) → first_with btree entries ≡ None → Contains entries entry → changes_btree btree entry.changes.updates ≡ false
first-none btree [] entry none has = absurd (let lt = has.1 in omega (arith, lt))
first-none btree (one ∷ later) entry none has = by (changes_btree btree one.changes.updates) refl (first-none btree later entry) none
  where
    by : (b : Bool) → changes_btree btree one.changes.updates ≡ b → (first_with btree later ≡ None → Contains later entry → changes_btree btree entry.changes.updates ≡ false) → cond b (Some (one.after + 1)) (first_with btree later) ≡ None
        → changes_btree btree entry.changes.updates ≡ false
    by true changes rest none = absurd (none_some (one.after + 1) (sym none))
    by false not rest none = ⊎_elim (λ (is : one ≡ entry). ap (λ (e : Pending). changes_btree btree e.changes.updates) (sym is) ∙ not) (rest none) (contained_cases one later entry has)

-- Entries behind a sequence are behind an earlier one.
pub behind-earlier : (earlier sequence : ℕ) (entries : List Pending) → earlier ≤ sequence → AreBehind sequence entries → AreBehind earlier entries
behind-earlier earlier sequence [] le are = tt
behind-earlier earlier sequence (entry ∷ later) le are = (let from = are.0 in omega (arith, le, from), are.1)

-- The first one is behind what the entries follow.
pub first-behind : (btree : Btree) (sequence : ℕ) (entries : List Pending) (first : ℕ) → AreBehind sequence entries → first_with btree entries ≡ Some first → sequence < first
first-behind btree sequence [] first are is = absurd (none_some first is)
first-behind btree sequence (entry ∷ later) first are is = by (changes_btree btree entry.changes.updates) (first-behind btree entry.after later first are.1) is
  where
    by : (b : Bool) → (first_with btree later ≡ Some first → entry.after < first) → cond b (Some (entry.after + 1)) (first_with btree later) ≡ Some first → sequence < first
    by true rest is = let from = are.0 in let same = same_Some (entry.after + 1) first is in omega (arith, from, same)
    by false rest is = let from = are.0 in let further = rest is in omega (arith, from, further)

-- The first one is there, up to this number.
abbrev IsUpTo : Btree → List Pending → ℕ → Type 0
IsUpTo btree entries number = (first : ℕ) × (first_with btree entries ≡ Some first) × (first ≤ number)

-- The first one is the oldest.
pub first-oldest : (btree : Btree) (sequence : ℕ) (entries : List Pending) (entry : Pending) → AreBehind sequence entries → Contains entries entry → changes_btree btree entry.changes.updates ≡ true → IsUpTo btree entries (entry.after + 1)
first-oldest btree sequence [] entry are has changes = absurd (let lt = has.1 in omega (arith, lt))
first-oldest btree sequence (one ∷ later) entry are has changes = by (changes_btree btree one.changes.updates) refl (λ behind. first-oldest btree one.after later entry are.1 behind changes) (contained_cases one later entry has)
  where
    by : (b : Bool) → changes_btree btree one.changes.updates ≡ b → (Contains later entry → IsUpTo btree later (entry.after + 1)) → (one ≡ entry) ⊎ Contains later entry → IsUpTo btree (one ∷ later) (entry.after + 1)
    by true is rest which = let le = contained-behind one.after (one ∷ later) entry (omega arith, are.1) has in (one.after + 1, first-here btree one later is, omega (arith, le))
    by false is rest (inl same) = absurd (true≢false (sym (ap (λ (e : Pending). changes_btree btree e.changes.updates) same ∙ changes) ∙ is))
    by false is rest (inr behind) = let found = rest behind in (found.0, first-later btree one later is ∙ found.1, found.2)

-- The entries of a queue follow one another.
pub waiting-behind : (sequence : ℕ) (queue : Queue) → IsQueue queue → sequence ≤ (oldest queue).after → AreBehind sequence (waiting_entries queue)
waiting-behind sequence queue is le = by sequence queue.closed is.followed le
  where
    by : (sequence : ℕ) (closed : List Pending) → AreFollowed queue.mirrors closed queue.open_entry → sequence ≤ (first_of closed queue.open_entry).after → AreBehind sequence (closed ++ queue.open_entry ∷ [])
    by sequence [] followed le = (le, tt)
    by sequence (entry ∷ later) followed le = (le, by entry.after later followed.1 (let s = followed.0.sequence in omega (arith, s)))

-- What they change is what waits.
pub waiting-changes : (queue : Queue) → closed_changes (waiting_entries queue) ≡ waiting queue
waiting-changes queue = map-append (λ (entry : Pending). entry.changes) queue.closed (queue.open_entry ∷ [])

-- Updates that don't change a btree are taken back and leave it.
taken_back-unchanged : (btree : Btree) (updates : List Update) (before : List (Option Value)) (keys : KeyMap) → changes_btree btree updates ≡ false → entries_of (taken_back updates before keys) btree ≡ entries_of keys btree
taken_back-unchanged btree [] before keys none = refl
taken_back-unchanged btree (update ∷ updates) [] keys none = refl
taken_back-unchanged btree (update ∷ updates) (value ∷ before) keys none =
    entries_of-with_update (giving value update) (taken_back updates before keys) btree
    ∙ ap (λ b. cond b (put_at pos_cmp update.pos value (entries_of (taken_back updates before keys) btree)) (entries_of (taken_back updates before keys) btree)) (none_first (is_update_of btree update) (changes_btree btree updates) none)
    ∙ taken_back-unchanged btree updates before keys (none_later (is_update_of btree update) (changes_btree btree updates) none)

-- So are those of entries none of which changes it.
pub undone-unchanged : (btree : Btree) (entries : List Pending) (keys : KeyMap) → first_with btree entries ≡ None → entries_of (undone (closed_changes entries) keys) btree ≡ entries_of keys btree
undone-unchanged btree [] keys none = refl
undone-unchanged btree (entry ∷ later) keys none = by (changes_btree btree entry.changes.updates) refl (undone-unchanged btree later keys) none
  where
    by : (b : Bool) → changes_btree btree entry.changes.updates ≡ b → (first_with btree later ≡ None → entries_of (undone (closed_changes later) keys) btree ≡ entries_of keys btree) → cond b (Some (entry.after + 1)) (first_with btree later) ≡ None
        → entries_of (undone (closed_changes (entry ∷ later)) keys) btree ≡ entries_of keys btree
    by true changes rest none = absurd (none_some (entry.after + 1) (sym none))
    by false not rest none = taken_back-unchanged btree entry.changes.updates entry.changes.before (undone (closed_changes later) keys) not ∙ rest none
