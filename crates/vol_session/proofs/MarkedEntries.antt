-- Entries lead from mark to mark: with more marks, and where lists of entries are joined.
use Rattle.std.proofs.Common.{◌≡◌, ◌-◌, ℕ, zero, suc, List, [], ◌∷◌, ◌++◌, Some, length, refl}
use Rattle.std.proofs.lemmas.Option.{none-some as none_some}
use Rattle.std.specs.Prelude.{slice_get}
use Rattle.journal_writer.specs.Changes.{all_made}
use Rattle.journal_writer.specs.Queues.{closed_changes}
use Rattle.journal_writer.specs.declared.changes.Pending.{Pending}
use Rattle.vol_session.specs.Marks.{AreMarked, IsMarkAt}
use Rattle.vol_types.specs.KeyMaps.{KeyMap, with_updates}

-- What stands at a place stands there with more behind it.
pub get_stays : {X : Type 0} (xs ys : List X) (place : ℕ) (x : X) → slice_get xs place ≡ Some x → slice_get (xs ++ ys) place ≡ Some x
get_stays [] ys place x is = absurd (none_some x is)
get_stays (first ∷ xs) ys zero x is = is
get_stays (first ∷ xs) ys (suc place) x is = get_stays xs ys place x is

-- One more stands behind the others.
pub get_pushed : {X : Type 0} (xs : List X) (x : X) → slice_get (xs ++ x ∷ []) (length xs) ≡ Some x
get_pushed [] x = refl
get_pushed (first ∷ xs) x = get_pushed xs x

-- the key map after entries
abbrev pub keys_behind : List Pending → KeyMap → KeyMap
keys_behind entries keys = all_made (closed_changes entries) keys

module _ (marks : List KeyMap) (first : ℕ) where
  -- A mark stays one with more behind it.
  pub mark_stays : (more : List KeyMap) (commits : ℕ) (keys : KeyMap) → IsMarkAt marks first commits keys → IsMarkAt (marks ++ more) first commits keys
  mark_stays more commits keys is = record { from = is.from; marked = get_stays marks more (commits - first) keys is.marked }

  pub marked_stays : (more : List KeyMap) (keys : KeyMap) (entries : List Pending) → AreMarked marks first keys entries → AreMarked (marks ++ more) first keys entries
  marked_stays more keys [] are = tt
  marked_stays more keys (entry ∷ later) are =
      let after : KeyMap = with_updates entry.changes.updates keys in
      (mark_stays more entry.commits after are.0, marked_stays more after later are.1)

  -- Entries that are joined lead from mark to mark as both parts do.
  pub marked_parts : (keys : KeyMap) (entries others : List Pending) → AreMarked marks first keys (entries ++ others) → AreMarked marks first keys entries × AreMarked marks first (keys_behind entries keys) others
  marked_parts keys [] others are = (tt, are)
  marked_parts keys (entry ∷ later) others are =
      let rest = marked_parts (with_updates entry.changes.updates keys) later others are.1 in
      ((are.0, rest.0), rest.1)

  pub marked_joined : (keys : KeyMap) (entries others : List Pending) → AreMarked marks first keys entries → AreMarked marks first (keys_behind entries keys) others → AreMarked marks first keys (entries ++ others)
  marked_joined keys [] others are more = more
  marked_joined keys (entry ∷ later) others are more = (are.0, marked_joined (with_updates entry.changes.updates keys) later others are.1 more)
