-- What the actors hold of a lock, and what each call answers and leaves.
use Rattle.std.specs.Prelude.{◌≡◌, ◌≢◌, ℕ, ◌<◌, ◌+◌, ◌^◌, nat_lt, if◌then◌else◌, ◌⊎◌, ◌↔◌, Bool, true, false, IsTrue, IsSome, List, length, slice_get, Option, Some}
use Rattle.six_lock.specs.Modes.{Mode, go_together}
use Rattle.six_lock.specs.Modes.Mode.{Shared, Intent, Exclusive}
use Rattle.six_lock.specs.declared.lock.Ask.{Ask}
use Rattle.six_lock.specs.declared.lock.Ask.TheVariants.{Granted, Held}

-- for each actor whether it holds shared, who holds intent, whether that one holds exclusive too, and a number that rises
-- as an exclusive use ends
pub record Lock : Type 0 where
  pub shared : List Bool
  pub intent : Option ℕ
  pub exclusive : Bool
  pub sequence : ℕ

-- The actor holds the mode.
abbrev pub Holds : Lock → ℕ → Mode → Type 0
Holds lock actor Shared = slice_get lock.shared actor ≡ Some true
Holds lock actor Intent = lock.intent ≡ Some actor
Holds lock actor Exclusive = (lock.intent ≡ Some actor) × (lock.exclusive ≡ true)

-- The actor holds some mode.
abbrev pub HoldsSome : Lock → ℕ → Type 0
HoldsSome lock actor = (mode : Mode) × Holds lock actor mode

-- Nobody holds a mode.
abbrev pub IsFree : Lock → Type 0
IsFree lock = (actor : ℕ) (mode : Mode) → Holds lock actor mode → ⊥

-- how many actors the lock is for
abbrev pub actors : Lock → ℕ
actors lock = length lock.shared

-- Modes that different actors hold go together, and who holds exclusive holds intent.
pub record IsCompatible (lock : Lock) : Type 0 where
  pub together : (a b : ℕ) (m n : Mode) → a ≢ b → Holds lock a m → Holds lock b n → IsTrue (go_together m n)
  pub has_intent : (a : ℕ) → Holds lock a Exclusive → Holds lock a Intent

-- Another than the actor holds the mode.
pub record IsOther (lock : Lock) (actor : ℕ) (mode : Mode) (holder : ℕ) : Type 0 where
  pub other : holder ≢ actor
  pub holds : Holds lock holder mode

-- The holder is in the actor's way to a mode: it is another, and holds a mode that doesn't go with it.
pub record IsInTheWay (lock : Lock) (actor : ℕ) (mode : Mode) (holder : ℕ) : Type 0 where
  pub held : Mode
  pub is_other : IsOther lock actor held holder
  pub clash : go_together mode held ≡ false

-- The actor gains the mode, and nothing else changes.
pub record Gains (old : Lock) (actor : ℕ) (mode : Mode) (new : Lock) : Type 0 where
  pub holds : (a : ℕ) (m : Mode) → Holds new a m ↔ (Holds old a m ⊎ ((a ≡ actor) × (m ≡ mode)))
  pub actors : actors new ≡ actors old
  pub sequence : new.sequence ≡ old.sequence

-- A request is granted exactly where nobody is in the way; else somebody is named who is, and nothing changes.
abbrev pub Asks : Lock → ℕ → Mode → Ask → Lock → Type 0
Asks old actor mode Granted new = ((holder : ℕ) → IsInTheWay old actor mode holder → ⊥) × Gains old actor mode new
Asks old actor mode (Held holder) new = IsInTheWay old actor mode holder × (new ≡ old)

-- the sequence after one more exclusive use: one more, where that fits 64 bits
abbrev pub next_sequence : ℕ → ℕ
next_sequence sequence = if nat_lt (sequence + 1) (2 ^ 64) then sequence + 1 else sequence

-- Nobody holds exclusive any more, and the sequence has risen; nothing else changes.
pub record Lowers (old new : Lock) : Type 0 where
  pub holds : (a : ℕ) (m : Mode) → Holds new a m ↔ (Holds old a m × (m ≢ Exclusive))
  pub actors : actors new ≡ actors old
  pub sequence : new.sequence ≡ next_sequence old.sequence

-- The actor holds nothing any more; the sequence rises exactly where it held exclusive. Nothing else changes.
pub record Releases (old : Lock) (actor : ℕ) (new : Lock) : Type 0 where
  pub holds : (a : ℕ) (m : Mode) → Holds new a m ↔ (Holds old a m × (a ≢ actor))
  pub actors : actors new ≡ actors old
  pub ended : Holds old actor Exclusive → new.sequence ≡ next_sequence old.sequence
  pub same : (Holds old actor Exclusive → ⊥) → new.sequence ≡ old.sequence

-- What every lock keeps: it is for fewer than 256 actors; exclusive is somebody's, and then nobody else holds shared.
pub record IsSound (lock : Lock) : Type 0 where
  pub few : actors lock < 2 ^ 8
  pub owned : lock.exclusive ≡ true → IsSome lock.intent
  pub alone : lock.exclusive ≡ true → (a : ℕ) → Holds lock a Shared → Holds lock a Intent
