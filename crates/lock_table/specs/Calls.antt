-- What each call on a table of locks answers, and what it leaves.
use Rattle.std.specs.Prelude.{◌≡◌, ◌≢◌, ℕ, ◌+◌, ◌^◌, ◌<◌, ◌≤◌, ◌⊎◌, ◌↔◌, ◌==◌, List, Option, Some, None, if◌then◌else◌, slice_set}
use Rattle.std.specs.Option.{unwrap_or}
use Rattle.six_lock.specs.Modes.{Mode}
use Rattle.six_lock.specs.Modes.Mode.{Shared, Intent, Exclusive}
use Rattle.six_lock.specs.Locks.{next_sequence}
use Rattle.lock_table.specs.Tables.{Table, HoldsAt, IsHeld, node_at, name_at, sequence_at, IsInTheWay, StandsAbove}
use Rattle.lock_table.specs.Nodes.{IsSequenceAfter}
use Rattle.lock_table.specs.declared.table.Mode.{Mode as Wanted}
use Rattle.lock_table.specs.declared.table.Mode.TheVariants as wanted
use Rattle.lock_table.specs.declared.name.NodeName.{NodeName}
use Rattle.lock_table.specs.declared.wait.Waiting.{Waiting}
use Rattle.lock_table.specs.declared.table.Ruling.{Ruling}
use Rattle.lock_table.specs.declared.table.Ruling.TheVariants.{Granted, Wait, Restart}

-- the mode that an ask is for
abbrev pub mode_of : Wanted → Mode
mode_of wanted.Shared = Shared
mode_of wanted.Intent = Intent

-- the name of a node that is asked for: the one by which it is held, if it is
abbrev pub called : Table → NodeName → NodeName
called table name = unwrap_or (name_at table name.birth) name

-- Each node's sequence is as it was, whether it is held or not.
pub record KeepsSequences (old new : Table) : Type 0 where
  pub each : (b : ℕ) → sequence_at new b ≡ sequence_at old b
  pub unheld : new.sequence ≡ old.sequence

-- The actor gains the mode of the node with this birth, and nobody else gains or loses anything.
abbrev pub Gains : Table → ℕ → ℕ → Mode → Table → Type 0
Gains old birth actor mode new = (b a : ℕ) (m : Mode) → HoldsAt new b a m ↔ (HoldsAt old b a m ⊎ ((b ≡ birth) × (a ≡ actor) × (m ≡ mode)))

-- the waits after the actor's last ask was answered
abbrev pub waits_after : Table → ℕ → Option Waiting → List (Option Waiting)
waits_after old actor wait = slice_set old.waits actor wait

-- A mode is granted: nobody was in the way, and the actor gains it. A node that nobody held goes by the name that it was
-- asked for by, and each other by the name that it had.
pub record Grants (old : Table) (actor : ℕ) (name : NodeName) (mode : Mode) (new : Table) : Type 0 where
  pub free : (holder : ℕ) → IsInTheWay old actor name.birth mode holder → ⊥
  pub gains : Gains old name.birth actor mode new
  pub names : (b : ℕ) → name_at new b ≡ (if b == name.birth then Some (unwrap_or (name_at old b) name) else name_at old b)
  pub waits : new.waits ≡ waits_after old actor None
  pub sequences : KeepsSequences old new

-- The actor shall wait: somebody is in the way, and the node stands above all that the actor holds.
pub record Waits (old : Table) (actor : ℕ) (name : NodeName) (mode : Mode) (holder : ℕ) (new : Table) : Type 0 where
  pub in_the_way : IsInTheWay old actor name.birth mode holder
  pub above : StandsAbove old actor (called old name)
  pub left : new ≡ record old { waits = waits_after old actor (Some (record { node = called old name; holder = holder })) }

-- The actor shall begin again: somebody is in the way, and the node doesn't stand above all that the actor holds.
pub record Restarts (old : Table) (actor : ℕ) (name : NodeName) (mode : Mode) (holder : ℕ) (new : Table) : Type 0 where
  pub in_the_way : IsInTheWay old actor name.birth mode holder
  pub not_above : StandsAbove old actor (called old name) → ⊥
  pub left : new ≡ record old { waits = waits_after old actor None }

-- An ask for a mode of a node, with its answer.
abbrev pub Asks : Table → ℕ → NodeName → Mode → Ruling → Table → Type 0
Asks old actor name mode Granted new = Grants old actor name mode new
Asks old actor name mode (Wait node holder) new = (node ≡ name.birth) × Waits old actor name mode holder new
Asks old actor name mode (Restart node holder) new = (node ≡ name.birth) × Restarts old actor name mode holder new

-- Each node goes by the name that it had, and nobody's wait changes.
pub record KeepsRest (old new : Table) : Type 0 where
  pub names : (b : ℕ) → name_at new b ≡ name_at old b
  pub waits : new.waits ≡ old.waits

-- An upgrade from intent to exclusive, with its answer: only another's shared lock is in the way.
abbrev pub Upgrades : Table → ℕ → ℕ → Ruling → Table → Type 0
Upgrades old actor birth Granted new = ((holder : ℕ) → IsInTheWay old actor birth Exclusive holder → ⊥) × Gains old birth actor Exclusive new × KeepsRest old new × KeepsSequences old new
Upgrades old actor birth (Wait node holder) new = ⊥
Upgrades old actor birth (Restart node holder) new = (node ≡ birth) × (holder ≢ actor) × HoldsAt old birth holder Shared × (new ≡ old)

-- The end of an exclusive use: nobody holds exclusive of that node any more, its sequence rises, and nothing else changes.
pub record Lowers (old : Table) (birth : ℕ) (new : Table) : Type 0 where
  pub holds : (b a : ℕ) (m : Mode) → HoldsAt new b a m ↔ (HoldsAt old b a m × (b ≡ birth → m ≢ Exclusive))
  pub rest : KeepsRest old new
  pub sequences : (b : ℕ) → sequence_at new b ≡ (if b == birth then next_sequence (sequence_at old b) else sequence_at old b)
  pub unheld : new.sequence ≡ old.sequence

-- This is the node's sequence once the actor has let go of it: it has risen where the actor held exclusive.
abbrev pub EndsWith : Table → ℕ → ℕ → ℕ → Type 0
EndsWith table actor birth sequence = IsSequenceAfter table.sequence (node_at table.nodes birth) actor sequence

-- The actor lets go of the node, and nobody holds it any more.
pub record Leaves (old : Table) (birth : ℕ) (new : Table) : Type 0 where
  pub held : IsHeld old birth
  pub free : IsHeld new birth → ⊥

-- The sequences after an actor has let go of all: each node that is still held has its own, and the one sequence of all
-- others is the greatest with which a node was left, where that is greater than it was.
pub record DropsSequences (old : Table) (actor : ℕ) (new : Table) : Type 0 where
  pub held : (b : ℕ) → IsHeld new b → EndsWith old actor b (sequence_at new b)
  pub no_less : old.sequence ≤ new.sequence
  pub left : (b sequence : ℕ) → Leaves old b new → EndsWith old actor b sequence → sequence ≤ new.sequence
  pub reached : (new.sequence ≡ old.sequence) ⊎ ((b : ℕ) × (Leaves old b new × EndsWith old actor b new.sequence))

-- The actor holds nothing any more, and waits for nobody; all others hold what they held. A node that is still held goes
-- by the name that it had, and each other has none.
pub record Drops (old : Table) (actor : ℕ) (new : Table) : Type 0 where
  pub holds : (b a : ℕ) (m : Mode) → HoldsAt new b a m ↔ (HoldsAt old b a m × (a ≢ actor))
  pub names : (b : ℕ) → (IsHeld new b × (name_at new b ≡ name_at old b)) ⊎ ((IsHeld new b → ⊥) × (name_at new b ≡ None))
  pub waits : new.waits ≡ waits_after old actor None
  pub sequences : DropsSequences old actor new

-- No node's sequence falls, and where an exclusive use of a node has ended, its sequence has risen; but that it stands
-- still at the greatest of 64 bits.
pub record SequencesRise (old new : Table) : Type 0 where
  pub no_less : (b : ℕ) → sequence_at old b ≤ sequence_at new b
  pub risen : (b a : ℕ) → HoldsAt old b a Exclusive → (HoldsAt new b a Exclusive → ⊥) → sequence_at old b + 1 < 2 ^ 64 → sequence_at old b < sequence_at new b
