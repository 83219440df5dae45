-- What the leaves of btrees hold while entries of the journal are needed: at each position its value up to one of these entries. A leaf pins the
-- later ones that change a position that it covers.
use Rattle.std.specs.Prelude.{◌≡◌, ◌⊎◌, ℕ, ◌+◌, ◌≤◌, List, length, take, Option, Some, slice_get}
use Rattle.birth_index.specs.Births.{levels_of}
use Rattle.btree_laws.specs.Counts.{ChangeKey}
use Rattle.btree_laws.specs.Standing.{Contents}
use Rattle.crash_safety.specs.Contents.{IsFrom, IsPinnedUpTo}
use Rattle.crash_safety.specs.LeafSteps.{PinsAsMuch}
use Rattle.image_view.specs.Found.{updates_of}
use Rattle.journal_ring.specs.declared.found.FoundEntry.{FoundEntry}
use Rattle.tree_nodes.specs.Levels.{Levels, level_of, node_at}
use Rattle.vol_types.specs.KeyMaps.{Entries, KeyMap, value_in, with_updates}
use Rattle.vol_types.specs.Maps.{value_at}
use Rattle.vol_types.specs.Positions.{pos_cmp}
use Rattle.vol_types.specs.Widths.{PosFits}
use Rattle.vol_types.specs.declared.pointers.NodePtr.{NodePtr}
use Rattle.vol_types.specs.declared.positions.Btree.{Btree}
use Rattle.vol_types.specs.declared.positions.Pos.{Pos}

-- At a position of a btree the entries hold the value after the first so many needed entries of the journal, the first of which has the sequence
-- `oldest`; and each later one that changes it is pinned.
pub record HoldsAt (needed : List FoundEntry) (before : KeyMap) (oldest : ℕ) (btree : Btree) (pin : Option ℕ) (entries : Entries) (pos : Pos) : Type 0 where
  pub count : ℕ
  pub within : count ≤ length needed
  pub value : value_at pos_cmp pos entries ≡ value_in (with_updates (updates_of (take count needed)) before) btree pos
  pub pinned : (k : ℕ) (found : FoundEntry) → count ≤ k → slice_get needed k ≡ Some found → ChangeKey btree pos found.entry.updates → IsPinnedUpTo pin (oldest + k)

-- for the birth of each leaf the oldest entry of which it lacks keys, if it lacks any
abbrev pub Pins : Type 0
Pins = ℕ → Option ℕ

-- The leaf, with the position at which it ends, covers the position of the btree.
abbrev pub IsLeafAt : List Levels → Btree → Pos → Pos × NodePtr → Type 0
IsLeafAt trees btree pos leaf = node_at pos (level_of (levels_of trees btree) 0) ≡ Some leaf

-- Each leaf holds so what it has at the positions that it covers.
abbrev pub HoldUpTo : List FoundEntry → KeyMap → ℕ → List Levels → Pins → (Btree → Contents) → Type 0
HoldUpTo needed before oldest trees pin content = (btree : Btree) (pos : Pos) (leaf : Pos × NodePtr) → PosFits pos → IsLeafAt trees btree pos leaf → HoldsAt needed before oldest btree (pin leaf.1.birth) (content btree leaf.1).entries pos

-- No leaf pins an entry that is older than this sequence.
abbrev pub ArePinsFrom : List Levels → Pins → ℕ → Type 0
ArePinsFrom trees pin sequence = (btree : Btree) (pos : Pos) (leaf : Pos × NodePtr) → IsLeafAt trees btree pos leaf → IsFrom (pin leaf.1.birth) sequence

-- What each leaf pins by the first pins it pins by the second ones too.
abbrev pub PinNoLess : List Levels → Pins → Pins → Type 0
PinNoLess trees pin other = (btree : Btree) (pos : Pos) (leaf : Pos × NodePtr) → IsLeafAt trees btree pos leaf → PinsAsMuch (pin leaf.1.birth) (other leaf.1.birth)

-- Each position that these updates change is pinned up to the sequence by the leaf that covers it.
abbrev pub ArePinned : FoundEntry → List Levels → Pins → ℕ → Type 0
ArePinned found trees pin sequence = (btree : Btree) (pos : Pos) (leaf : Pos × NodePtr) → IsLeafAt trees btree pos leaf → ChangeKey btree pos found.entry.updates → IsPinnedUpTo (pin leaf.1.birth) sequence

-- A leaf inherits from another one at a position: it has the value there that the other one has, and pins as much.
pub record Inherits (pin other : Pins) (before after : Contents) (pos : Pos) (leaf fresh : NodePtr) : Type 0 where
  pub value : value_at pos_cmp pos (after fresh).entries ≡ value_at pos_cmp pos (before leaf).entries
  pub pins : PinsAsMuch (pin leaf.birth) (other fresh.birth)

-- Leaves took the place of others: at each position the one that covers it now inherits from the one that did, or holds what it has up to an entry
-- of its own.
abbrev pub AreExchangedAt : List FoundEntry → KeyMap → ℕ → List Levels → List Levels → Pins → Pins → (Btree → Contents) → (Btree → Contents) → Type 0
AreExchangedAt needed begun oldest old new pin other before after =
    (btree : Btree) (pos : Pos) (leaf fresh : Pos × NodePtr) → PosFits pos → IsLeafAt old btree pos leaf → IsLeafAt new btree pos fresh
    → Inherits pin other (before btree) (after btree) pos leaf.1 fresh.1 ⊎ HoldsAt needed begun oldest btree (other fresh.1.birth) (after btree fresh.1).entries pos
