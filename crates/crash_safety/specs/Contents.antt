-- What the sets of a btree's node hold: its keys up to an entry of those that are needed. The node pins the entries from there on that
-- change the btree.
use Rattle.std.specs.Prelude.{◌≡◌, ℕ, ◌+◌, ◌≤◌, true, List, length, take, slice_get, Contains, Option, Some}
use Rattle.image_view.specs.Found.{updates_of}
use Rattle.journal_ring.specs.declared.found.FoundEntry.{FoundEntry}
use Rattle.vol_types.specs.KeyMaps.{Entries, KeyMap, entries_of, is_update_of, with_updates}
use Rattle.vol_types.specs.declared.keys.Update.{Update}
use Rattle.vol_types.specs.declared.positions.Btree.{Btree}

-- The entries are those of a btree after the updates of the first so many needed entries of the journal.
abbrev pub IsUpTo : List FoundEntry → KeyMap → ℕ → Btree → Entries → Type 0
IsUpTo needed before count btree entries = entries ≡ entries_of (with_updates (updates_of (take count needed)) before) btree

-- There is a pin, at this sequence or an older one.
abbrev pub IsPinnedUpTo : Option ℕ → ℕ → Type 0
IsPinnedUpTo pin sequence = (p : ℕ) × (pin ≡ Some p) × (p ≤ sequence)

-- The pin, if there is one, isn't older than this sequence.
abbrev pub IsFrom : Option ℕ → ℕ → Type 0
IsFrom pin sequence = (p : ℕ) → pin ≡ Some p → sequence ≤ p

-- One of the updates is of the btree.
abbrev pub ChangesBtree : Btree → List Update → Type 0
ChangesBtree btree updates = (update : Update) × Contains updates update × (is_update_of btree update ≡ true)

-- Each needed entry from this index on that changes the btree is pinned, where the first of all has the sequence `oldest`.
abbrev pub IsPinnedFrom : Btree → Option ℕ → ℕ → ℕ → List FoundEntry → Type 0
IsPinnedFrom btree pin index oldest needed =
    (k : ℕ) (found : FoundEntry) → index ≤ k → slice_get needed k ≡ Some found → ChangesBtree btree found.entry.updates → IsPinnedUpTo pin (oldest + k)

-- The entries are those of a btree up to a needed entry of the journal, and each one from there on that changes the btree is pinned.
pub record HoldsUpTo (needed : List FoundEntry) (before : KeyMap) (oldest : ℕ) (btree : Btree) (pin : Option ℕ) (entries : Entries) : Type 0 where
  pub index : ℕ
  pub within : index ≤ length needed
  pub is : IsUpTo needed before index btree entries
  pub pinned : IsPinnedFrom btree pin index oldest needed
