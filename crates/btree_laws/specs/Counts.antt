-- What the sets of btrees hold while entries of the journal are needed: at each position the value up to one of these entries.
use Rattle.std.specs.Prelude.{◌≡◌, ℕ, ◌<◌, ◌≤◌, true, List, length, take, slice_get, Contains, Some}
use Rattle.image_view.specs.Found.{updates_of}
use Rattle.journal_ring.specs.declared.found.FoundEntry.{FoundEntry}
use Rattle.vol_types.specs.KeyMaps.{KeyMap, is_update_of, value_in, with_updates}
use Rattle.vol_types.specs.declared.keys.Update.{Update}
use Rattle.vol_types.specs.declared.positions.Btree.{Btree}
use Rattle.vol_types.specs.declared.positions.Pos.{Pos}

-- for each position of each btree a number of entries
abbrev pub Counts : Type 0
Counts = Btree → Pos → ℕ

-- The value at a position of a btree in the sets is that after the updates of the first so many of the needed entries.
pub record HasUpTo (needed : List FoundEntry) (before keys : KeyMap) (btree : Btree) (pos : Pos) (count : ℕ) : Type 0 where
  pub within : count ≤ length needed
  pub value : value_in keys btree pos ≡ value_in (with_updates (updates_of (take count needed)) before) btree pos

-- The sets have at each position the value after as many of the needed entries as are counted there.
abbrev pub HaveUpTo : List FoundEntry → KeyMap → Counts → KeyMap → Type 0
HaveUpTo needed before count keys = (btree : Btree) (pos : Pos) → HasUpTo needed before keys btree pos (count btree pos)

-- One of the updates is of the position of the btree.
abbrev pub ChangeKey : Btree → Pos → List Update → Type 0
ChangeKey btree pos updates = (update : Update) × Contains updates update × (is_update_of btree update ≡ true) × (update.pos ≡ pos)

-- None of the needed entries from an index up to another changes the position.
abbrev pub NoneChanges : List FoundEntry → ℕ → ℕ → Btree → Pos → Type 0
NoneChanges needed from end btree pos = (index : ℕ) (found : FoundEntry) → from ≤ index → index < end → slice_get needed index ≡ Some found → ¬ ChangeKey btree pos found.entry.updates
