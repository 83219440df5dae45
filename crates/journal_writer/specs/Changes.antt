-- What commits changed: their updates with the values from before them, and the key map with these taken back.
use Rattle.std.specs.Prelude.{◌≡◌, ◌++◌, ⊤, Bool, Option, List, [], ◌∷◌}
use Rattle.std.specs.List.{list_any}
use Rattle.btree_map.specs.Applied.{values_before}
use Rattle.node_mem.specs.Nodes.{Node}
use Rattle.vol_types.specs.KeyMaps.{KeyMap, entries_of, entries_within, is_update_of, with_update, with_updates}
use Rattle.vol_types.specs.declared.keys.Update.{Update}
use Rattle.vol_types.specs.declared.positions.Btree.{Btree}
use Rattle.vol_types.specs.declared.values.Value.{Value}
use Rattle.journal_writer.specs.declared.changes.KeyChanges.{KeyChanges}

-- no changes
abbrev pub no_changes : KeyChanges
no_changes = record { updates = []; before = [] }

-- whether updates change the keys of a btree
abbrev pub changes_btree : Btree → List Update → Bool
changes_btree btree updates = list_any (is_update_of btree) updates

-- changes and then others
abbrev pub changes_then : KeyChanges → KeyChanges → KeyChanges
changes_then first second = record { updates = first.updates ++ second.updates; before = first.before ++ second.before }

-- the changes that updates make to a key map
abbrev pub changes_of : List Update → KeyMap → KeyChanges
changes_of updates keys = record { updates = updates; before = values_before updates keys }

-- the update that gives the position of another one this value
abbrev pub giving : Option Value → Update → Update
giving value update = record update { value = value }

-- the key map with updates taken back, the last one first: each gives its position the value from before it
abbrev pub taken_back : List Update → List (Option Value) → KeyMap → KeyMap
taken_back [] before keys = keys
taken_back (update ∷ updates) [] keys = keys
taken_back (update ∷ updates) (value ∷ before) keys = with_update (giving value update) (taken_back updates before keys)

-- the key map with changes taken back, the newest first
abbrev pub undone : List KeyChanges → KeyMap → KeyMap
undone [] keys = keys
undone (changes ∷ later) keys = taken_back changes.updates changes.before (undone later keys)

-- the key map with changes made in turn
abbrev pub all_made : List KeyChanges → KeyMap → KeyMap
all_made [] keys = keys
all_made (changes ∷ later) keys = all_made later (with_updates changes.updates keys)

-- Each of the changes, made in turn from this key map on, has the values that stood there before its updates.
abbrev pub AreMadeFrom : KeyMap → List KeyChanges → Type 0
AreMadeFrom keys [] = ⊤
AreMadeFrom keys (changes ∷ later) = (changes.before ≡ values_before changes.updates keys) × AreMadeFrom (with_updates changes.updates keys) later

-- The changes, made in turn, lead from one key map to another, and have the values that stood there before their updates.
pub record LeadTo (changes : List KeyChanges) (from to : KeyMap) : Type 0 where
  pub made : AreMadeFrom from changes
  pub last : to ≡ all_made changes from

-- The node has what a btree of the key map has in the range that it covers.
abbrev pub IsPartOf : KeyMap → Btree → Node → Type 0
IsPartOf keys btree node = node.entries ≡ entries_within node.least node.greatest (entries_of keys btree)
