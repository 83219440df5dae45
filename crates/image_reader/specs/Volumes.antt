-- What was found in an image, as the value that is defined.
use Rattle.std.specs.List.{flat_map}
use Rattle.std.specs.Option.{ok_or}
use Rattle.std.specs.Prelude.{ℕ, ◌-◌, List, [], length, map, slice_index_or, Result, Ok}
use Rattle.image_view.specs.Found.{Found}
use Rattle.image_view.specs.Trees.{BtreeRead, joined}
use Rattle.image_view.specs.declared.fault.MountFault.{MountFault}
use Rattle.image_view.specs.declared.fault.MountFault.TheVariants.{MissingEntry, NoEntry}
use Rattle.journal_ring.specs.Counting.{needed_by, newest}
use Rattle.journal_ring.specs.Parts.{Area}
use Rattle.journal_ring.specs.declared.found.FoundEntry.{FoundEntry}
use Rattle.key_codec.specs.Formats.{◌>>=◌, carried}
use Rattle.vol_types.specs.declared.layout.Layout.{Layout}
use Rattle.image_reader.specs.declared.found.FoundBtree.{FoundBtree}
use Rattle.image_reader.specs.declared.found.FoundVolume.{FoundVolume}

-- an entry that stands for none
abbrev pub no_entry : FoundEntry
no_entry = record { number = 0; end = 0; entry = record { sequence = 0; oldest = 0; session = 0; commits = 0; roots = []; updates = [] } }

-- the last one of entries
abbrev pub last_of : List FoundEntry → FoundEntry
last_of entries = slice_index_or entries (length entries - 1) no_entry

-- the newest one of entries, and all of them
abbrev pub with_last : List FoundEntry → FoundEntry × List FoundEntry
with_last entries = (last_of entries, entries)

-- the newest entry of journal areas and those that are needed, or why there are none
abbrev pub entries_in : Layout → Area → Result (FoundEntry × List FoundEntry) MountFault
entries_in layout area = do
  last ← ok_or (newest layout area) NoEntry
  needed ← carried MissingEntry (needed_by layout area last)
  Ok (last, needed)

-- a btree that was found, as one that was read
abbrev pub btree_in : FoundBtree → BtreeRead
btree_in btree = record { entries = btree.entries; levels = btree.levels; ends = btree.ends }

-- what was found: of the needed entries the last one is the newest, and the btrees stand in the order of their numbers
abbrev pub found_of : FoundVolume → Found
found_of volume = record {
  layout = volume.layout;
  session = volume.session;
  last = last_of volume.needed;
  needed = volume.needed;
  trees = joined (map btree_in volume.btrees);
}

-- the births of the nodes of which some place lacks a set
abbrev pub ragged_of : FoundVolume → List ℕ
ragged_of volume = flat_map (λ btree. btree.ragged) volume.btrees
