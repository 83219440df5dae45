-- What is found in an image, as the btrees of a key map, and a volume that was loaded, as what was found.
use Rattle.std.specs.Prelude.{◌<◌, List, length, map, slice_index_or}
use Rattle.std.specs.Map.{keys_of}
use Rattle.birth_index.specs.Births.{BirthsDiffer, levels_of}
use Rattle.btree_map.specs.Trees.{IsTrees, Trees, keys_in}
use Rattle.image_view.specs.Found.{Found}
use Rattle.image_view.specs.Trees.{TreesRead, all_btrees}
use Rattle.journal_ring.specs.declared.found.FoundEntry.{FoundEntry}
use Rattle.image_reader.specs.Volumes.{last_of, no_entry}
use Rattle.image_reader.specs.declared.found.FoundBtree.{FoundBtree}
use Rattle.image_reader.specs.declared.found.FoundVolume.{FoundVolume}
use Rattle.replay.specs.declared.volume.Loaded.{Loaded}
use Rattle.tree_keys.specs.Cuts.{Cut, IsCut}
use Rattle.tree_nodes.specs.Levels.{IsTree, level_of}
use Rattle.vol_types.specs.KeyMaps.{entries_of}
use Rattle.vol_types.specs.declared.positions.Btree.{Btree}

-- the keys of a btree that was read, cut at the ends of its leaves
abbrev pub cut_read : TreesRead → Btree → Cut
cut_read read btree = record { entries = entries_of read.keys btree; ends = keys_of (level_of (levels_of read.nodes btree) 0) }

-- the btrees that were read, as those of a key map: the keys of each, cut into leaves, and its nodes
abbrev pub trees_read : TreesRead → Trees
trees_read read = record { keys = map (cut_read read) all_btrees; nodes = read.nodes }

-- the keys of a btree that was found, cut at the ends of its leaves
abbrev pub cut_found : FoundBtree → Cut
cut_found btree = record { entries = btree.entries; ends = keys_of (level_of btree.levels 0) }

-- btrees that were found, as those of a key map
abbrev pub trees_found : List FoundBtree → Trees
trees_found btrees = record { keys = map cut_found btrees; nodes = map (λ btree. btree.levels) btrees }

-- A btree that was found has keys that its leaves cut, and its nodes are a tree.
pub record IsFoundBtree (btree : FoundBtree) : Type 0 where
  pub keys : IsCut (cut_found btree)
  pub nodes : IsTree btree.levels

-- Btrees that were found are those of a key map, and no two of their nodes have one birth.
pub record AreBtrees (btrees : List FoundBtree) : Type 0 where
  pub trees : IsTrees (trees_found btrees)
  pub births : BirthsDiffer (trees_found btrees).nodes

-- A volume that was found has a newest entry and a key map.
pub record IsVolume (read : FoundVolume) : Type 0 where
  pub some : 0 < length read.needed
  pub btrees : AreBtrees read.btrees

-- what a loaded volume was found as
abbrev pub found_in : Loaded → Found
found_in loaded = record {
  layout = loaded.layout;
  session = loaded.session;
  last = last_of loaded.needed;
  needed = loaded.needed;
  trees = record { keys = keys_in loaded.map; nodes = loaded.map.nodes; ends = loaded.ends };
}

-- the first one of entries
abbrev pub first_of : List FoundEntry → FoundEntry
first_of entries = slice_index_or entries 0 no_entry
