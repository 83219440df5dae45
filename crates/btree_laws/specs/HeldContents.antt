-- What the sets of nodes come to, for whichever btree, level and range these are read; and what of it has to be known so that btrees that are read stand.
use Rattle.std.specs.Prelude.{◌≡◌, ℕ, List, [], ◌∷◌, All, Result, Ok, Err}
use Rattle.std.specs.Map.{values_of}
use Rattle.dev_model.specs.Disk.{Image, block_at}
use Rattle.image_view.specs.Trees.{SetsOf, Wanted}
use Rattle.node_mem.specs.Nodes.{with_keys}
use Rattle.node_store.specs.Copies.{copies_at}
use Rattle.node_store.specs.NodeContents.{NodeContent}
use Rattle.node_store.specs.StoredSets.{sets_in}
use Rattle.node_store.specs.declared.sets.StoredSet.{StoredSet}
use Rattle.node_store.specs.declared.sets.StoredSets.{StoredSets}
use Rattle.record_codec.specs.Sets.{set_in}
use Rattle.record_codec.specs.declared.fault.RecordFault.{RecordFault}
use Rattle.record_codec.specs.declared.sets.SetRecord.{SetRecord}
use Rattle.vol_types.specs.KeyMaps.{Entries}
use Rattle.vol_types.specs.Ranges.{IsValue}
use Rattle.vol_types.specs.declared.keys.Key.{Key}
use Rattle.vol_types.specs.declared.layout.Layout.{Layout}
use Rattle.vol_types.specs.declared.positions.Btree.{Btree}
use Rattle.vol_types.specs.declared.positions.Pos.{Pos}
use Rattle.btree_laws.specs.Standing.{AreLeafKeys, Contents}

-- The entries may be those of a node with this range, of whichever level: their positions rise, have their widths and are covered by it, and
-- their values are in range.
pub record AreNodeEntries (least greatest : Pos) (entries : Entries) : Type 0 where
  pub keys : AreLeafKeys least greatest entries
  pub in_range : All IsValue (values_of entries)

-- Where a node is read, its sets come to its content, whatever range it is looked for with, and this has entries of that range.
pub record ComeTo (sets : SetsOf) (content : Btree → Contents) : Type 0 where
  pub content_is : (wanted : Wanted) (read : NodeContent) → sets wanted ≡ Ok read → read ≡ content wanted.btree wanted.pointer
  pub entries : (wanted : Wanted) (read : NodeContent) → sets wanted ≡ Ok read → AreNodeEntries wanted.least wanted.greatest read.entries

-- the keys of a set that is stored; none where its bytes are no set
abbrev pub keys_stored : Result SetRecord RecordFault → List Key
keys_stored (Ok set) = set.keys
keys_stored (Err fault) = []

-- entries with the keys of stored sets, a later set over an earlier one
abbrev pub with_sets : List StoredSet → Entries → Entries
with_sets [] entries = entries
with_sets (set ∷ sets) entries = with_sets sets (with_keys (keys_stored (set_in set.payload)) entries)

-- what the stored sets of a node come to, and where they end; nothing where they are bad
abbrev pub content_stored : Result StoredSets ℕ → NodeContent
content_stored (Ok found) = record { entries = with_sets found.sets []; end = found.end }
content_stored (Err block) = record { entries = []; end = 0 }

-- what the sets that an image holds of each node come to, whatever they say of its range
abbrev pub held_in : Layout → Image → Contents
held_in layout image node = content_stored (sets_in (copies_at (block_at image) node.places) layout.id node.birth)
