-- The lines that say the facts of a volume.
use Rattle.std.specs.Prelude.{ℕ, List, ◌++◌, codes, length, slice_index}
use Rattle.std.specs.Fmt.{decimal}
use Rattle.std.specs.List.{flat_map}
use Rattle.image_view.specs.Found.{Found}
use Rattle.uuid.specs.Text.{hyphenated_text, lower}
use Rattle.vol_types.specs.declared.layout.Layout.{Layout}
use Rattle.vol_types.specs.declared.positions.Btree.{Btree}
use Rattle.vol_types.specs.declared.positions.Btree.TheVariants.{Extents, Inodes, Dirents, Subvols, Snapshots, Alloc, Backptrs, Deleted, Counters}
use Rattle.vol_info.specs.Facts.{facts_of}
use Rattle.vol_info.specs.declared.facts.BtreeFacts.{BtreeFacts}
use Rattle.vol_info.specs.declared.facts.DeviceFacts.{DeviceFacts}
use Rattle.vol_info.specs.declared.facts.Facts.{Facts}
use Rattle.vol_info.specs.declared.facts.IdFacts.{IdFacts}
use Rattle.vol_info.specs.declared.facts.JournalFacts.{JournalFacts}

-- how many devices a volume has, the blocks of each, and those of the journal
unfoldable pub sizes_text : Layout → List ℕ
sizes_text layout = codes " devices " ++ decimal (length layout.blocks) ++ codes " blocks " ++ decimal (slice_index layout.blocks 0) ++ codes " journal " ++ decimal layout.journal

-- how many copies there are of blocks of files and of the metadata
unfoldable pub copies_text : Layout → List ℕ
copies_text layout = codes " data-replicas " ++ decimal layout.data_replicas ++ codes " meta-replicas " ++ decimal layout.metadata_replicas ++ codes "\n"

-- the volume's id, and how it lies on its devices
abbrev pub volume_line : Layout → List ℕ
volume_line layout = codes "volume " ++ hyphenated_text lower layout.id ++ sizes_text layout ++ copies_text layout

-- the last session, the commits so far, and the sequence of the newest entry of the journal
unfoldable pub session_line : ℕ → ℕ → ℕ → List ℕ
session_line session commits sequence =
    codes "session " ++ decimal session ++ codes " commits " ++ decimal commits ++ codes " sequence " ++ decimal sequence ++ codes "\n"

-- what of the journal is needed: from which entry on, how many entries, and how many blocks they take
unfoldable pub journal_line : JournalFacts → List ℕ
journal_line facts =
    codes "journal from " ++ decimal facts.oldest ++ codes " entries " ++ decimal facts.entries ++ codes " blocks " ++ decimal facts.blocks ++ codes "\n"

-- how many subvolumes there are, how many snapshot ids, and how many of these were those of removed subvolumes
unfoldable pub ids_line : IdFacts → List ℕ
ids_line facts =
    codes "subvolumes " ++ decimal facts.subvolumes ++ codes " ids " ++ decimal facts.ids ++ codes " dead " ++ decimal facts.dead ++ codes "\n"

-- the name of a btree
abbrev pub btree_name : Btree → List ℕ
btree_name Extents = codes "extents"
btree_name Inodes = codes "inodes"
btree_name Dirents = codes "dirents"
btree_name Subvols = codes "subvols"
btree_name Snapshots = codes "snapshots"
btree_name Alloc = codes "alloc"
btree_name Backptrs = codes "backptrs"
btree_name Deleted = codes "deleted"
btree_name Counters = codes "counters"

-- the level of a btree's root, its nodes and its keys
unfoldable pub counts_text : BtreeFacts → List ℕ
counts_text facts = codes " level " ++ decimal facts.level ++ codes " nodes " ++ decimal facts.nodes ++ codes " keys " ++ decimal facts.keys ++ codes "\n"

-- the line of a btree
unfoldable pub btree_line : BtreeFacts → List ℕ
btree_line facts = codes "btree " ++ btree_name facts.btree ++ counts_text facts

-- the line of a device: its buckets, those that are free, and those in which something lies
unfoldable pub device_line : DeviceFacts → List ℕ
device_line facts =
    codes "device " ++ decimal facts.dev ++ codes " buckets " ++ decimal facts.buckets ++ codes " free " ++ decimal facts.free
    ++ codes " used " ++ decimal facts.used ++ codes "\n"

-- all lines; the last one says that they are whole
unfoldable pub facts_lines : Facts → List ℕ
facts_lines facts =
    volume_line facts.layout
    ++ session_line facts.session facts.commits facts.journal.sequence
    ++ journal_line facts.journal
    ++ ids_line facts.ids
    ++ flat_map btree_line facts.btrees
    ++ flat_map device_line facts.devices
    ++ codes "end\n"

-- the lines of a volume that was found
abbrev pub info_lines : Found → List ℕ
info_lines f = facts_lines (facts_of f)
