-- What a node holds: its sets merged, a later one over an earlier one.
use Rattle.std.specs.Prelude.{ℕ, ◌&&◌, ◌||◌, ◌==◌, nat_lt, Bool, if◌then◌else◌, List, [], ◌∷◌, Option, Some, None, is_some, Result, Ok, Err}
use Rattle.std.specs.List.{list_all}
use Rattle.std.specs.Option.{option_map_or}
use Rattle.vol_types.specs.declared.keys.Key.{Key}
use Rattle.vol_types.specs.declared.pointers.NodePtr.{NodePtr}
use Rattle.vol_types.specs.declared.positions.Btree.{Btree}
use Rattle.vol_types.specs.declared.positions.Pos.{Pos}
use Rattle.vol_types.specs.Btrees.{btree_code}
use Rattle.vol_types.specs.KeyMaps.{Entries}
use Rattle.record_codec.specs.declared.fault.RecordFault.{RecordFault}
use Rattle.record_codec.specs.declared.sets.SetHead.{SetHead}
use Rattle.record_codec.specs.declared.sets.SetRecord.{SetRecord}
use Rattle.record_codec.specs.Sets.{head_of, set_in}
use Rattle.node_mem.specs.Nodes.{with_keys}
use Rattle.node_store.specs.declared.sets.StoredSet.{StoredSet}
use Rattle.node_store.specs.declared.sets.StoredSets.{StoredSets}
use Rattle.node_store.specs.Copies.{Reading, copies_at}
use Rattle.node_store.specs.StoredSets.{Copies, sets_in}

-- what each set of a node must say of it
abbrev pub wanted_of : Btree → Pos → Pos → NodePtr → SetHead
wanted_of tree least greatest ptr = record { birth = ptr.birth; btree = tree; level = ptr.level; least = least; greatest = greatest }

-- whether two positions are the same
abbrev pub is_same_pos : Pos → Pos → Bool
is_same_pos one other = one.inode == other.inode && one.offset == other.offset && one.snapshot == other.snapshot

-- whether a set says of its node what is wanted
abbrev pub is_wanted : SetHead → SetHead → Bool
is_wanted wanted head =
    head.birth == wanted.birth && btree_code head.btree == btree_code wanted.btree && head.level == wanted.level
    && is_same_pos head.least wanted.least && is_same_pos head.greatest wanted.greatest

-- whether a key has a value, and isn't removed
abbrev pub has_value : Key → Bool
has_value key = is_some key.value

-- whether a set that begins at block n of the bucket may hold the keys: a node's first set, at block 0, removes none
abbrev pub may_hold : ℕ → List Key → Bool
may_hold n keys = nat_lt 0 n || list_all has_value keys

-- the keys of a set that was read at block n, if it is one of the node
abbrev pub keys_if : SetHead → ℕ → Result SetRecord RecordFault → Option (List Key)
keys_if wanted n (Err fault) = None
keys_if wanted n (Ok set) = if is_wanted wanted (head_of set) && may_hold n set.keys then Some set.keys else None

-- the keys of a set that is stored, if it is one of the node
abbrev pub keys_of : SetHead → StoredSet → Option (List Key)
keys_of wanted set = keys_if wanted set.block (set_in set.payload)

-- the entries after each set in turn, so that a later one counts and a key that is removed takes away; or the block of the
-- first set that isn't one of the node
abbrev pub entries_after : SetHead → List StoredSet → Entries → Result Entries ℕ
entries_after wanted [] entries = Ok entries
entries_after wanted (set ∷ sets) entries =
    option_map_or (λ keys. entries_after wanted sets (with_keys keys entries)) (keys_of wanted set) (Err set.block)

-- a node's entries, and the first block behind its last set
pub record NodeContent : Type 0 where
  pub entries : Entries
  pub end : ℕ

abbrev pub content_with : ℕ → Result Entries ℕ → Result NodeContent ℕ
content_with end (Err n) = Err n
content_with end (Ok entries) = Ok (record { entries = entries; end = end })

abbrev pub content_if : SetHead → Result StoredSets ℕ → Result NodeContent ℕ
content_if wanted (Err n) = Err n
content_if wanted (Ok found) = content_with found.end (entries_after wanted found.sets [])

-- what the copies of a node's bucket hold, or the block at fault
abbrev pub content_in : Copies → List ℕ → SetHead → Result NodeContent ℕ
content_in copies id wanted = content_if wanted (sets_in copies id wanted.birth)

-- what a node holds, by what is read in the blocks of the devices, or the block of its bucket at fault
abbrev pub content_of : Reading → List ℕ → Btree → Pos → Pos → NodePtr → Result NodeContent ℕ
content_of read id tree least greatest ptr = content_in (copies_at read ptr.places) id (wanted_of tree least greatest ptr)
