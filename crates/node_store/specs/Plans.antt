-- The blocks of a set before they are written, and what they are read as.
use Rattle.std.specs.Prelude.{◌≡◌, ◌⊎◌, ℕ, ◌+◌, ◌*◌, ◌/◌, ◌<◌, ◌≤◌, List, [], ◌∷◌, ◌++◌, length, take, drop, Contains, Some, Ok}
use Rattle.sha2.specs.Sha256.{sha256}
use Rattle.sealed_block.specs.Blocks.{Opens}
use Rattle.sealed_block.specs.declared.heads.Head.{Head}
use Rattle.dev_model.specs.Disk.{zeros}
use Rattle.node_mem.specs.Nodes.{with_keys}
use Rattle.record_codec.specs.Sets.{set_format}
use Rattle.record_codec.specs.declared.sets.SetRecord.{SetRecord}
use Rattle.vol_types.specs.KeyMaps.{Entries}
use Rattle.vol_types.specs.Limits.{bucket_blocks}
use Rattle.vol_types.specs.declared.pointers.NodePtr.{NodePtr}
use Rattle.vol_types.specs.declared.pointers.Place.{Place}
use Rattle.node_store.specs.declared.planning.Blocked.{Blocked}
use Rattle.node_store.specs.declared.sets.StoredSet.{StoredSet}
use Rattle.node_store.specs.Copies.{Reading}
use Rattle.node_store.specs.NodeContents.{content_of}
use Rattle.node_store.specs.StoredSets.{sets_of}

-- how many blocks a payload takes
abbrev pub blocks_for : List ℕ → ℕ
blocks_for payload = (length payload + 3967) / 3968

-- the set with this payload, where its bucket holds it from block n on
abbrev pub set_stored : ℕ → ℕ → List ℕ → StoredSet
set_stored n sequence payload = record { block = n; blocks = blocks_for payload; sequence = sequence; payload = payload }

-- what part p of a payload holds
abbrev pub chunk : List ℕ → ℕ → List ℕ
chunk payload p = take 3968 (drop (3968 * p) payload)

-- the head of part p of the set with this payload, where its bucket holds it from block n on
abbrev pub part_head : List ℕ → ℕ → ℕ → ℕ → List ℕ → ℕ → Head
part_head id birth n sequence payload p = record {
  kind = 3;
  version = 1;
  part = p;
  parts = blocks_for payload;
  id = id;
  owner = birth;
  number = n + p;
  sequence = sequence;
  length = length (chunk payload p);
  whole = sha256 payload;
}

-- block p of the bytes
abbrev pub block_of_bytes : List ℕ → ℕ → List ℕ
block_of_bytes bytes p = take 4096 (drop (4096 * p) bytes)

-- The bytes begin with so many parts of the set.
abbrev pub ArePartsBefore : List ℕ → ℕ → ℕ → ℕ → List ℕ → List ℕ → ℕ → Type 0
ArePartsBefore id birth n sequence payload bytes count =
    (p : ℕ) → p < count → Opens (block_of_bytes bytes p) (part_head id birth n sequence payload p) (chunk payload p)

-- how many blocks are planned
abbrev pub planned_blocks : Blocked → ℕ
planned_blocks blocked = length blocked.parts / 4096

-- the bytes of one of the blocks
abbrev pub part_bytes : Blocked → ℕ → List ℕ
part_bytes blocked part = block_of_bytes blocked.parts part

-- From this block on up to the end of the bucket zero blocks are planned.
abbrev pub AreZerosFrom : ℕ → Blocked → Type 0
AreZerosFrom first blocked = (part : ℕ) → first ≤ part → part < bucket_blocks → part_bytes blocked part ≡ zeros

-- Each place holds all the planned blocks.
abbrev pub HoldBlocks : Reading → Blocked → Type 0
HoldBlocks read blocked =
    (place : Place) → Contains blocked.places place → (part : ℕ) → part < planned_blocks blocked
    → read place.dev (place.block + (blocked.block + part)) ≡ Some (part_bytes blocked part)

-- In the other blocks of the bucket, on each place, two readings are the same.
abbrev pub SameAround : Blocked → Reading → Reading → Type 0
SameAround blocked before after =
    (place : Place) → Contains blocked.places place → (n : ℕ) → n < bucket_blocks
    → (n < blocked.block) ⊎ (blocked.block + planned_blocks blocked ≤ n)
    → after place.dev (place.block + n) ≡ before place.dev (place.block + n)

-- Where each place holds the blocks, they are read as this set alone.
abbrev pub IsReadAlone : List ℕ → NodePtr → StoredSet → Blocked → Type 0
IsReadAlone id ptr set blocked =
    (read : Reading) → HoldBlocks read blocked → sets_of read id ptr ≡ Ok (record { sets = set ∷ []; end = set.blocks })

-- Where the node's sets ended at the first of the blocks, and each place holds these now, it has the same sets and this one.
abbrev pub IsReadBehind : List ℕ → NodePtr → StoredSet → Blocked → Type 0
IsReadBehind id ptr set blocked =
    (before after : Reading) (sets : List StoredSet)
    → sets_of before id ptr ≡ Ok (record { sets = sets; end = set.block })
    → HoldBlocks after blocked → SameAround blocked before after
    → sets_of after id ptr ≡ Ok (record { sets = sets ++ set ∷ []; end = set.block + set.blocks })

-- Where each place holds the blocks of a new node, it holds the keys of the set, and ends behind it.
abbrev pub HoldsAlone : List ℕ → NodePtr → SetRecord → Blocked → Type 0
HoldsAlone id ptr set blocked =
    (read : Reading) → HoldBlocks read blocked
    → content_of read id set.btree set.least set.greatest ptr ≡ Ok (record { entries = with_keys set.keys []; end = blocks_for (set_format.encode set) })

-- Where the node held these entries and ended at the first of the blocks, and each place holds these now, it holds the keys of the
-- set over those entries, and ends behind it.
abbrev pub HoldsBehind : List ℕ → NodePtr → SetRecord → Blocked → Type 0
HoldsBehind id ptr set blocked =
    (before after : Reading) (entries : Entries)
    → content_of before id set.btree set.least set.greatest ptr ≡ Ok (record { entries = entries; end = blocked.block })
    → HoldBlocks after blocked → SameAround blocked before after
    → content_of after id set.btree set.least set.greatest ptr
    ≡ Ok (record { entries = with_keys set.keys entries; end = blocked.block + blocks_for (set_format.encode set) })
