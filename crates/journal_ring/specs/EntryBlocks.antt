-- The blocks that an entry is written as, and where they stand.
use Rattle.std.specs.Prelude.{◌≡◌, ℕ, ◌+◌, ◌*◌, ◌/◌, ◌%◌, ◌<◌, List, [], length, take, drop, Some, slice_index_or}
use Rattle.sha2.specs.Sha256.{sha256}
use Rattle.sealed_block.specs.declared.heads.Head.{Head}
use Rattle.sealed_block.specs.Blocks.{Opens}
use Rattle.dev_model.specs.Disk.{Image, block_at}
use Rattle.record_codec.specs.declared.entries.EntryRecord.{EntryRecord}
use Rattle.record_codec.specs.Entries.{entry_format, entry_length_of}

-- how many blocks a payload of so many bytes takes
abbrev pub part_count : ℕ → ℕ
part_count bytes = (bytes + 3967) / 3968

-- how many blocks an entry takes
abbrev pub parts_of : EntryRecord → ℕ
parts_of entry = part_count (entry_length_of entry.roots entry.updates)

-- the payload of part p: 3,968 bytes, and in the last part what is left
abbrev pub part_payload : List ℕ → ℕ → List ℕ
part_payload payload p = take 3968 (drop (3968 * p) payload)

-- the head of part p of an entry with this payload, whose part 0 has this journal block number
abbrev pub part_head : List ℕ → ℕ → EntryRecord → List ℕ → ℕ → Head
part_head id number entry payload p = record {
  kind = 2;
  version = 1;
  part = p;
  parts = part_count (length payload);
  id = id;
  owner = entry.session;
  number = number + p;
  sequence = entry.sequence;
  length = length (part_payload payload p);
  whole = sha256 payload;
}

-- The block is part p of the entry.
pub record IsPartBlock (id : List ℕ) (number : ℕ) (entry : EntryRecord) (payload : List ℕ) (p : ℕ) (block : List ℕ) : Type 0 where
  pub opens : Opens block (part_head id number entry payload p) (part_payload payload p)

-- The first so many blocks are the first parts of the entry.
abbrev pub ArePartBlocks : List ℕ → ℕ → EntryRecord → List ℕ → List (List ℕ) → ℕ → Type 0
ArePartBlocks id number entry payload blocks count = (p : ℕ) → p < count → IsPartBlock id number entry payload p (slice_index_or blocks p [])

-- The blocks are all the parts of the entry.
pub record AreEntryBlocks (id : List ℕ) (number : ℕ) (entry : EntryRecord) (blocks : List (List ℕ)) : Type 0 where
  pub count : length blocks ≡ parts_of entry
  pub parts : ArePartBlocks id number entry (entry_format.encode entry) blocks (parts_of entry)

-- the block of a device where a journal block number lies: the area begins at block 16
abbrev pub ring_block : ℕ → ℕ → ℕ
ring_block journal number = 16 + number % journal

-- The first so many blocks stand on each of the first devices, under the numbers from this one on.
abbrev pub HoldBlocks : ℕ → ℕ → ℕ → List (List ℕ) → ℕ → Image → Type 0
HoldBlocks mirrors journal number blocks count image =
    (dev p : ℕ) → dev < mirrors → p < count → block_at image dev (ring_block journal (number + p)) ≡ Some (slice_index_or blocks p [])
