-- What a block holds, read from its bytes.
use Rattle.std.specs.Prelude.{ℕ, Bool, ◌&&◌, ◌==◌, length, if◌then◌else◌, List, Option, Some, None, take, drop, slice_index, nat_lt, nat_le}
use Rattle.std.specs.Int.{w16, w32, w64, is_in_range, from_le_bytes}
use Rattle.std.specs.List.{list_all}
use Rattle.std.specs.Str.{bytes_eq}
use Rattle.sealed_block.specs.declared.heads.Head.{Head}
use Rattle.sealed_block.specs.Blocks.{encoding}

-- so many bytes of the block from this place on
abbrev pub field : List ℕ → ℕ → ℕ → List ℕ
field block at size = take size (drop at block)

-- the head that the fields of the block name, whether the block is sealed or not
unfoldable pub head_in : List ℕ → Head
head_in block = record {
  kind = slice_index block 8;
  version = slice_index block 9;
  part = from_le_bytes w16 (field block 12 2);
  parts = from_le_bytes w16 (field block 14 2);
  id = field block 16 16;
  owner = from_le_bytes w64 (field block 32 8);
  number = from_le_bytes w64 (field block 40 8);
  sequence = from_le_bytes w64 (field block 48 8);
  length = from_le_bytes w32 (field block 56 4);
  whole = field block 64 32;
}

-- the payload that the block's own head names
unfoldable pub payload_in : List ℕ → List ℕ
payload_in block = field block 96 (head_in block).length

-- whether the head's fields are in the ranges of the format
abbrev pub is_in_ranges : Head → Bool
is_in_ranges h = is_in_range 1 4 h.kind && is_in_range 1 255 h.version && nat_lt h.part h.parts && nat_le h.parts 64 && nat_le h.length 3968

-- the head of a block that is sealed, and none of another block
unfoldable pub opened : List ℕ → Option Head
opened block =
    if length block == 4096 && list_all (λ b. nat_lt b 256) block && is_in_ranges (head_in block) && bytes_eq block (encoding (head_in block) (payload_in block))
    then Some (head_in block)
    else None
