-- The numbers of sessions: each session seals its own in block 4 or 5 of every metadata device, by turns.
use Rattle.std.specs.Prelude.{◌≡◌, ℕ, zero, suc, ◌+◌, ◌%◌, ◌<◌, Bool, ◌&&◌, ◌==◌, if◌then◌else◌, List, max, Option, Some, None, option_and_then}
use Rattle.std.specs.Int.{w64, to_le_bytes, from_le_bytes}
use Rattle.std.specs.Str.{bytes_eq}
use Rattle.sha2.specs.Sha256.{sha256}
use Rattle.sealed_block.specs.declared.heads.Head.{Head}
use Rattle.sealed_block.specs.Blocks.{encoding}
use Rattle.sealed_block.specs.Opening.{opened, payload_in}
use Rattle.dev_model.specs.Disk.{Image, block_at}
use Rattle.vol_types.specs.declared.layout.Layout.{Layout}

-- the block in which a session is sealed
abbrev pub session_place : ℕ → ℕ
session_place session = 4 + session % 2

-- its head
abbrev pub session_head : List ℕ → ℕ → Head
session_head id session = record {
  kind = 4;
  version = 1;
  part = 0;
  parts = 1;
  id = id;
  owner = session;
  number = session_place session;
  sequence = session;
  length = 8;
  whole = sha256 (to_le_bytes w64 session);
}

-- the bytes of that block
unfoldable pub session_block : List ℕ → ℕ → List ℕ
session_block id session = encoding (session_head id session) (to_le_bytes w64 session)

-- it is the head of a session's block, in this block
abbrev pub is_session_head : List ℕ → ℕ → ℕ → Head → Bool
is_session_head id block session head =
    head.kind == 4 && head.version == 1 && head.part == 0 && head.parts == 1 && bytes_eq head.id id && head.owner == session
    && head.number == block && session_place session == block && head.sequence == session && bytes_eq head.whole (sha256 (to_le_bytes w64 session))

-- the session that a block's bytes name, if they name one
unfoldable pub session_named : List ℕ → ℕ → List ℕ → Option ℕ
session_named id block bytes =
    let session : ℕ = from_le_bytes w64 (payload_in bytes) in
    option_and_then (λ head. if is_session_head id block session head && bytes_eq (payload_in bytes) (to_le_bytes w64 session) then Some session else None) (opened bytes)

-- the session that a block of a device names
abbrev pub session_at : List ℕ → Image → ℕ → ℕ → Option ℕ
session_at id image dev block = option_and_then (session_named id block) (block_at image dev block)

-- the greater of two sessions, where both are there
abbrev pub greater : Option ℕ → Option ℕ → Option ℕ
greater None second = second
greater (Some first) None = Some first
greater (Some first) (Some second) = Some (max first second)

-- the greatest session that one of the first devices names
abbrev pub greatest_session : List ℕ → Image → ℕ → Option ℕ
greatest_session id image zero = None
greatest_session id image (suc dev) = greater (greatest_session id image dev) (greater (session_at id image dev 4) (session_at id image dev 5))

-- the greatest session of a volume, which its metadata devices name
abbrev pub session_in : Layout → Image → Option ℕ
session_in layout image = greatest_session layout.id image layout.metadata_replicas

-- the places in which a session is sealed: its block on each metadata device
abbrev pub IsSessionPlace : Layout → ℕ → ℕ → ℕ → Type 0
IsSessionPlace layout session dev block = (dev < layout.metadata_replicas) × (block ≡ session_place session)

-- this session's block at those places, and no other
abbrev pub IsSessionBlock : Layout → ℕ → ℕ → ℕ → List ℕ → Type 0
IsSessionBlock layout session dev block bytes = IsSessionPlace layout session dev block × (bytes ≡ session_block layout.id session)
