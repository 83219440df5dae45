-- Which entries are whole in the journal areas of a volume's metadata devices: from the blocks that stand there, and nothing else.
use Rattle.std.specs.Prelude.{◌≡◌, ℕ, ◌+◌, ◌^◌, ◌<◌, ◌≤◌, Bool, true, ◌&&◌, ◌==◌, nat_lt, if◌then◌else◌, List, [], length, slice_index_or, Option, Some, None, Ok, option_map, option_and_then}
use Rattle.std.specs.Result.{result_ok}
use Rattle.std.specs.Str.{bytes_eq}
use Rattle.sha2.specs.Sha256.{sha256}
use Rattle.sealed_block.specs.declared.heads.Head.{Head}
use Rattle.sealed_block.specs.Opening.{opened}
use Rattle.sealed_block.specs.Records.{IsRecord}
use Rattle.record_codec.specs.declared.entries.EntryRecord.{EntryRecord}
use Rattle.record_codec.specs.Entries.{entry_in}
use Rattle.vol_types.specs.declared.layout.Layout.{Layout}
use Rattle.journal_ring.specs.declared.found.FoundEntry.{FoundEntry}
use Rattle.journal_ring.specs.Parts.{Area, joined, numbered}

-- it is the head of part 0 of an entry of the volume with this id, under this journal block number, and the number behind its last part is one
abbrev pub is_entry_head : List ℕ → ℕ → Head → Bool
is_entry_head id number head = head.kind == 2 && head.version == 1 && head.part == 0 && bytes_eq head.id id && head.number == number && nat_lt (number + head.parts) (2 ^ 64)

-- an entry has the sequence and the session that the head names
abbrev pub agrees : Head → EntryRecord → Bool
agrees head entry = entry.sequence == head.sequence && entry.session == head.owner

-- the entry, if there is one that agrees with the head
abbrev pub agreeing : Head → Option EntryRecord → Option EntryRecord
agreeing head None = None
agreeing head (Some entry) = if agrees head entry then Some entry else None

-- the entry that a joined payload is under this head: it has the record digest, is in the grammar, and agrees with the head
abbrev pub entry_under : Head → List ℕ → Option EntryRecord
entry_under head payload = if bytes_eq (sha256 payload) head.whole then agreeing head (result_ok (entry_in payload)) else None

-- an entry with the number of its part 0 and the number behind its last part
abbrev pub found_at : ℕ → Head → EntryRecord → FoundEntry
found_at number head entry = record { number = number; end = number + head.parts; entry = entry }

-- the whole entry that a head of part 0 begins
abbrev pub begun_by : Layout → Area → ℕ → ℕ → Head → Option FoundEntry
begun_by layout area dev number head =
    if is_entry_head layout.id number head
    then option_map (found_at number head) (option_and_then (entry_under head) (joined layout area dev head head.parts))
    else None

-- the whole entry whose part 0 stands on this device under this journal block number, if there is one
unfoldable pub entry_on : Layout → Area → ℕ → ℕ → Option FoundEntry
entry_on layout area dev number = option_and_then (begun_by layout area dev number) (option_and_then opened (numbered layout area dev number))

-- The entry is whole, with its part 0 on this metadata device.
pub record IsWholeOn (layout : Layout) (area : Area) (dev : ℕ) (found : FoundEntry) : Type 0 where
  pub mirror : dev < layout.metadata_replicas
  pub whole : entry_on layout area dev found.number ≡ Some found

-- The entry is whole.
abbrev pub IsWhole : Layout → Area → FoundEntry → Type 0
IsWhole layout area found = (dev : ℕ) × IsWholeOn layout area dev found

-- Two areas agree on the places of the numbers from one number up to another, on every metadata device.
abbrev pub AgreeFrom : Layout → Area → Area → ℕ → ℕ → Type 0
AgreeFrom layout one other from end = (dev number : ℕ) → dev < layout.metadata_replicas → from ≤ number → number < end → numbered layout one dev number ≡ numbered layout other dev number

-- The entry is made of these blocks: each stands on some metadata device at the place of its number, and they are the parts of one
-- record, whose payload is the entry and whose part 0 has a head of it.
pub record IsMadeOf (layout : Layout) (area : Area) (found : FoundEntry) (blocks : List (List ℕ)) : Type 0 where
  pub first : Head
  pub payload : List ℕ
  pub begins : opened (slice_index_or blocks 0 []) ≡ Some first
  pub is_head : is_entry_head layout.id found.number first ≡ true
  pub session : found.entry.session ≡ first.owner
  pub sequence : found.entry.sequence ≡ first.sequence
  pub end : found.end ≡ found.number + length blocks
  pub stand : (p : ℕ) → p < length blocks → (dev : ℕ) × (dev < layout.metadata_replicas) × (numbered layout area dev (found.number + p) ≡ Some (slice_index_or blocks p []))
  pub record_is : IsRecord blocks payload
  pub read : entry_in payload ≡ Ok found.entry
