-- The writing side of a journal: the entry in flight and how far it is, the last durable one, and what is to be flushed.
use Rattle.std.specs.Prelude.{◌≡◌, ℕ, suc, ◌+◌, ◌-◌, ◌<◌, ◌≤◌, ◌^◌, ⊤, min, Bool, true, false, not, ◌==◌, if◌then◌else◌, Option, Some, None, IfSome, List, [], ◌∷◌, ◌++◌, All, length, map, replicate, take, drop, slice_get, slice_set, slice_index_or}
use Rattle.journal_writer.specs.Queues.{AreChanges, record_of}
use Rattle.journal_writer.specs.declared.changes.Pending.{Pending}
use Rattle.journal_ring.specs.EntryBlocks.{AreEntryBlocks, parts_of}
use Rattle.journal_ring.specs.Rings.{IsClear, RingState, ring_of, used, with_first, with_flight, with_part}
use Rattle.journal_ring.specs.declared.found.FoundEntry.{FoundEntry}
use Rattle.record_codec.specs.Entries.{IsEntry}
use Rattle.vol_types.specs.declared.layout.Layout.{Layout}
use Rattle.vol_types.specs.declared.pointers.NodePtr.{NodePtr}
use Rattle.journal_writer.specs.declared.durable.Durable.{Durable}
use Rattle.journal_writer.specs.declared.stage.Stage.{Stage}
use Rattle.journal_writer.specs.declared.stage.Stage.TheVariants.{Flush, Rest, Seal, Settle, WriteEntry}
use Rattle.journal_writer.specs.declared.writer.Flight.{Flight}
use Rattle.journal_writer.specs.declared.writer.Why.{Why}
use Rattle.journal_writer.specs.declared.writer.Why.TheVariants as whys

-- the most devices of a volume
abbrev pub most_devices : ℕ
most_devices = 8

-- The ring of the journal; the entry in flight; the numbers of the first blocks of the entries from the oldest one on that the last durable entry
-- needs, and of the one in flight; the last durable entry; and for each device whether something that was written to it isn't settled.
pub record Writer : Type 0 where
  pub ring : RingState
  pub flight : Option Flight
  pub starts : List ℕ
  pub durable : Durable
  pub unsettled : List Bool

-- the first of these devices whose flag is set; they are numbered from one on
abbrev pub first_flag : ℕ → List Bool → Option ℕ
first_flag dev [] = None
first_flag dev (flag ∷ flags) = if flag then Some dev else first_flag (suc dev) flags

-- flags, of which the first so many are set
abbrev pub with_flags : ℕ → List Bool → List Bool
with_flags count flags = replicate count true ++ drop count flags

-- a flush of a device, if there is one, and else another stage
abbrev pub flush_before : Option ℕ → Stage → Stage
flush_before None stage = stage
flush_before (Some dev) stage = Flush dev

-- The next step of an entry in flight: before its first part every device is flushed on which something isn't settled, so that what the
-- entry leads to is durable before it; then its parts are written; then the metadata devices are flushed.
abbrev pub step_of : Writer → Stage
step_of writer =
    if writer.ring.written == 0 then flush_before (first_flag 0 writer.unsettled) WriteEntry
    else if writer.ring.written == length writer.ring.blocks then flush_before (first_flag 0 (take writer.ring.mirrors writer.unsettled)) Settle
    else WriteEntry

-- the stage of the journal where this entry is in flight, or none is and one is needed, or none
abbrev pub stage_by : Option Flight → Bool → Writer → Stage
stage_by None needed writer = if needed then Seal else Rest
stage_by (Some flight) needed writer = step_of writer

-- the stage of the journal, where a further entry is needed or not
abbrev pub stage_of : Bool → Writer → Stage
stage_of needed writer = stage_by writer.flight needed writer

-- the first of some numbers
abbrev pub first_of : List ℕ → ℕ
first_of starts = slice_index_or starts 0 0

-- the numbers of the first blocks of entries, which lie before the end of the newest one
abbrev pub starts_of : ℕ → List FoundEntry → List ℕ
starts_of end needed = map (λ (found : FoundEntry). min found.number end) needed

-- a journal of which these entries are needed, the newest one last, and no other was written since; on no device is known that what it holds is settled
abbrev pub opened_by : Layout → List FoundEntry → FoundEntry → Writer
opened_by layout needed newest = record {
  ring = ring_of layout newest.end (first_of (starts_of newest.end needed));
  flight = None;
  starts = starts_of newest.end needed;
  durable = record { sequence = newest.entry.sequence; commits = newest.entry.commits; oldest = newest.entry.oldest; first = first_of (starts_of newest.end needed) };
  unsettled = with_flags (length layout.blocks) (replicate most_devices false);
}

-- The last of the needed entries is the durable one, and no other was written since.
pub record IsWriterOpened (layout : Layout) (needed : List FoundEntry) (writer : Writer) : Type 0 where
  pub newest : FoundEntry
  pub last : slice_get needed (length needed - 1) ≡ Some newest
  pub is : writer ≡ opened_by layout needed newest

-- a writer with this entry in flight, which needs the entries from this sequence on
abbrev pub with_entry : List (List ℕ) → Pending → ℕ → Writer → Writer
with_entry blocks entry oldest writer = record writer {
  ring = with_flight blocks writer.ring;
  flight = Some (record { entry = entry; oldest = oldest });
  starts = writer.starts ++ writer.ring.next ∷ [];
}

-- The numbers of so many blocks are left: each is below 2^64, and so is the one behind the last.
abbrev pub HasBlockNumbers : RingState → ℕ → Type 0
HasBlockNumbers ring parts = ring.next + parts < 2 ^ 64

-- The ring has room for an entry of so many blocks.
pub record HasRoom (ring : RingState) (parts : ℕ) : Type 0 where
  pub few : parts ≤ 64
  pub fits : used ring + parts ≤ ring.journal

-- The entry is in flight, as this record: its blocks get the next numbers, and none of them the place of one that is needed.
pub record IsSealed (entry : Pending) (oldest session : ℕ) (roots : List NodePtr) (old new : Writer) : Type 0 where
  pub numbers : HasBlockNumbers old.ring (parts_of (record_of oldest session roots entry))
  pub room : HasRoom old.ring (parts_of (record_of oldest session roots entry))
  pub is : new ≡ with_entry new.ring.blocks entry oldest old
  pub blocks : AreEntryBlocks old.ring.id old.ring.next (record_of oldest session roots entry) new.ring.blocks
  pub valid : IsEntry (record_of oldest session roots entry)
  pub clear : (number : ℕ) → old.ring.next ≤ number → number < new.ring.next → IsClear old.ring number

-- Why an entry of so many blocks isn't put in flight: their numbers aren't left, or the ring has no room for them; want of memory has no cause.
abbrev pub IsWhy : RingState → ℕ → Why → Type 0
IsWhy ring parts whys.Spent = ¬ HasBlockNumbers ring parts
IsWhy ring parts (whys.RingFull full) = HasBlockNumbers ring parts × (¬ HasRoom ring parts) × (full ≡ record { left = ring.journal - used ring; need = parts })
IsWhy ring parts whys.NoMemory = ⊤

-- a writer that has written to the metadata devices
abbrev pub unsettled_by : Writer → Writer
unsettled_by writer = record writer { unsettled = with_flags writer.ring.mirrors writer.unsettled }

-- a writer that has written the next part of the entry in flight
abbrev pub with_next_part : Writer → Writer
with_next_part writer = record (unsettled_by writer) { ring = with_part writer.ring }

-- a writer that has flushed a device
abbrev pub with_flushed : ℕ → Writer → Writer
with_flushed dev writer = record writer { unsettled = slice_set writer.unsettled dev false }

-- how many of the entries that the last durable one needs, a new one needs no more
abbrev pub passed : ℕ → Writer → ℕ
passed oldest writer = min (oldest - writer.durable.oldest) (length writer.starts - 1)

-- a writer for which an entry that was in flight is the last durable one
abbrev pub settled_by : Option Flight → Writer → Writer
settled_by None writer = writer
settled_by (Some flight) writer =
    let starts = drop (passed flight.oldest writer) writer.starts in
    record writer {
      ring = with_first (first_of starts) writer.ring;
      flight = None;
      starts = starts;
      durable = record { sequence = flight.entry.after + 1; commits = flight.entry.commits; oldest = flight.oldest; first = first_of starts };
    }

-- a writer whose entry in flight is the last durable one
abbrev pub settled : Writer → Writer
settled writer = settled_by writer.flight writer

-- An entry is in flight: it has blocks, a sequence of its own, and changes that fit an entry.
pub record IsFlying (writer : Writer) (flight : Flight) : Type 0 where
  pub blocks : 0 < length writer.ring.blocks
  pub sequence : flight.entry.after + 1 < 2 ^ 64
  pub oldest : flight.oldest ≤ flight.entry.after + 1
  pub changes : AreChanges writer.ring.mirrors flight.entry.changes

-- What a writer keeps.
pub record IsWriter (writer : Writer) : Type 0 where
  pub area : writer.ring.journal ≤ 4096
  pub mirrored : writer.ring.mirrors ≤ 3
  pub some : 0 < length writer.starts
  pub first : writer.durable.first ≡ first_of writer.starts
  pub needed : writer.ring.first ≡ writer.durable.first
  pub within : All (λ start. start ≤ writer.ring.next) writer.starts
  pub parts : writer.ring.written ≤ length writer.ring.blocks
  pub at_rest : writer.flight ≡ None → writer.ring.blocks ≡ []
  pub flying : IfSome writer.flight (IsFlying writer)

-- What it knows besides of its ring: the metadata devices, and whether a part of the entry in flight was written.
pub record KnowsRing (mirrors : ℕ) (begun : Bool) (ring : RingState) : Type 0 where
  pub count : mirrors ≡ ring.mirrors
  pub parts : begun ≡ not (ring.written == 0)

-- What a writer keeps, with what it knows besides.
abbrev pub IsKept : ℕ → Bool → Writer → Type 0
IsKept mirrors begun writer = IsWriter writer × KnowsRing mirrors begun writer.ring
