-- What the last durable entry leads to leaves room in the ring, and so does what the entry in flight leads to.
use Rattle.std.proofs.Common.{◌≡◌, ◌≤◌, ◌+◌, [], ◌∷◌, ◌++◌, drop, Option, Some, None, ap, subst, arith}
use Rattle.std.proofs.lemmas.Option.{none-some, same_Some}
use Rattle.std.specs.Prelude.{IfSome, slice_index_or}
use Rattle.core_volume.specs.Rulings.{kept_blocks}
use Rattle.core_volume.specs.Volumes.{Volume}
use Rattle.dev_model.specs.Devices.{DevicesState}
use Rattle.journal_writer.specs.Writers.{passed, settled_by}
use Rattle.journal_writer.specs.declared.writer.Flight.{Flight}
use Rattle.image_view.specs.Found.{Found}
use Rattle.crash_safety.specs.Writings.{IsWriting, Writing, after}
use Rattle.record_codec.specs.declared.entries.EntryRecord.{EntryRecord}
use Rattle.vol_types.specs.declared.layout.Layout.{Layout}
use Rattle.vol_core.specs.Entries.{AreStarts, FliesAs, entries_with}
use Rattle.vol_core.specs.Room.{KeepsRoom, LeavesRoom}
use Rattle.vol_core.specs.Safety.{IsCoreSafe}
use Rattle.vol_core.proofs.NeededEntries.{starts_first, starts_passed}

module _ (begun : Found) (start state : DevicesState) (volume : Volume) (kept : IsCoreSafe begun start state volume) (room : KeepsRoom volume) where
  journal : kept.f.layout.journal ≡ volume.layout.journal
  journal = ap (λ (layout : Layout). layout.journal) kept.known.layout

  -- The needed entries of the last durable one begin no earlier than the ring.
  begins_later : volume.writer.durable.first ≤ (slice_index_or kept.f.needed 0 kept.f.last).number
  begins_later = let first = room.first in let least = kept.first in omega (arith, first, least)

  -- The last durable one leaves room.
  pub durable_leaves : LeavesRoom kept.f
  durable_leaves = by volume.writer.flight kept.writing kept.safe.stands.is kept.flying room.landed
    where
      by : (flight : Option Flight) (writing : Option Writing) → IfSome writing (IsWriting kept.f kept.image) → FliesAs kept.f flight writing kept.asked kept.written volume
          → volume.writer.ring.next + kept_blocks ≤ (settled_by flight volume.writer).durable.first + volume.layout.journal → LeavesRoom kept.f
      by None None is flies landed = let end = flies.end in let begins = begins_later in let same = journal in omega (arith, end, begins, same, landed)
      by None (Some w) is flies landed = absurd flies
      by (Some flight) None is flies landed = absurd flies
      by (Some flight) (Some w) is flies landed =
          let number = is.next.number in
          let end = is.next.end in
          let here = flies.end in
          let most = room.flying in
          let begins = begins_later in
          let same = journal in
          omega (arith, number, end, here, most, begins, same)

  -- And so does the one in flight.
  pub flight_leaves : (w : Writing) → kept.writing ≡ Some w → LeavesRoom (after w kept.f)
  flight_leaves w writes = by volume.writer.flight kept.writing writes kept.safe.stands.is kept.starts kept.flying room.landed
    where
      by : (flight : Option Flight) (writing : Option Writing) → writing ≡ Some w → IfSome writing (IsWriting kept.f kept.image) → AreStarts volume.writer.starts (entries_with writing kept.f.needed)
          → FliesAs kept.f flight writing kept.asked kept.written volume → volume.writer.ring.next + kept_blocks ≤ (settled_by flight volume.writer).durable.first + volume.layout.journal → LeavesRoom (after w kept.f)
      by flight None none is starts flies landed = absurd (none-some w none)
      by None (Some v) same is starts flies landed = absurd flies
      by (Some flight) (Some v) same is starts flies landed = subst (λ (u : Writing). LeavesRoom (after u kept.f)) (same_Some v w same) leaves
        where
          leaves : LeavesRoom (after v kept.f)
          leaves =
              let begin = starts_passed kept.f volume flight v kept.known is.next (ap (λ (entry : EntryRecord). entry.oldest) flies.entry) starts in
              let least = starts_first (drop (passed flight.oldest volume.writer) volume.writer.starts) (drop v.passed kept.f.needed ++ v.next ∷ []) v.next begin in
              let end = flies.end in
              let same_journal = journal in
              omega (arith, least, end, same_journal, landed)
