-- The core stays safe where a part of the entry in flight is written, or a device fails meanwhile; where a device is flushed, or that fails; and
-- where the session stops writing.
use Rattle.std.proofs.Common.{◌≡◌, ◌≤◌, ◌<◌, ◌+◌, ℕ, Bool, true, false, List, drop, length, replicate, Option, Some, None, refl, sym, ap, subst, ◌∙◌, arith}
use Rattle.std.proofs.lemmas.List.{length-append, length-drop, length-replicate, length-set}
use Rattle.std.specs.Prelude.{All}
use Rattle.crash_safety.specs.KeptLeaves.{KeepsLeaves}
use Rattle.core_volume.specs.Sealing.{with_writer}
use Rattle.core_volume.specs.Volumes.{IsVolume, Volume, halted_at, needs_entry, stage_of}
use Rattle.vol_types.specs.declared.failure.Halt.{Halt}
use Rattle.dev_model.specs.Devices.{DevicesState, now}
use Rattle.dev_model.specs.Disk.{IsDisk}
use Rattle.journal_writer.specs.Writers.{Writer, stage_by, unsettled_by, with_flags}
use Rattle.journal_writer.specs.declared.stage.Stage.TheVariants.{WriteEntry}
use Rattle.journal_writer.specs.declared.writer.Flight.{Flight}
use Rattle.image_view.specs.Found.{Found}
use Rattle.crash_safety.specs.Flushes.{AreFlushed, Flushes, flags_by}
use Rattle.crash_safety.specs.Parts.{IsPartWritten, IsRingOf, standing_by}
use Rattle.crash_safety.specs.Safety.{IsJournalSafe, IsSafe}
use Rattle.crash_safety.specs.Standing.{AreSteady}
use Rattle.crash_safety.specs.Writings.{Writing}
use Rattle.vol_core.specs.Entries.{AreStarts, FliesAs, entries_with}
use Rattle.vol_core.specs.Safety.{AreUpTo, IsCoreSafe}
use Rattle.vol_core.specs.VolumeLeaves.{leaves_in}
use Rattle.vol_core.specs.CoreLaws.{CoreLaws}
use Rattle.vol_core.proofs.KnownParts.{flies_also, known_also}
use Rattle.vol_core.proofs.Stages.{resting_writes_nothing, writing_is_left}

-- The core stays safe where its session stops writing.
pub halted_on : (begun : Found) (start state : DevicesState) (volume : Volume) (halt : Halt) → IsCoreSafe begun start state volume → IsCoreSafe begun start state (halted_at halt volume)
halted_on begun start state volume halt kept = record {
  f = kept.f;
  image = kept.image;
  writing = kept.writing;
  asked = kept.asked;
  written = kept.written;
  bases = kept.bases;
  durable = kept.durable;
  safe = kept.safe;
  begins = kept.begins;
  chain = kept.chain;
  past = kept.past;
  flushed = kept.flushed;
  flags = kept.flags;
  known = known_also kept.f volume (halted_at halt volume) kept.known refl refl refl;
  starts = kept.starts;
  first = kept.first;
  lead = kept.lead;
  leaves = kept.leaves;
  one = kept.one;
  kept = kept.kept;
  flying = flies_also kept.f volume.writer.flight kept.writing kept.asked kept.written volume (halted_at halt volume) kept.flying refl refl;
}

-- One more part was asked for than stand, at most.
bounds : (failed : Option ℕ) (written count : ℕ) → written < count → (standing_by failed written ≤ count) × (written + 1 ≤ standing_by failed written + 1)
bounds None written count low = (omega (arith, low), omega arith)
bounds (Some dev) written count low = (omega (arith, low), omega arith)

-- As many flags are there after a flush.
flags_kept : (dev : ℕ) (done : Bool) (flags : List Bool) → length (flags_by dev done flags) ≡ length flags
flags_kept dev true flags = length-set flags dev false
flags_kept dev false flags = refl

-- a writer that has written to the metadata devices, of whose entry in flight so many parts are written
abbrev pub written_to : ℕ → Writer → Writer
written_to written writer = record (unsettled_by writer) { ring = record writer.ring { written = written } }

-- the volume after the next part was written, or that device failed
abbrev pub written_by : Option ℕ → Volume → Volume
written_by failed volume = with_writer (written_to (standing_by failed volume.writer.ring.written) volume.writer) volume

-- Moments that aren't after one are not after a later one.
pub past_later : (moments : List ℕ) (old new : ℕ) → old ≤ new → AreUpTo old moments → AreUpTo new moments
past_later moments old new later past k m there = let before = past k m there in omega (arith, before, later)

-- No flag is lost where the first ones are set.
pub flags_stay : (count : ℕ) (flags : List Bool) → length flags ≤ length (with_flags count flags)
flags_stay count flags = omega (arith, length-append (replicate count true) (drop count flags), length-replicate count true, length-drop count flags)

module _ (laws : CoreLaws) (begun : Found) (start : DevicesState) (volume : Volume) (is : IsVolume volume) (old new : DevicesState) (kept : IsCoreSafe begun start old volume) (disks : All IsDisk (now new)) (steady : AreSteady new) where
  -- whatever a crash has left means one of the bases from before, and the core is safe
  abbrev BothSafe : Volume → Type 0
  BothSafe after_it = IsSafe kept.f.layout kept.bases kept.durable start.moment new × IsCoreSafe begun start new after_it

  both_written : (failed : Option ℕ) → stage_of volume ≡ WriteEntry → IsPartWritten volume.writer.ring failed old new → BothSafe (written_by failed volume)
  both_written failed stage part = by volume.writer.flight kept.writing refl kept.safe kept.starts kept.kept kept.flying stage
    where
      by : (flight : Option Flight) (writing : Option Writing) → volume.writer.flight ≡ flight → IsJournalSafe kept.f kept.image writing kept.asked kept.written kept.bases kept.durable start.moment old
          → AreStarts volume.writer.starts (entries_with writing kept.f.needed) → KeepsLeaves kept.f writing old (leaves_in volume) → FliesAs kept.f flight writing kept.asked kept.written volume → stage_by flight (needs_entry volume) volume.writer ≡ WriteEntry → BothSafe (written_by failed volume)
      by None writing none safe starts leaves flying stage = absurd (resting_writes_nothing (needs_entry volume) volume.writer stage)
      by (Some flight) None flies safe starts leaves flying stage = absurd flying
      by (Some flight) (Some w) flies safe starts leaves flying stage =
          let blocks : length volume.writer.ring.blocks ≡ length w.blocks = ap (λ bs. length bs) flying.blocks in
          let count : volume.writer.ring.written ≡ kept.written = flying.written_is in
          let some = flying.some in
          let few = flying.few in
          let left = writing_is_left volume.writer stage (omega (arith, blocks, some)) (omega (arith, blocks, count, few)) in
          let left_here : kept.written < length w.blocks = omega (arith, left, blocks, count) in
          let ring : IsRingOf kept.f.layout w kept.written volume.writer.ring = record {
            mirrors = is.ring.mirrors ∙ ap (λ layout. layout.metadata_replicas) (sym kept.known.layout);
            journal = is.ring.journal ∙ ap (λ layout. layout.journal) (sym kept.known.layout);
            number = flying.number;
            blocks = flying.blocks;
            written_is = flying.written_is;
          } in
          let standing : standing_by failed volume.writer.ring.written ≡ standing_by failed kept.written = ap (standing_by failed) count in
          let most = bounds failed kept.written (length w.blocks) left_here in
          let stays : IsJournalSafe kept.f kept.image (Some w) (kept.written + 1) (standing_by failed kept.written) kept.bases kept.durable start.moment new =
          laws.journal.writes kept.f kept.image w kept.asked kept.written kept.bases kept.durable start.moment old new volume.writer.ring failed safe flying.asked_for left_here ring part disks steady in (
            stays.safe,
            record {
              f = kept.f;
              image = kept.image;
              writing = Some w;
              asked = kept.written + 1;
              written = standing_by failed kept.written;
              bases = kept.bases;
              durable = kept.durable;
              safe = stays;
              begins = kept.begins;
              chain = kept.chain;
              past = past_later kept.durable old.moment new.moment part.at.crashes.later kept.past;
              flushed = subst (λ (m : ℕ). AreFlushed volume.layout.metadata_replicas (with_flags m volume.writer.unsettled) (now new)) (sym is.ring.mirrors) (laws.flags.writes volume.layout.metadata_replicas volume.writer.unsettled (now new));
              flags = let some_flags = kept.flags in let stay = flags_stay volume.writer.ring.mirrors volume.writer.unsettled in omega (arith, some_flags, stay);
              known = known_also kept.f volume (written_by failed volume) kept.known refl refl refl;
              starts = starts;
              first = kept.first;
              lead = kept.lead;
              leaves = kept.leaves;
              one = kept.one;
              kept = laws.entries.parts kept.image kept.f w old new (leaves_in volume) kept.written volume.writer.ring failed safe.stands.finds leaves ring part;
              flying = subst (λ (flight : Option Flight). FliesAs kept.f flight (Some w) (kept.written + 1) (standing_by failed kept.written) (written_by failed volume)) (sym flies) (record {
                entry = flying.entry;
                number = flying.number;
                end = flying.end;
                blocks = flying.blocks;
                written_is = standing;
                some = flying.some;
                few = most.0;
                asked_for = most.1;
                leaves = flying.leaves;
                keys = flying.keys;
              });
            },
          )

  -- A part is written, or a device failed.
  pub written_on : (failed : Option ℕ) → stage_of volume ≡ WriteEntry → IsPartWritten volume.writer.ring failed old new → IsCoreSafe begun start new (written_by failed volume)
  written_on failed stage part = (both_written failed stage part).1

  -- Whatever a crash leaves then means one of the bases from before.
  pub written_safe : (failed : Option ℕ) → stage_of volume ≡ WriteEntry → IsPartWritten volume.writer.ring failed old new → IsSafe kept.f.layout kept.bases kept.durable start.moment new
  written_safe failed stage part = (both_written failed stage part).0

  -- The same holds where a device is flushed, or failed.
  pub flushed_safe : (dev : ℕ) (done : Bool) → Flushes dev done old new → IsSafe kept.f.layout kept.bases kept.durable start.moment new
  flushed_safe dev done flush = (laws.journal.flushes kept.f kept.image kept.writing kept.asked kept.written kept.bases kept.durable start.moment old new dev done kept.safe flush disks steady).safe

  -- A device is flushed, or it failed.
  pub flushed_on : (dev : ℕ) (done : Bool) → Flushes dev done old new → IsCoreSafe begun start new (with_writer (record volume.writer { unsettled = flags_by dev done volume.writer.unsettled }) volume)
  flushed_on dev done flush =
      let after_it : Volume = with_writer (record volume.writer { unsettled = flags_by dev done volume.writer.unsettled }) volume in
      record {
        f = kept.f;
        image = kept.image;
        writing = kept.writing;
        asked = kept.asked;
        written = kept.written;
        bases = kept.bases;
        durable = kept.durable;
        safe = laws.journal.flushes kept.f kept.image kept.writing kept.asked kept.written kept.bases kept.durable start.moment old new dev done kept.safe flush disks steady;
        begins = kept.begins;
        chain = kept.chain;
        past = past_later kept.durable old.moment new.moment flush.later kept.past;
        flushed = laws.flags.flushes volume.layout.metadata_replicas volume.writer.unsettled dev done old new kept.flushed kept.safe.stands.disks flush;
        flags = let some_flags = kept.flags in let stay = flags_kept dev done volume.writer.unsettled in omega (arith, some_flags, stay);
        known = known_also kept.f volume after_it kept.known refl refl refl;
        starts = kept.starts;
        first = kept.first;
        lead = kept.lead;
        leaves = kept.leaves;
        one = kept.one;
        kept = laws.entries.flushes kept.f kept.writing old new (leaves_in volume) dev done kept.kept kept.safe.stands.disks flush;
        flying = flies_also kept.f volume.writer.flight kept.writing kept.asked kept.written volume after_it kept.flying refl refl;
      }
