-- The core stays safe where the entry in flight becomes the last durable one.
use Rattle.std.proofs.Common.{◌≡◌, ◌≤◌, ◌+◌, ℕ, zero, suc, List, [], ◌∷◌, ◌++◌, drop, take, length, Option, Some, None, refl, sym, ap, subst, ◌∙◌, arith}
use Rattle.std.proofs.lemmas.List.{length-append, length-drop}
use Rattle.std.proofs.lemmas.Option.{same_Some}
use Rattle.btree_map.specs.Trees.{keys_in}
use Rattle.bucket_pool.specs.Space.{settled_space}
use Rattle.crash_safety.specs.KeptLeaves.{KeepsLeaves}
use Rattle.crash_safety.specs.LeafSteps.{settled_leaves}
use Rattle.core_volume.specs.Sealing.{settled_volume, with_writer}
use Rattle.core_volume.specs.Volumes.{IsVolume, Volume, changes_in, needs_entry, stage_of}
use Rattle.dev_model.specs.Devices.{DevicesState, now}
use Rattle.dev_model.specs.Disk.{as_read}
use Rattle.journal_writer.specs.Changes.{LeadTo}
use Rattle.journal_writer.specs.Queues.{waiting}
use Rattle.journal_writer.specs.Writers.{first_flag, passed, settled_by, stage_by}
use Rattle.journal_writer.specs.declared.stage.Stage.TheVariants.{Settle}
use Rattle.journal_writer.specs.declared.writer.Flight.{Flight}
use Rattle.image_view.specs.Found.{Found}
use Rattle.crash_safety.specs.Flushes.{AreSettled}
use Rattle.crash_safety.specs.Safety.{IsJournalSafe}
use Rattle.crash_safety.specs.Writings.{IsWriting, Writing, after}
use Rattle.record_codec.specs.declared.entries.EntryRecord.{EntryRecord}
use Rattle.vol_types.specs.KeyMaps.{KeyMap, with_updates}
use Rattle.vol_types.specs.declared.keys.Update.{Update}
use Rattle.vol_types.specs.declared.layout.Layout.{Layout}
use Rattle.vol_core.specs.Entries.{AreStarts, FliesAs, IsInFlight, IsKnown, entries_with}
use Rattle.vol_core.specs.Safety.{AreUpTo, IsCoreSafe}
use Rattle.vol_core.specs.VolumeLeaves.{leaves_in}
use Rattle.vol_core.specs.CoreLaws.{CoreLaws}
use Rattle.vol_core.proofs.HeldLeaves.{holds_back}
use Rattle.vol_core.proofs.NeededEntries.{starts_first, starts_passed}
use Rattle.vol_core.proofs.Stages.{clear_is_unset, flags_clear, resting_settles_nothing, settling_is_whole}

-- This moment isn't after itself, and the others aren't.
past_push : (moments : List ℕ) (moment : ℕ) → AreUpTo moment moments → AreUpTo moment (moments ++ moment ∷ [])
past_push [] moment past zero m there = let same = same_Some moment m there in omega (arith, same)
past_push [] moment past (suc k) m there = absurd cc
past_push (first ∷ moments) moment past zero m there = past 0 m there
past_push (first ∷ moments) moment past (suc k) m there = past_push moments moment (λ k. past (suc k)) k m there

-- the volume where this entry in flight, if there is one, is the last durable one
abbrev settled_with : Option Flight → Volume → Volume
settled_with flight volume = record (with_writer (settled_by flight volume.writer) volume) { space = settled_space (settled_by flight volume.writer).durable.sequence volume.space }

module _ (laws : CoreLaws) (begun : Found) (start : DevicesState) (volume : Volume) (is : IsVolume volume) (state : DevicesState) (kept : IsCoreSafe begun start state volume) where
  module _ (flight : Flight) (w : Writing) (flies : volume.writer.flight ≡ Some flight) (safe : IsJournalSafe kept.f kept.image (Some w) kept.asked kept.written kept.bases kept.durable start.moment state) (keeps : KeepsLeaves kept.f (Some w) state (leaves_in volume))
      (starts : AreStarts volume.writer.starts (kept.f.needed ++ w.next ∷ [])) (flying : IsInFlight kept.f w kept.asked kept.written flight volume) (stage : stage_by (Some flight) (needs_entry volume) volume.writer ≡ Settle) where
    abbrev f : Found
    f = kept.f

    abbrev writing_is : IsWriting f kept.image w
    writing_is = safe.stands.is

    abbrev after_it : Volume
    after_it = settled_with (Some flight) volume

    oldest_is : w.next.entry.oldest ≡ flight.oldest
    oldest_is = ap (λ (entry : EntryRecord). entry.oldest) flying.entry

    sequence_is : w.next.entry.sequence ≡ flight.entry.after + 1
    sequence_is = ap (λ (entry : EntryRecord). entry.sequence) flying.entry

    updates_are : w.next.entry.updates ≡ flight.entry.changes.updates
    updates_are = ap (λ (entry : EntryRecord). entry.updates) flying.entry

    whole : kept.written ≡ length w.blocks
    whole = sym flying.written_is ∙ (settling_is_whole volume.writer stage).0 ∙ ap (λ (bs : List (List ℕ)). length bs) flying.blocks

    settles : AreSettled f.layout.metadata_replicas (now state)
    settles =
        let clear = subst (λ (m : ℕ). first_flag 0 (take m volume.writer.unsettled) ≡ None) is.ring.mirrors (settling_is_whole volume.writer stage).1 in
        subst (λ (layout : Layout). AreSettled layout.metadata_replicas (now state)) (sym kept.known.layout)
        (laws.flags.settled volume.layout.metadata_replicas volume.writer.unsettled (now state) kept.flushed
        (λ dev lt. clear_is_unset volume.writer.unsettled dev (flags_clear 0 volume.layout.metadata_replicas volume.writer.unsettled clear kept.flags dev lt)))

    new_oldest : w.next.entry.oldest ≡ f.last.entry.oldest + w.passed
    new_oldest = writing_is.next.oldest

    within : w.passed ≤ length f.needed
    within = writing_is.next.passes

    new_starts : AreStarts (drop (passed flight.oldest volume.writer) volume.writer.starts) (drop w.passed f.needed ++ w.next ∷ [])
    new_starts = starts_passed f volume flight w kept.known writing_is.next oldest_is starts

    new_known : IsKnown (after w f) after_it
    new_known = record {
      layout = kept.known.layout;
      session = kept.known.session;
      sequence = sequence_is;
      commits = ap (λ (entry : EntryRecord). entry.commits) flying.entry;
      oldest = oldest_is;
      some = omega (arith, length-append (drop w.passed f.needed) (w.next ∷ []));
      count =
          let old_count = kept.known.count in
          let sequence = writing_is.next.sequence in
          let new = new_oldest in
          let most = within in
          omega (arith, length-append (drop w.passed f.needed) (w.next ∷ []), length-drop w.passed f.needed, old_count, sequence, new, most);
    }

    new_lead : LeadTo (waiting volume.queue) w.trees.keys (keys_in volume.trees)
    new_lead =
        let lead : LeadTo (flight.entry.changes ∷ waiting volume.queue) f.trees.keys (keys_in volume.trees) = subst (λ (o : Option Flight). LeadTo (changes_in o ++ waiting volume.queue) f.trees.keys (keys_in volume.trees)) flies kept.lead in
        let keys : w.trees.keys ≡ with_updates flight.entry.changes.updates f.trees.keys = flying.keys ∙ ap (λ (updates : List Update). with_updates updates f.trees.keys) updates_are in
        subst (λ (from : KeyMap). LeadTo (waiting volume.queue) from (keys_in volume.trees)) (sym keys) (laws.keys.settled flight.entry.changes (waiting volume.queue) f.trees.keys (keys_in volume.trees) lead)

    -- The leaves hold back what the entry needs, and it.
    new_leaves : KeepsLeaves (after w f) None state (leaves_in after_it)
    new_leaves =
        subst (λ (n : ℕ). KeepsLeaves (after w f) None state (settled_leaves n (leaves_in volume))) sequence_is
        (laws.entries.settles f w state (leaves_in volume) keeps (holds_back volume is kept.one flight flies f w (sym new_oldest ∙ oldest_is) sequence_is updates_are) within new_oldest writing_is.next.sequence kept.known.count flying.keys flying.leaves)

    pub settled_one : IsCoreSafe begun start state after_it
    settled_one = record {
      f = after w f;
      image = as_read (now state);
      writing = None;
      asked = 0;
      written = 0;
      bases = kept.bases;
      durable = kept.durable ++ state.moment ∷ [];
      safe = laws.journal.settles f kept.image w kept.asked kept.written kept.bases kept.durable start.moment state safe whole settles;
      begins = kept.begins;
      chain = kept.chain;
      past = past_push kept.durable state.moment kept.past;
      flushed = kept.flushed;
      flags = kept.flags;
      known = new_known;
      starts = new_starts;
      first = starts_first (drop (passed flight.oldest volume.writer) volume.writer.starts) (drop w.passed f.needed ++ w.next ∷ []) w.next new_starts;
      lead = new_lead;
      leaves = kept.leaves;
      one = kept.one;
      kept = new_leaves;
      flying = record { end = flying.end; unasked = refl; unwritten = refl };
    }

  -- The entry in flight is the last durable one.
  pub settled_on : stage_of volume ≡ Settle → IsCoreSafe begun start state (settled_volume volume)
  settled_on stage = by volume.writer.flight kept.writing refl kept.safe kept.kept kept.starts kept.flying stage
    where
      by : (flight : Option Flight) (writing : Option Writing) → volume.writer.flight ≡ flight → IsJournalSafe kept.f kept.image writing kept.asked kept.written kept.bases kept.durable start.moment state → KeepsLeaves kept.f writing state (leaves_in volume)
          → AreStarts volume.writer.starts (entries_with writing kept.f.needed) → FliesAs kept.f flight writing kept.asked kept.written volume → stage_by flight (needs_entry volume) volume.writer ≡ Settle → IsCoreSafe begun start state (settled_with flight volume)
      by None writing flies safe keeps starts flying stage = absurd (resting_settles_nothing (needs_entry volume) volume.writer stage)
      by (Some flight) None flies safe keeps starts flying stage = absurd flying
      by (Some flight) (Some w) flies safe keeps starts flying stage = settled_one flight w flies safe keeps starts flying stage
