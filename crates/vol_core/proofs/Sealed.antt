-- The core stays safe where an entry is put in flight.
use Rattle.std.proofs.Common.{◌≡◌, ◌≤◌, ◌<◌, ◌+◌, ◌-◌, ℕ, List, [], ◌∷◌, ◌++◌, length, min, Option, Some, None, refl, sym, ap, subst, ◌∙◌, arith}
use Rattle.std.proofs.lemmas.List.{length-map}
use Rattle.std.proofs.lemmas.List.Elements.{All-cons, All-head, All-map, All-nil, All-tail}
use Rattle.std.specs.Prelude.{All, IfSome, slice_get}
use Rattle.btree_map.specs.Sizes.{all_btrees}
use Rattle.btree_map.specs.Trees.{keys_in}
use Rattle.crash_safety.specs.KeptLeaves.{KeepsLeaves}
use Rattle.crash_safety.specs.LeafSteps.{IsNamed}
use Rattle.core_volume.specs.Sealing.{IsFlown, next_record, oldest_needed, roots_in}
use Rattle.core_volume.specs.Volumes.{IsVolume, Volume, changes_in, last_sealed, needs_entry}
use Rattle.dev_model.specs.Devices.{DevicesState, now}
use Rattle.dev_model.specs.Disk.{as_read}
use Rattle.journal_writer.specs.Changes.{LeadTo, no_changes}
use Rattle.journal_writer.specs.Queues.{Queue, closed_changes, first_of, left_by, oldest, record_of, waiting, without_oldest}
use Rattle.journal_writer.specs.declared.changes.KeyChanges.{KeyChanges}
use Rattle.journal_writer.specs.declared.changes.Pending.{Pending}
use Rattle.journal_writer.specs.Writers.{IsSealed, Writer, with_entry}
use Rattle.journal_writer.specs.declared.writer.Flight.{Flight}
use Rattle.image_view.specs.Found.{Found}
use Rattle.image_view.specs.NextEntries.{IsNext}
use Rattle.image_view.specs.UpdatedTrees.{IsOfLeaf}
use Rattle.journal_ring.specs.EntryBlocks.{AreEntryBlocks, parts_of}
use Rattle.journal_ring.specs.Rings.{flight_number}
use Rattle.journal_ring.specs.declared.found.FoundEntry.{FoundEntry}
use Rattle.crash_safety.specs.Safety.{IsJournalSafe}
use Rattle.crash_safety.specs.Writings.{Writing, after}
use Rattle.node_writeback.specs.Due.{root_in, root_of}
use Rattle.pin_list.specs.Pins.{least_pin}
use Rattle.record_codec.specs.Entries.{UpdateFits}
use Rattle.record_codec.specs.declared.entries.EntryRecord.{EntryRecord}
use Rattle.vol_types.specs.Btrees.{btree_code}
use Rattle.vol_types.specs.KeyMaps.{with_updates}
use Rattle.vol_types.specs.declared.keys.Update.{Update}
use Rattle.vol_types.specs.declared.layout.Layout.{Layout}
use Rattle.vol_types.specs.declared.pointers.NodePtr.{NodePtr}
use Rattle.vol_core.specs.Entries.{AreInLeaves, AreStarts, FliesAs, IsInLeaf, entries_with}
use Rattle.vol_core.specs.Rested.{DoCommitsRise}
use Rattle.vol_core.specs.Safety.{IsCoreSafe, IsLed}
use Rattle.vol_core.specs.VolumeLeaves.{leaves_in}
use Rattle.vol_core.proofs.Chains.{chain_push, first_stays}
use Rattle.vol_core.specs.CoreLaws.{CoreLaws}
use Rattle.vol_core.proofs.KnownParts.{known_also}
use Rattle.vol_core.proofs.LeafTrees.{IsLeafRoot}
use Rattle.vol_core.proofs.NamedRoots.{needed_within, nine_roots}
use Rattle.vol_core.proofs.NeededEntries.{smaller_within, starts_push}
use Rattle.vol_core.proofs.Stages.{sealing_is_free}

-- Updates in leaves that have their widths are of leaves.
of_leaves : (updates : List Update) → All IsInLeaf updates → All UpdateFits updates → All IsOfLeaf updates
of_leaves [] leaves fit = All-nil IsOfLeaf
of_leaves (update ∷ updates) leaves fit =
    All-cons IsOfLeaf update updates (record { level = All-head IsInLeaf update updates leaves; fits = (All-head UpdateFits update updates fit).pos }) (of_leaves updates (All-tail IsInLeaf update updates leaves) (All-tail UpdateFits update updates fit))

-- An update of a leaf is above no root.
within_root : (root : Option NodePtr) (level : ℕ) → level ≡ 0 → IfSome root (λ node. level ≤ node.level)
within_root None level leaf = tt
within_root (Some node) level leaf = omega (arith, leaf)

below_roots : (entry : EntryRecord) (updates : List Update) → All IsInLeaf updates → All (λ (update : Update). IfSome (slice_get entry.roots (btree_code update.btree)) (λ root. update.level ≤ root.level)) updates
below_roots entry [] leaves = All-nil (λ (update : Update). IfSome (slice_get entry.roots (btree_code update.btree)) (λ root. update.level ≤ root.level))
below_roots entry (update ∷ updates) leaves =
    All-cons (λ (update : Update). IfSome (slice_get entry.roots (btree_code update.btree)) (λ root. update.level ≤ root.level)) update updates
    (within_root (slice_get entry.roots (btree_code update.btree)) update.level (All-head IsInLeaf update updates leaves)) (below_roots entry updates (All-tail IsInLeaf update updates leaves))

-- An entry takes a block.
takes_a_block : (entry : EntryRecord) → 0 < parts_of entry
takes_a_block entry = omega arith

abbrev AllInLeaves : KeyChanges → Type 0
AllInLeaves changes = All IsInLeaf changes.updates

-- The updates of the oldest entry that waits are in leaves, and those of the others.
oldest_leaves : (closed : List Pending) (open_entry : Pending) → AreInLeaves (closed_changes closed ++ open_entry.changes ∷ []) → All IsInLeaf (first_of closed open_entry).changes.updates
oldest_leaves [] open_entry are = All-head AllInLeaves open_entry.changes [] are
oldest_leaves (entry ∷ later) open_entry are = All-head AllInLeaves entry.changes (closed_changes later ++ open_entry.changes ∷ []) are

later_leaves : (closed : List Pending) (queue : Queue) → AreInLeaves (closed_changes closed ++ queue.open_entry.changes ∷ []) → AreInLeaves (waiting (left_by closed queue))
later_leaves [] queue are = All-cons AllInLeaves no_changes [] (All-nil IsInLeaf) (All-nil AllInLeaves)
later_leaves (entry ∷ later) queue are = All-tail AllInLeaves entry.changes (closed_changes later ++ queue.open_entry.changes ∷ []) are

module _ (laws : CoreLaws) (begun : Found) (start : DevicesState) (volume : Volume) (is : IsVolume volume) (state : DevicesState) (kept : IsCoreSafe begun start state volume) where
  module _ (blocks : List (List ℕ)) (writer : Writer) (free : volume.writer.flight ≡ None) (safe : IsJournalSafe kept.f kept.image None 0 0 kept.bases kept.durable start.moment state) (leaves : KeepsLeaves kept.f None state (leaves_in volume)) (starts : AreStarts volume.writer.starts kept.f.needed)
      (end : kept.f.last.end ≡ volume.writer.ring.next) (sealed : IsSealed (oldest volume.queue) (oldest_needed volume) volume.session (roots_in volume.trees.nodes) volume.writer writer) (same : writer.ring.blocks ≡ blocks) (from : min volume.writer.durable.oldest volume.writer.durable.sequence ≤ oldest_needed volume)
      (rises : volume.writer.durable.commits ≤ (oldest volume.queue).commits) where
    abbrev f : Found
    f = kept.f

    abbrev entry : EntryRecord
    entry = next_record volume

    abbrev after_it : Volume
    after_it = record volume { queue = without_oldest volume.queue; writer = with_entry blocks (oldest volume.queue) (oldest_needed volume) volume.writer }

    abbrev next : FoundEntry
    next = record { number = volume.writer.ring.next; end = volume.writer.ring.next + parts_of entry; entry = entry }

    in_leaves : All IsInLeaf entry.updates
    in_leaves = oldest_leaves volume.queue.closed volume.queue.open_entry kept.leaves

    are_of_leaves : All IsOfLeaf entry.updates
    are_of_leaves = of_leaves entry.updates in_leaves sealed.valid.fits.updates

    are_blocks : AreEntryBlocks volume.writer.ring.id volume.writer.ring.next entry blocks
    are_blocks = subst (λ (bs : List (List ℕ)). AreEntryBlocks volume.writer.ring.id volume.writer.ring.next entry bs) same sealed.blocks

    follows : (oldest volume.queue).after ≡ volume.writer.durable.sequence
    follows = is.in_turn.waiting_ones ∙ ap (λ (o : Option Flight). last_sealed o volume.writer.durable.sequence) free

    sequence : entry.sequence ≡ f.last.entry.sequence + 1
    sequence = ap (λ (n : ℕ). n + 1) (follows ∙ sym kept.known.sequence)

    order : volume.writer.durable.oldest ≤ oldest_needed volume
    order =
        let oldest_is = kept.known.oldest in
        let sequence_is = kept.known.sequence in
        let some = kept.known.some in
        let count = kept.known.count in
        omega (arith, from, oldest_is, sequence_is, some, count)

    passed_is : oldest_needed volume ≡ f.last.entry.oldest + (oldest_needed volume - volume.writer.durable.oldest)
    passed_is = let known = kept.known.oldest in let least = order in omega (arith, least, known)

    within : oldest_needed volume - volume.writer.durable.oldest ≤ length f.needed
    within =
        let most = smaller_within ((oldest volume.queue).after + 1) (least_pin volume.pins) in
        let count = kept.known.count in
        let here = sequence in
        let known = kept.known.oldest in
        omega (arith, most, count, here, known)

    is_next : IsNext f (oldest_needed volume - volume.writer.durable.oldest) next
    is_next = record {
      entry = sealed.valid;
      parts = sealed.room.few;
      number = sym end;
      end = refl;
      end_fits = sealed.numbers;
      room =
          let fits = sealed.room.fits in
          let first = kept.first in
          let journal : volume.writer.ring.journal ≡ f.layout.journal = is.ring.journal ∙ ap (λ (layout : Layout). layout.journal) (sym kept.known.layout) in
          omega (arith, fits, first, journal);
      session = sym kept.known.session;
      sequence = sequence;
      passes = within;
      oldest = passed_is;
      levels = below_roots entry entry.updates in_leaves;
    }

    abbrev passed : ℕ
    passed = oldest_needed volume - volume.writer.durable.oldest

    -- It names the roots as they are, and needs what a root pins.
    is_named : IsNamed f passed next blocks (leaves_in volume)
    is_named = record {
      is_next = is_next;
      sealed = subst (λ (id : List ℕ). AreEntryBlocks id volume.writer.ring.next entry blocks) (is.ring.id ∙ ap (λ (layout : Layout). layout.id) (sym kept.known.layout)) are_blocks;
      roots = let all = sealed.valid.in_range.all_roots in nine_roots volume.trees.nodes (sym (length-map volume.trees.nodes root_of) ∙ all);
      of_leaves = are_of_leaves;
      pins = λ btree p pinned. subst (λ (n : ℕ). n ≤ p) passed_is (needed_within ((oldest volume.queue).after + 1) (root_in volume.trees.nodes btree).birth p volume.pins pinned);
    }

    -- The roots that it names are leaves.
    leaf_roots : All IsLeafRoot entry.roots
    leaf_roots = subst (All IsLeafRoot) (sym is_named.roots) (All-map IsLeafRoot (root_in volume.trees.nodes) all_btrees (λ k d less. (leaves.stand _).leaf))

    flown_one : IsCoreSafe begun start state after_it
    flown_one = with_writing (laws.entries.seals f kept.image kept.bases kept.durable start.moment state passed next blocks (leaves_in volume) safe leaves is_named)
      where
        with_writing : (w : Writing) × (w.passed ≡ passed) × (w.next ≡ next) × (w.blocks ≡ blocks) × (w.trees.keys ≡ with_updates entry.updates f.trees.keys)
            × IsJournalSafe f (as_read (now state)) (Some w) 0 0 (kept.bases ++ after w f ∷ []) kept.durable start.moment state × KeepsLeaves f (Some w) state (leaves_in volume) → IsCoreSafe begun start state after_it
        with_writing made =
            let w : Writing = made.0 in
            let next_is : w.next ≡ next = made.2 in
            let blocks_are : w.blocks ≡ blocks = made.3 in
            let w_leaves : All IsOfLeaf w.next.entry.updates = subst (λ (n : FoundEntry). All IsOfLeaf n.entry.updates) (sym next_is) are_of_leaves in
            let w_keys : w.trees.keys ≡ with_updates w.next.entry.updates f.trees.keys = subst (λ (n : FoundEntry). w.trees.keys ≡ with_updates n.entry.updates f.trees.keys) (sym next_is) made.4 in
            let w_sequence : w.next.entry.sequence ≡ f.last.entry.sequence + 1 = subst (λ (n : FoundEntry). n.entry.sequence ≡ f.last.entry.sequence + 1) (sym next_is) sequence in
            let w_commits : f.last.entry.commits ≤ w.next.entry.commits = subst (λ (n : FoundEntry). f.last.entry.commits ≤ n.entry.commits) (sym next_is) (let known = kept.known.commits in omega (arith, known, rises)) in
            let w_roots : All IsLeafRoot w.next.entry.roots = subst (λ (n : FoundEntry). All IsLeafRoot n.entry.roots) (sym next_is) leaf_roots in
            let led : IsLed f (after w f) = record { w = w; is = refl; sequence = w_sequence; commits = w_commits; roots = w_roots; leaves = w_leaves; keys = w_keys } in
            let count : length blocks ≡ parts_of entry = are_blocks.count in
            let same_count : length w.blocks ≡ length blocks = ap (λ (bs : List (List ℕ)). length bs) blocks_are in
            record {
              f = f;
              image = as_read (now state);
              writing = Some w;
              asked = 0;
              written = 0;
              bases = kept.bases ++ after w f ∷ [];
              durable = kept.durable;
              safe = made.5;
              begins = first_stays kept.bases (after w f ∷ []) begun kept.begins;
              chain = chain_push f (after w f) kept.bases kept.durable safe.bases_are kept.chain led;
              past = kept.past;
              flushed = kept.flushed;
              flags = kept.flags;
              known = known_also f volume after_it kept.known refl refl refl;
              starts = subst (λ (n : FoundEntry). AreStarts (volume.writer.starts ++ volume.writer.ring.next ∷ []) (f.needed ++ n ∷ [])) (sym next_is) (starts_push volume.writer.starts f.needed volume.writer.ring.next next starts (omega arith));
              first = kept.first;
              lead = laws.keys.taken volume.queue f.trees.keys (keys_in volume.trees) (subst (λ (o : Option Flight). LeadTo (changes_in o ++ waiting volume.queue) f.trees.keys (keys_in volume.trees)) free kept.lead);
              leaves = later_leaves volume.queue.closed volume.queue kept.leaves;
              one = kept.one;
              kept = made.6;
              flying = record {
                entry = subst (λ (n : FoundEntry). n.entry ≡ record_of (oldest_needed volume) volume.session n.entry.roots (oldest volume.queue)) (sym next_is) refl;
                number = subst (λ (n : FoundEntry). flight_number after_it.writer.ring ≡ n.number) (sym next_is) (omega arith);
                end = subst (λ (n : FoundEntry). n.end ≡ after_it.writer.ring.next) (sym next_is) (ap (λ (n : ℕ). volume.writer.ring.next + n) (sym are_blocks.count));
                blocks = sym blocks_are;
                written_is = refl;
                some = omega (arith, count, same_count, takes_a_block entry);
                few = omega arith;
                asked_for = omega arith;
                leaves = w_leaves;
                keys = w_keys;
              };
            }

  -- The oldest entry that waits is put in flight. It needs the last durable one's oldest or later ones, and has no fewer commits.
  pub flown_on : (new : Volume) → IsFlown volume new → min volume.writer.durable.oldest volume.writer.durable.sequence ≤ oldest_needed volume → DoCommitsRise volume.writer.flight volume.writer.durable.commits (oldest volume.queue).commits → IsCoreSafe begun start state new
  flown_on new flown order rise = subst (IsCoreSafe begun start state) (sym new_is) (by volume.writer.flight kept.writing refl (sealing_is_free volume.writer volume.writer.flight (needs_entry volume) flown.stage.stage_is) kept.asked kept.written kept.safe kept.kept kept.starts kept.flying)
    where
      new_is : new ≡ record volume { queue = without_oldest volume.queue; writer = with_entry new.writer.ring.blocks (oldest volume.queue) (oldest_needed volume) volume.writer }
      new_is = flown.rest ∙ ap (λ (writer : Writer). record volume { queue = without_oldest volume.queue; writer = writer }) flown.sealed.is

      by : (flight : Option Flight) (writing : Option Writing) → volume.writer.flight ≡ flight → flight ≡ None → (asked written : ℕ) → IsJournalSafe kept.f kept.image writing asked written kept.bases kept.durable start.moment state → KeepsLeaves kept.f writing state (leaves_in volume)
          → AreStarts volume.writer.starts (entries_with writing kept.f.needed) → FliesAs kept.f flight writing asked written volume
          → IsCoreSafe begun start state (record volume { queue = without_oldest volume.queue; writer = with_entry new.writer.ring.blocks (oldest volume.queue) (oldest_needed volume) volume.writer })
      by (Some flight) writing flies free asked written safe leaves starts flying = absurd cc
      by None (Some w) flies free asked written safe leaves starts flying = absurd flying
      by None None flies free asked written safe leaves starts flying =
          let at_rest : IsJournalSafe kept.f kept.image None 0 0 kept.bases kept.durable start.moment state =
          subst (λ (n : ℕ). IsJournalSafe kept.f kept.image None 0 n kept.bases kept.durable start.moment state) flying.unwritten
          (subst (λ (n : ℕ). IsJournalSafe kept.f kept.image None n written kept.bases kept.durable start.moment state) flying.unasked safe) in
          flown_one new.writer.ring.blocks new.writer flies at_rest leaves starts flying.end flown.sealed refl order
          (subst (λ (flight : Option Flight). DoCommitsRise flight volume.writer.durable.commits (oldest volume.queue).commits) flies rise)
