-- What is kept of a volume stays so where an entry is put in flight, while it is written, and where it becomes the last durable one.
use Rattle.std.proofs.Common.{◌≡◌, ℕ, ◌+◌, Option, Some, None, List, ◌∷◌, ◌++◌, Bool, true, false, cond, length, take, refl, sym, ap, ◌∙◌, subst, arith}
use denote.Bor.{Bor}
use Rattle.std.specs.Prelude.{◌/◌, ◌==◌, All, Err, IfSome, Ok, OnErr, OnOk, Result, option_copied, slice_set}
use Rattle.std.proofs.lemmas.List.{length-map}
use Rattle.std.proofs.lemmas.Option.{same_Some, none-some as none_some}
use Rattle.btree_map.specs.StandLaws.{stand-with_updates}
use Rattle.btree_map.specs.Trees.{keys_in}
use Rattle.bucket_pool.specs.NodeBuckets.{AreFixed}
use Rattle.bucket_pool.specs.Space.{Space}
use Rattle.journal_writer.specs.Changes.{LeadTo}
use Rattle.journal_writer.specs.FirstLaws.{waiting-behind}
use Rattle.journal_writer.specs.Queues.{AreChanges, IsQueue, Queue, first_with, oldest, waiting, without_oldest}
use Rattle.journal_writer.specs.declared.changes.KeyChanges.{KeyChanges}
use Rattle.journal_writer.specs.declared.changes.Pending.{Pending}
use Rattle.journal_writer.specs.Writers.{Writer, first_flag, flush_before, settled, settled_by, stage_by, step_of, unsettled_by, with_entry, with_flags, with_flushed, with_next_part}
use Rattle.journal_writer.specs.declared.stage.Stage.{Stage}
use Rattle.journal_writer.specs.declared.stage.Stage.TheVariants.{Seal, Settle, WriteEntry}
use Rattle.journal_writer.specs.declared.writer.Flight.{Flight}
use Rattle.journal_ring.specs.Rings.{RingState, with_part}
use Rattle.node_writeback.specs.Durable.{undurable}
use Rattle.vol_types.specs.KeyMaps.{KeyMap, with_updates}
use Rattle.vol_types.specs.KeyMapLaws.{IsKeyMap-with_updates}
use Rattle.vol_types.specs.Limits.{bucket_blocks}
use Rattle.vol_types.specs.Standing.{IsUpdate}
use Rattle.vol_types.specs.declared.layout.Layout.{Layout}
use Rattle.core_volume.specs.Sealing.{oldest_needed}
use Rattle.core_volume.specs.Volumes.{IsPinnedBy, IsRingOf, IsVolume, Volume, changes_in, in_flight, last_sealed, undurable_in}
use Rattle.vol_types.specs.declared.failure.Halt.{Halt}
use Rattle.core_volume.proofs.HeldBack.{flown-held, settled-held}
use Rattle.core_volume.proofs.Pinned.{Grows, first-flown, first-settled, grown-roots, grown-work}

-- A step of an entry in flight is no sealing of one.
flushing_is_not_sealing : (dev : Option ℕ) (stage : Stage) → ¬ (stage ≡ Seal) → ¬ (flush_before dev stage ≡ Seal)
flushing_is_not_sealing None stage other is = other is
flushing_is_not_sealing (Some d) stage other is = absurd cc

stepping_is_not_sealing : (writer : Writer) → step_of writer ≡ Seal → ⊥
stepping_is_not_sealing writer is = by (writer.ring.written == 0) (writer.ring.written == length writer.ring.blocks) is
  where
    write_is : WriteEntry ≡ Seal → ⊥
    write_is e = cc

    settle_is : Settle ≡ Seal → ⊥
    settle_is e = cc

    by : (none all : Bool) → cond none (flush_before (first_flag 0 writer.unsettled) WriteEntry) (cond all (flush_before (first_flag 0 (take writer.ring.mirrors writer.unsettled)) Settle) WriteEntry) ≡ Seal → ⊥
    by true all e = flushing_is_not_sealing _ WriteEntry write_is e
    by false true e = flushing_is_not_sealing _ Settle settle_is e
    by false false e = write_is e

-- No entry is in flight where one is to be sealed.
pub sealing_is_free : (flight : Option Flight) (needed : Bool) (writer : Writer) → stage_by flight needed writer ≡ Seal → flight ≡ None
sealing_is_free None needed writer is = refl
sealing_is_free (Some flight) needed writer is = absurd (stepping_is_not_sealing writer is)

-- the changes of an entry that leaves a queue go before those that are left
abbrev pub TakenLeads : Queue → Type 0
TakenLeads queue = (durable keys : KeyMap) → LeadTo (waiting queue) durable keys → LeadTo ((oldest queue).changes ∷ waiting (without_oldest queue)) durable keys

module _ (old : Volume) (is : IsVolume old) (none : old.writer.flight ≡ None) (mirrors : (without_oldest old.queue).mirrors ≡ old.queue.mirrors) (sequence : (oldest (without_oldest old.queue)).after ≡ (oldest old.queue).after + 1)
    (leads : TakenLeads old.queue) (blocks : List (List ℕ)) where
  -- The oldest entry of the queue is put in flight.
  pub flown-kept : IsVolume (record old { queue = without_oldest old.queue; writer = with_entry blocks (oldest old.queue) (oldest_needed old) old.writer })
  flown-kept =
      let follows : (oldest old.queue).after ≡ old.writer.durable.sequence = is.in_turn.waiting_ones ∙ ap (λ (f : Option Flight). last_sealed f old.writer.durable.sequence) none in
      record {
        placed = is.placed;
        mirrors = mirrors ∙ is.mirrors;
        devices = is.devices;
        fixed = is.fixed;
        ring = record { id = is.ring.id; mirrors = is.ring.mirrors; journal = is.ring.journal };
        in_turn = record { flying = follows; waiting_ones = sequence };
        marked = is.marked;
        held_back = flown-held old.writer old.pins is.held_back (oldest old.queue) follows blocks;
        pinned = grown-roots old.trees.nodes (undurable_in old) (undurable (Some (oldest old.queue)) (without_oldest old.queue)) old.pins grows is.pinned;
        work = grown-work old is.work (without_oldest old.queue) old.space (with_entry blocks (oldest old.queue) (oldest_needed old) old.writer) old.halted grows;
        durable_keys = is.durable_keys;
        are_keys = is.are_keys;
        stand = is.stand;
        lead = leads is.durable_keys (keys_in old.trees) (subst (λ (f : Option Flight). LeadTo (changes_in f ++ waiting old.queue) is.durable_keys (keys_in old.trees)) none is.lead);
      }
    where
      grows : Grows (undurable_in old) (undurable (Some (oldest old.queue)) (without_oldest old.queue))
      grows btree pin is =
          subst (λ (first : Option ℕ). IsPinnedBy first pin) (sym (first-flown btree old.queue)) (subst (λ (f : Option Flight). IsPinnedBy (first_with btree (undurable (in_flight f) old.queue)) pin) none is)

-- the changes of an entry that was in flight are durable
abbrev pub SettledLeads : Type 0
SettledLeads = (changes : KeyChanges) (later : List KeyChanges) (durable keys : KeyMap) → LeadTo (changes ∷ later) durable keys → LeadTo later (with_updates changes.updates durable) keys

-- the updates of an entry in flight may be made
abbrev pub MayBeMade : Option Flight → Type 0
MayBeMade flight = IfSome flight (λ flight. All IsUpdate flight.entry.changes.updates)

-- They are, where their changes fit an entry.
pub flying-made : (mirrors : ℕ) (result : Option (Bor Pending)) (flight : Option Flight) → option_copied result ≡ in_flight flight → IfSome result (λ entry. AreChanges mirrors entry.now.changes) → MayBeMade flight
flying-made mirrors result None same are = tt
flying-made mirrors None (Some flight) same are = absurd (none_some flight.entry same)
flying-made mirrors (Some entry) (Some flight) same are = subst (λ (e : Pending). All IsUpdate e.changes.updates) (same_Some entry.now flight.entry same) are.updates

-- There are as many devices as the layout has.
count-fixed : (layout : Layout) (space : Space) → AreFixed layout space → length space ≡ length layout.blocks
count-fixed layout space fixed = sym (length-map space length) ∙ ap length fixed.sizes ∙ length-map layout.blocks (λ (blocks : ℕ). blocks / bucket_blocks)

module _ (old : Volume) (is : IsVolume old) (queue : IsQueue old.queue) (leads : SettledLeads) (space : Space) (fixed : AreFixed old.layout space) where
  settled_one : (flight : Flight) → old.writer.flight ≡ Some flight → All IsUpdate flight.entry.changes.updates → IsVolume (record old { writer = settled_by (Some flight) old.writer; space = space })
  settled_one flight flies may =
      let lead : LeadTo (flight.entry.changes ∷ waiting old.queue) is.durable_keys (keys_in old.trees) =
      subst (λ (f : Option Flight). LeadTo (changes_in f ++ waiting old.queue) is.durable_keys (keys_in old.trees)) flies is.lead in
      record {
        placed = is.placed;
        mirrors = is.mirrors;
        devices = count-fixed old.layout space fixed;
        fixed = fixed;
        ring = record { id = is.ring.id; mirrors = is.ring.mirrors; journal = is.ring.journal };
        in_turn = record { flying = tt; waiting_ones = follows };
        marked = is.marked;
        held_back = settled-held old.writer old.pins is.held_back flight flies;
        pinned = grown-roots old.trees.nodes (undurable_in old) (undurable None old.queue) old.pins grows is.pinned;
        work = grown-work old is.work old.queue space (settled_by (Some flight) old.writer) old.halted grows;
        durable_keys = with_updates flight.entry.changes.updates is.durable_keys;
        are_keys = IsKeyMap-with_updates flight.entry.changes.updates is.durable_keys is.are_keys;
        stand = stand-with_updates flight.entry.changes.updates is.durable_keys may is.stand;
        lead = leads flight.entry.changes (waiting old.queue) is.durable_keys (keys_in old.trees) lead;
      }
    where
      follows : (oldest old.queue).after ≡ flight.entry.after + 1
      follows = is.in_turn.waiting_ones ∙ ap (λ (f : Option Flight). last_sealed f old.writer.durable.sequence) flies

      grows : Grows (undurable_in old) (undurable None old.queue)
      grows btree pin before =
          first-settled btree flight.entry old.queue (waiting-behind (flight.entry.after + 1) old.queue queue (omega (arith, follows))) pin
          (subst (λ (f : Option Flight). IsPinnedBy (first_with btree (undurable (in_flight f) old.queue)) pin) flies before)

  -- without an entry in flight
  settled_none : old.writer.flight ≡ None → IsVolume (record old { space = space })
  settled_none none = record {
    placed = is.placed;
    mirrors = is.mirrors;
    devices = count-fixed old.layout space fixed;
    fixed = fixed;
    ring = is.ring;
    in_turn = is.in_turn;
    marked = is.marked;
    held_back = is.held_back;
    pinned = is.pinned;
    work = grown-work old is.work old.queue space old.writer old.halted (λ btree pin before. before);
    durable_keys = is.durable_keys;
    are_keys = is.are_keys;
    stand = is.stand;
    lead = is.lead;
  }

  settled_any : (flight : Option Flight) → old.writer.flight ≡ flight → MayBeMade flight → IsVolume (record old { writer = settled_by flight old.writer; space = space })
  settled_any None flies may = settled_none flies
  settled_any (Some flight) flies may = settled_one flight flies may

  -- The entry in flight becomes the last durable one.
  pub settled-kept : MayBeMade old.writer.flight → IsVolume (record old { writer = settled old.writer; space = space })
  settled-kept may = settled_any old.writer.flight refl may

module _ (old : Volume) (is : IsVolume old) where
  -- A part of the entry in flight is written, or a device flushed: what is in flight and what is durable stay.
  pub part-kept : (ring : RingState) (unsettled : List Bool) → IsRingOf old.layout ring → IsVolume (record old { writer = record old.writer { ring = ring; unsettled = unsettled } })
  part-kept ring unsettled of = record {
    placed = is.placed;
    mirrors = is.mirrors;
    devices = is.devices;
    fixed = is.fixed;
    ring = of;
    in_turn = record { flying = is.in_turn.flying; waiting_ones = is.in_turn.waiting_ones };
    marked = is.marked;
    held_back = record { durable = is.held_back.durable; flight = is.held_back.flight };
    pinned = is.pinned;
    work = grown-work old is.work old.queue old.space (record old.writer { ring = ring; unsettled = unsettled }) old.halted (λ btree pin before. before);
    durable_keys = is.durable_keys;
    are_keys = is.are_keys;
    stand = is.stand;
    lead = is.lead;
  }

  -- So it is whether the part was written or a device failed.
  pub written-kept : {T E : Type 0} (result : Result T E) (writer : Writer) → OnOk result (writer ≡ with_next_part old.writer) → OnErr result (writer ≡ unsettled_by old.writer) → IsVolume (record old { writer = writer })
  written-kept (Ok done) writer ok err =
      subst (λ (w : Writer). IsVolume (record old { writer = w })) (sym ok)
      (part-kept (with_part old.writer.ring) (with_flags old.writer.ring.mirrors old.writer.unsettled) (record { id = is.ring.id; mirrors = is.ring.mirrors; journal = is.ring.journal }))
  written-kept (Err fault) writer ok err =
      subst (λ (w : Writer). IsVolume (record old { writer = w })) (sym err) (part-kept old.writer.ring (with_flags old.writer.ring.mirrors old.writer.unsettled) is.ring)

  -- And whether a device was flushed or failed.
  pub flushed-kept : {T E : Type 0} (dev : ℕ) (result : Result T E) (writer : Writer) → OnOk result (writer ≡ with_flushed dev old.writer) → OnErr result (writer ≡ old.writer) → IsVolume (record old { writer = writer })
  flushed-kept dev (Ok done) writer ok err =
      subst (λ (w : Writer). IsVolume (record old { writer = w })) (sym ok) (part-kept old.writer.ring (slice_set old.writer.unsettled dev false) is.ring)
  flushed-kept dev (Err fault) writer ok err = subst (λ (w : Writer). IsVolume (record old { writer = w })) (sym err) is

  -- The session stops writing.
  pub halted-kept : (halted : Option Halt) → IsVolume (record old { halted = halted })
  halted-kept halted = record {
    placed = is.placed;
    mirrors = is.mirrors;
    devices = is.devices;
    fixed = is.fixed;
    ring = is.ring;
    in_turn = is.in_turn;
    marked = is.marked;
    held_back = is.held_back;
    pinned = is.pinned;
    work = grown-work old is.work old.queue old.space old.writer halted (λ btree pin before. before);
    durable_keys = is.durable_keys;
    are_keys = is.are_keys;
    stand = is.stand;
    lead = is.lead;
  }
