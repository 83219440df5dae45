-- The core stays safe where the frozen leaves are put in place of the roots: all are written and settled, and the old buckets wait for the open entry.
use Rattle.std.proofs.Common.{◌≡◌, ◌≢◌, ◌≤◌, ◌<◌, ◌+◌, ℕ, List, [], ◌∷◌, ◌++◌, get_or, map, take, Option, Some, None, refl, sym, ap, subst, ◌∙◌, ⊎_elim, arith}
use Rattle.std.proofs.lemmas.List.{append-nil}
use Rattle.std.proofs.lemmas.List.Elements.{All-map}
use Rattle.std.specs.List.{AllPairs}
use Rattle.std.specs.Ordering.{nat_cmp}
use Rattle.std.specs.Prelude.{All, IfSome}
use Rattle.birth_index.specs.Births.{BirthsDiffer, levels_of}
use Rattle.birth_index.specs.Exchanges.{HaveOneNode, exchanged, one_node, only_name}
use Rattle.bucket_pool.specs.Space.{emptied_all}
use Rattle.crash_safety.specs.KeptLeaves.{KeepsLeaves}
use Rattle.crash_safety.specs.CheckpointLeaves.{FreshLeaf, placed_pins, placed_roots, replaced_places}
use Rattle.crash_safety.specs.LeafSteps.{AreSameLeaves, MayBePlaced, placed}
use Rattle.core_volume.specs.Checkpoints.{AreInPlace}
use Rattle.core_volume.specs.Volumes.{IsVolume, Volume, last_sealed}
use Rattle.dev_model.specs.Devices.{DevicesState, now}
use Rattle.journal_writer.specs.Queues.{AreFollowed, first_of}
use Rattle.journal_writer.specs.declared.changes.Pending.{Pending}
use Rattle.journal_writer.specs.Writers.{first_flag}
use Rattle.journal_writer.specs.declared.writer.Flight.{Flight}
use Rattle.image_view.specs.Found.{Found}
use Rattle.crash_safety.specs.Flushes.{AreSettled}
use Rattle.crash_safety.specs.Writings.{Writing}
use Rattle.node_writeback.specs.Due.{root_in, root_of}
use Rattle.node_writeback.specs.Placing.{AreFrozenLeaves, IsFrozenLeaf, exchanges_of, moved_pins, places_of}
use Rattle.node_writeback.specs.NodeWork.{first_left, frozen_nodes, left_nodes, no_work}
use Rattle.node_writeback.specs.declared.node.FrozenNode.{FrozenNode}
use Rattle.node_writeback.specs.declared.node.UnfinishedNode.{UnfinishedNode}
use Rattle.record_codec.specs.declared.entries.EntryRecord.{EntryRecord}
use Rattle.tree_nodes.specs.Levels.{Levels}
use Rattle.vol_types.specs.Limits.{bucket_blocks}
use Rattle.vol_types.specs.Maps.{value_at}
use Rattle.vol_types.specs.declared.layout.Layout.{Layout}
use Rattle.vol_types.specs.declared.pointers.NodePtr.{NodePtr}
use Rattle.vol_types.specs.declared.pointers.Place.{Place}
use Rattle.vol_types.specs.declared.positions.Btree.{Btree}
use Rattle.vol_core.specs.Entries.{FliesAs}
use Rattle.vol_core.specs.Safety.{IsCoreSafe}
use Rattle.vol_core.specs.VolumeLeaves.{fresh_leaf, fresh_leaves, leaves_in, leaves_left}
use Rattle.vol_core.specs.CoreLaws.{CoreLaws}
use Rattle.vol_core.proofs.NodeStages.{none_left, placing_is}
use Rattle.vol_core.proofs.OneNodes.{births_differ, root_born, root_named}
use Rattle.vol_core.proofs.OtherLeaves.{NodesKnown, other_leaves_on, with_known}
use Rattle.core_volume.specs.Volumes.{KeepParts}
use Rattle.vol_core.proofs.PlacedRoots.{IsLeftRoot, IsPlacedRoot, pairs_map, placed_or_left, replaced_are}
use Rattle.vol_core.proofs.Stages.{clear_is_unset, flags_clear}

-- The entry that is written, if one is, follows the last durable one, and those that wait follow it.
pub flight_follows : (f : Found) (flight : Option Flight) (writing : Option Writing) (asked written : ℕ) (volume : Volume) → FliesAs f flight writing asked written volume → IfSome flight (λ some. some.entry.after ≡ volume.writer.durable.sequence)
    → IfSome writing (λ w. (w.next.entry.sequence ≡ volume.writer.durable.sequence + 1) × (w.next.entry.sequence ≡ last_sealed flight volume.writer.durable.sequence))
flight_follows f None None asked written volume flies after = tt
flight_follows f None (Some w) asked written volume flies after = absurd flies
flight_follows f (Some flight) None asked written volume flies after = absurd flies
flight_follows f (Some flight) (Some w) asked written volume flies after =
    let sequence : w.next.entry.sequence ≡ flight.entry.after + 1 = ap (λ (e : EntryRecord). e.sequence) flies.entry in
    (sequence ∙ ap (λ (n : ℕ). n + 1) after, sequence)

-- The oldest of the entries that wait isn't behind the open one.
oldest_before : (mirrors : ℕ) (closed : List Pending) (open_entry : Pending) → AreFollowed mirrors closed open_entry → (first_of closed open_entry).after ≤ open_entry.after
oldest_before mirrors [] open_entry followed = omega arith
oldest_before mirrors (entry ∷ later) open_entry followed =
    let here = followed.0.sequence in
    let low = oldest_before mirrors later open_entry followed.1 in
    omega (arith, here, low)

-- What is put in flight isn't before the last durable entry.
sealed_from : (flight : Option Flight) (durable : ℕ) → IfSome flight (λ some. some.entry.after ≡ durable) → durable ≤ last_sealed flight durable
sealed_from None durable after = omega arith
sealed_from (Some flight) durable after = omega (arith, after)

written_before : (writing : Option Writing) (durable sealed next : ℕ) → IfSome writing (λ w. (w.next.entry.sequence ≡ durable + 1) × (w.next.entry.sequence ≡ sealed)) → sealed < next → IfSome writing (λ w. w.next.entry.sequence < next)
written_before None durable sealed next follows low = tt
written_before (Some w) durable sealed next follows low = let is = follows.1 in omega (arith, is, low)

module _ (laws : CoreLaws) (begun : Found) (start : DevicesState) (old : Volume) (is : IsVolume old) (parts : KeepParts old) (state : DevicesState) (kept : IsCoreSafe begun start state old) where
  abbrev nodes : List Levels
  nodes = old.trees.nodes

  abbrev finished : List FrozenNode
  finished = old.work.finished

  abbrev placed_nodes : List Levels
  placed_nodes = exchanged (exchanges_of finished) nodes

  abbrev placed_numbers : List (ℕ × ℕ)
  placed_numbers = moved_pins finished old.later old.pins

  abbrev next : ℕ
  next = old.queue.open_entry.after + 1

  abbrev whole : List FreshLeaf
  whole = map (fresh_leaf old.later bucket_blocks) finished

  -- ---- sequences

  oldest_low : last_sealed old.writer.flight old.writer.durable.sequence < next
  oldest_low =
      let low = oldest_before old.queue.mirrors old.queue.closed old.queue.open_entry parts.queue.followed in
      let after = is.in_turn.waiting_ones in
      omega (arith, low, after)

  behind : kept.f.last.entry.sequence < next
  behind =
      let same = kept.known.sequence in
      let low = oldest_low in
      let from = sealed_from old.writer.flight old.writer.durable.sequence is.in_turn.flying in
      omega (arith, same, low, from)

  behind_writing : IfSome kept.writing (λ w. w.next.entry.sequence < next)
  behind_writing =
      written_before kept.writing old.writer.durable.sequence (last_sealed old.writer.flight old.writer.durable.sequence) next
      (flight_follows kept.f old.writer.flight kept.writing kept.asked kept.written old kept.flying is.in_turn.flying) oldest_low

  module _ (new : Volume) (gives : AreInPlace old new) where
    stage_parts : (first_left old.work ≡ None) × (first_flag 0 (take old.writer.ring.mirrors old.writer.unsettled) ≡ None)
    stage_parts = placing_is old gives.stage.stage_is

    all_finished : frozen_nodes old.work ≡ finished
    all_finished = ap (λ (u : Option UnfinishedNode). finished ++ left_nodes u) (none_left old.work.unfinished stage_parts.0) ∙ append-nil finished

    all_whole : fresh_leaves old.later old.work ≡ whole
    all_whole = ap (λ (u : Option UnfinishedNode). whole ++ leaves_left old.later u) (none_left old.work.unfinished stage_parts.0) ∙ append-nil whole

    are : AreFrozenLeaves nodes old.pins finished
    are = subst (AreFrozenLeaves nodes old.pins) all_finished is.work.leaves

    differ : BirthsDiffer nodes
    differ = births_differ nodes kept.one kept.kept.births

    -- ---- the leaves may be put in place

    settled : AreSettled kept.f.layout.metadata_replicas (now state)
    settled =
        let mirrors : old.layout.metadata_replicas ≡ kept.f.layout.metadata_replicas = ap (λ (l : Layout). l.metadata_replicas) (sym kept.known.layout) in
        let none : first_flag 0 (take old.layout.metadata_replicas old.writer.unsettled) ≡ None = ap (λ (m : ℕ). first_flag 0 (take m old.writer.unsettled)) (sym is.ring.mirrors) ∙ stage_parts.1 in
        subst (λ (m : ℕ). AreSettled m (now state)) mirrors
        (laws.flags.settled old.layout.metadata_replicas old.writer.unsettled (now state) kept.flushed
        (λ dev low. clear_is_unset old.writer.unsettled dev (flags_clear 0 old.layout.metadata_replicas old.writer.unsettled none kept.flags dev low)))

    all_written : All (λ (fresh : FreshLeaf). fresh.written ≡ bucket_blocks) (fresh_leaves old.later old.work)
    all_written = subst (All (λ (fresh : FreshLeaf). fresh.written ≡ bucket_blocks)) (sym all_whole) (All-map (λ (fresh : FreshLeaf). fresh.written ≡ bucket_blocks) (fresh_leaf old.later bucket_blocks) finished (λ k d within. refl))

    may : MayBePlaced (leaves_in old)
    may =
        let Apart : FreshLeaf → FreshLeaf → Type 0 = λ one other. (one.btree ≢ other.btree) × (one.node.birth ≢ other.node.birth) in
        let Unborn : FreshLeaf → Type 0 = λ fresh. (btree : Btree) → (root_in nodes btree).birth ≢ fresh.node.birth in
        record {
          btrees = subst (AllPairs Apart) (sym all_whole) (pairs_map Apart (fresh_leaf old.later bucket_blocks) finished (λ i j d less within. let apart = are.apart i j d less within in (apart.btrees, apart.births)));
          births = subst (All Unborn) (sym all_whole) (All-map Unborn (fresh_leaf old.later bucket_blocks) finished (λ k d within btree same. (are.each k d within).unused (only_name btree) (root_born nodes kept.one btree ∙ ap Some same)));
        }

    leaves : KeepsLeaves kept.f kept.writing state (placed next (leaves_in old))
    leaves = laws.leaves.places kept.f kept.writing state (leaves_in old) next kept.kept settled all_written may behind behind_writing

    -- ---- the leaves are those in memory

    -- What is known of a leaf in place: it is its btree, and pins what was noted.
    abbrev IsInPlace : FrozenNode → Type 0
    IsInPlace node = (levels_of placed_nodes node.btree ≡ one_node node.fresh) × (value_at nat_cmp node.fresh.birth placed_numbers ≡ value_at nat_cmp node.birth old.later)

    in_place : All IsInPlace finished
    in_place k d within = (laws.places.leaves nodes old.pins finished are k d within, laws.places.pins nodes old.pins old.later finished parts.dirty.pinned differ are k d within)

    -- a frozen leaf has the birth of the root of its btree
    root_birth : (node : FrozenNode) → IsFrozenLeaf nodes old.pins node → (root_in nodes node.btree).birth ≡ node.birth
    root_birth node frozen = ap (λ (levels : Levels). (root_of levels).birth) frozen.alone ∙ frozen.birth

    abbrev old_pin : Btree → Option ℕ
    old_pin btree = value_at nat_cmp (root_in nodes btree).birth old.pins

    abbrev IsSame : Btree → Type 0
    IsSame btree = ((root_in placed_nodes btree) ≡ (placed next (leaves_in old)).root btree) × (value_at nat_cmp (root_in placed_nodes btree).birth placed_numbers ≡ (placed next (leaves_in old)).pin btree)

    same_root : (btree : Btree) → IsSame btree
    same_root btree = ⊎_elim
        (λ (it : IsPlacedRoot old.later IsInPlace finished (root_in nodes) old_pin btree).
        let root : root_in placed_nodes btree ≡ it.node.fresh = ap (root_in placed_nodes) (sym it.of) ∙ ap root_of it.known.0 in (
          root ∙ sym it.root_is ∙ ap (λ (fresh : List FreshLeaf). placed_roots fresh (root_in nodes) btree) (sym all_whole),
          ap (λ (r : NodePtr). value_at nat_cmp r.birth placed_numbers) root ∙ it.known.1 ∙ sym it.pin_is ∙ ap (λ (fresh : List FreshLeaf). placed_pins fresh old_pin btree) (sym all_whole),
        ))
        (λ (it : IsLeftRoot old.later IsInPlace finished (root_in nodes) old_pin btree).
        let root : root_in placed_nodes btree ≡ root_in nodes btree = ap root_of (laws.places.others nodes finished btree it.others) in
        let apart : All (λ (node : FrozenNode). (node.birth ≢ (root_in nodes btree).birth) × (node.fresh.birth ≢ (root_in nodes btree).birth)) finished = λ k d within.
        let frozen = are.each k d within in (
          λ same. it.others k d within (kept.kept.births (get_or finished k d).btree btree (root_birth (get_or finished k d) frozen ∙ same)),
          λ same. frozen.unused (only_name btree) (root_born nodes kept.one btree ∙ ap Some (sym same)),
        ) in (
          root ∙ sym it.root_is ∙ ap (λ (fresh : List FreshLeaf). placed_roots fresh (root_in nodes) btree) (sym all_whole),
          ap (λ (r : NodePtr). value_at nat_cmp r.birth placed_numbers) root ∙ laws.places.other_pins old.pins old.later finished (root_in nodes btree).birth parts.dirty.pinned apart
              ∙ sym it.pin_is ∙ ap (λ (fresh : List FreshLeaf). placed_pins fresh old_pin btree) (sym all_whole),
        ))
        (placed_or_left old.later IsInPlace finished (root_in nodes) old_pin btree in_place)

    abbrev known : NodesKnown
    known = record {
      nodes = placed_nodes;
      pins = placed_numbers;
      marks = moved_pins finished old.later old.marks;
      later = [];
      space = emptied_all (places_of gives.replaced) next old.space;
      work = no_work old.work.born;
      emptied = next;
      changes = old.changes + 1;
    }

    pub same_places : places_of gives.replaced ≡ replaced_places (fresh_leaves old.later old.work) (root_in nodes)
    same_places =
        replaced_are old.later nodes (root_in nodes) (root_named nodes kept.one) finished gives.replaced gives.before.names gives.before.pointers ∙ ap (λ (fresh : List FreshLeaf). replaced_places fresh (root_in nodes)) (sym all_whole)

    same : AreSameLeaves (placed next (leaves_in old)) (leaves_in (with_known known old))
    same = record {
      root = λ btree. (same_root btree).0;
      pin = λ btree. (same_root btree).1;
      fresh = refl;
      space = ap (λ (places : List Place). emptied_all places next old.space) same_places;
    }

    one : HaveOneNode placed_nodes
    one = laws.exchanges.stay nodes (exchanges_of finished) kept.one (laws.places.of_roots finished)

    -- The core stays safe where the frozen leaves are put in place.
    pub placed_on : IsCoreSafe begun start state new
    placed_on = subst (IsCoreSafe begun start state) (sym gives.rest) (other_leaves_on begun start state old kept known one (laws.entries.same kept.f kept.writing state _ _ leaves same))
