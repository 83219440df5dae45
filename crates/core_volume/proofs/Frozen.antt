-- What is kept of a volume stays so where a leaf is frozen, where a block of one is written, and where the work on nodes is given up.
use Rattle.std.proofs.Common.{◌≡◌, ℕ, zero, suc, ◌+◌, ◌<◌, ◌≤◌, Bool, true, false, cond, not, Option, Some, None, List, [], ◌∷◌, ◌++◌, length, take, refl, sym, ap, ◌∙◌, subst, arith, append-nil}
use Rattle.std.specs.Prelude.{◌≢◌, ◌==◌, ◌&&◌, All, IfSome, option_map, slice_get, slice_index_or}
use Rattle.std.specs.List.{filter}
use Rattle.std.specs.Map.{values_of}
use Rattle.std.specs.Ordering.{nat_cmp}
use Rattle.std.proofs.lemmas.Bool.{and_parts, eq-eqb, leb-true, true≢false}
use Rattle.std.proofs.lemmas.Cmp.{nat_cmp_total}
use Rattle.std.proofs.lemmas.List.{length-map, length-take}
use Rattle.std.proofs.lemmas.List.Elements.{All-contains, All-nil, All-pop, All-push}
use Rattle.std.proofs.lemmas.List.Folds.{list_any_at}
use Rattle.std.proofs.lemmas.Option.{same_Some, none-some as none_some}
use Rattle.birth_index.specs.Births.{birth_of, levels_of}
use Rattle.birth_index.specs.NameLaws.{apart_births, birth_itself}
use Rattle.birth_index.specs.declared.name.NodeName.{NodeName}
use Rattle.btree_map.specs.Sizes.{all_btrees}
use Rattle.btree_map.specs.Trees.{Trees, keys_in}
use Rattle.bucket_pool.specs.NodeBuckets.{AreFixed, MayHoldNode}
use Rattle.bucket_pool.specs.Places.{changed, each_from}
use Rattle.bucket_pool.specs.Space.{Space, emptied, emptied_all, have_free, node_place, node_places, noded, settled_space}
use Rattle.journal_writer.specs.Changes.{LeadTo, undone}
use Rattle.journal_writer.specs.Queues.{AreBehind, IsQueue, Queue, first_with, oldest, waiting, waiting_entries}
use Rattle.journal_writer.specs.declared.changes.KeyChanges.{KeyChanges}
use Rattle.journal_writer.specs.declared.changes.Pending.{Pending}
use Rattle.journal_writer.specs.Writers.{unsettled_by}
use Rattle.journal_writer.specs.declared.stage.Stage.{Stage}
use Rattle.journal_writer.specs.declared.stage.Stage.TheVariants.{CommitNodes, Freeze, WriteSet}
use Rattle.journal_writer.specs.declared.writer.Flight.{Flight}
use Rattle.geometry.specs.LayoutFacts.{room_at}
use Rattle.geometry.specs.Layouts.{have_room, is_layout_of}
use Rattle.node_mem.specs.Nodes.{size_of}
use Rattle.node_store.specs.declared.planning.Blocked.{Blocked}
use Rattle.node_writeback.specs.Due.{is_due, is_frozen, is_pinned_up_to, root_in}
use Rattle.node_writeback.specs.Durable.{changes_in_flight, durable_entries, undurable}
use Rattle.node_writeback.specs.Freezing.{HasBirth, IsFreezeFault, fresh_leaf}
use Rattle.node_writeback.specs.declared.freezing.FreezeFault.{FreezeFault}
use Rattle.node_writeback.specs.declared.freezing.FreezeFault.TheVariants.{NoSpace}
use Rattle.node_writeback.specs.Placing.{AreFrozenLeaves, fresh_places}
use Rattle.node_writeback.specs.NodeWork.{IsUnfinished, NodeWork, advanced, birth_left, frozen_nodes, left_nodes, with_frozen, with_part, with_part_of}
use Rattle.node_writeback.specs.NodeWrites.{HaveBuckets}
use Rattle.node_writeback.specs.declared.node.FrozenNode.{FrozenNode}
use Rattle.node_writeback.specs.declared.node.UnfinishedNode.{UnfinishedNode}
use Rattle.tree_nodes.specs.Levels.{IsNodeOf, IsTree, Levels}
use Rattle.vol_types.specs.KeyMaps.{Entries, IsKeyMap, KeyMap, entries_of}
use Rattle.vol_types.specs.LayoutLaws.{layout_found}
use Rattle.vol_types.specs.Layouts.{is_layout}
use Rattle.vol_types.specs.Limits.{bucket_blocks, node_limit}
use Rattle.vol_types.specs.MapLaws.{value_at-put_at}
use Rattle.vol_types.specs.Maps.{IsMap, put_at, value_at}
use Rattle.vol_types.specs.Standing.{MayStand}
use Rattle.vol_types.specs.declared.layout.Layout.{Layout}
use Rattle.vol_types.specs.declared.pointers.Place.{Place}
use Rattle.vol_types.specs.declared.positions.Btree.{Btree}
use Rattle.core_volume.specs.Checkpoints.{IsNodeStage, IsSpaceless, IsUnfrozen, due_in, durable_in, given_up, with_block}
use Rattle.core_actors.specs.declared.answer.Refusal.TheVariants as refusals
use Rattle.core_volume.specs.declared.commit.VolumeFault.{VolumeFault}
use Rattle.core_volume.specs.declared.commit.VolumeFault.TheVariants as volume_faults
use Rattle.core_volume.specs.Sealing.{with_writer}
use Rattle.core_volume.specs.Volumes.{IsFrozenKept, IsNotNewer, IsPinnedBy, IsVolume, Volume, birth_due, changes_in, in_flight, last_sealed, node_stage_by, node_stage_of, undurable_in}

-- The first of the members that pass a test passes it.
first_passes : {X : Type 0} (p : X → Bool) (x : X) (xs : List X) → slice_get (filter p xs) 0 ≡ Some x → p x ≡ true
first_passes p x [] is = absurd (none_some x is)
first_passes p x (y ∷ ys) is = by (p y) refl is (first_passes p x ys)
  where
    by : (b : Bool) → p y ≡ b → slice_get (cond b (y ∷ filter p ys) (filter p ys)) 0 ≡ Some x → (slice_get (filter p ys) 0 ≡ Some x → p x ≡ true) → p x ≡ true
    by true passes same rest = ap p (sym (same_Some y x same)) ∙ passes
    by false fails same rest = rest same

-- A list changed place by place is as long.
length-each_from : {X Y : Type 0} (f : ℕ → X → Y) (first : ℕ) (xs : List X) → length (each_from f first xs) ≡ length xs
length-each_from f first [] = refl
length-each_from f first (x ∷ xs) = ap suc (length-each_from f (suc first) xs)

length-changed : {X : Type 0} (f : X → X) (at : ℕ) (xs : List X) → length (changed f at xs) ≡ length xs
length-changed f at [] = refl
length-changed f zero (x ∷ xs) = refl
length-changed f (suc at) (x ∷ xs) = ap suc (length-changed f at xs)

-- Devices stay, where buckets are emptied.
pub length-emptied_all : (places : List Place) (sequence : ℕ) (space : Space) → length (emptied_all places sequence space) ≡ length space
length-emptied_all [] sequence space = refl
length-emptied_all (place ∷ places) sequence space = length-emptied_all places sequence (emptied place sequence space) ∙ length-changed _ place.dev space

-- where a bucket is emptied, the superblocks and the journal stay
abbrev pub EmptiedFixed : Type 0
EmptiedFixed = (layout : Layout) (place : Place) (sequence : ℕ) (space : Space) → AreFixed layout space → AreFixed layout (emptied place sequence space)

-- So do they where several are.
pub fixed-emptied_all : EmptiedFixed → (layout : Layout) (places : List Place) (sequence : ℕ) (space : Space) → AreFixed layout space → AreFixed layout (emptied_all places sequence space)
fixed-emptied_all one layout [] sequence space fixed = fixed
fixed-emptied_all one layout (place ∷ places) sequence space fixed = fixed-emptied_all one layout places sequence (emptied place sequence space) (one layout place sequence space fixed)

-- the entries of a queue are behind what the first one follows
abbrev pub InTurn : Type 0
InTurn = (sequence : ℕ) (queue : Queue) → IsQueue queue → sequence ≤ (oldest queue).after → AreBehind sequence (waiting_entries queue)

-- The entries that aren't durable are behind the last durable one.
pub undurable_behind : (volume : Volume) → IsVolume volume → IsQueue volume.queue → InTurn → AreBehind volume.writer.durable.sequence (undurable_in volume)
undurable_behind volume is queue turn = by volume.writer.flight is.in_turn.flying is.in_turn.waiting_ones
  where
    by : (o : Option Flight) → IfSome o (λ flight. flight.entry.after ≡ volume.writer.durable.sequence) → (oldest volume.queue).after ≡ last_sealed o volume.writer.durable.sequence
        → AreBehind volume.writer.durable.sequence (undurable (in_flight o) volume.queue)
    by None flies waits = turn volume.writer.durable.sequence volume.queue queue (omega (arith, waits))
    by (Some flight) flies waits = (omega (arith, flies), turn flight.entry.after volume.queue queue (omega (arith, waits)))

-- what is first of the entries behind a sequence that change a btree is behind it
abbrev pub FirstBehind : Type 0
FirstBehind = (btree : Btree) (sequence : ℕ) (entries : List Pending) (first : ℕ) → AreBehind sequence entries → first_with btree entries ≡ Some first → sequence < first

-- changes that are taken back leave what they led from
abbrev pub AreUndone : Type 0
AreUndone = (changes : List KeyChanges) (before after : KeyMap) → IsKeyMap before → LeadTo changes before after → undone changes after ≡ before

flying_changes : (o : Option Flight) → changes_in_flight (in_flight o) ≡ changes_in o
flying_changes None = refl
flying_changes (Some flight) = refl

-- What a btree has by durable entries alone may stand in a leaf.
pub durable-stand : (old : Volume) (is : IsVolume old) → AreUndone → (btree : Btree) (trees : Trees) → trees ≡ old.trees → (flight : Option Pending) → flight ≡ in_flight old.writer.flight
    → All (MayStand btree 0) (values_of (durable_entries flight old.queue trees btree))
durable-stand old is undo btree trees trees_are flight flight_is =
    let same : durable_entries flight old.queue trees btree ≡ entries_of is.durable_keys btree =
    (λ i. durable_entries (flight_is i) old.queue (trees_are i) btree)
    ∙ ap (λ (cs : List KeyChanges). entries_of (undone (cs ++ waiting old.queue) (keys_in old.trees)) btree) (flying_changes old.writer.flight)
    ∙ ap (λ (keys : KeyMap). entries_of keys btree) (undo (changes_in old.writer.flight ++ waiting old.queue) is.durable_keys (keys_in old.trees) is.are_keys is.lead) in
    subst (λ (es : Entries). All (MayStand btree 0) (values_of es)) (sym same) (is.stand btree)

-- There are metadata devices among a volume's devices.
pub mirrors-few : (old : Volume) → IsVolume old → old.layout.metadata_replicas ≤ length old.space
mirrors-few old is = let most = (layout_found old.layout is.placed).metadata.1 in let devices = is.devices in omega (arith, most, devices)

module _ (volume : Volume) where
  idle_in : (stage : Stage) → ((left : ℕ) → WriteSet left ≢ stage) → node_stage_of volume ≡ stage → volume.work.unfinished ≡ None
  idle_in stage other is = by volume.work.unfinished refl is
    where
      by : (o : Option UnfinishedNode) → volume.work.unfinished ≡ o → node_stage_by (birth_left o) (birth_due volume) volume ≡ stage → volume.work.unfinished ≡ None
      by None none same = none
      by (Some unfinished) some same = absurd (other unfinished.node.birth same)

  -- No blocks are left where a leaf is to be frozen.
  pub idle-freezing : (node : ℕ) → node_stage_of volume ≡ Freeze node → volume.work.unfinished ≡ None
  idle-freezing node is = idle_in (Freeze node) (λ left same. cc) is

  -- None are where frozen leaves are to be put in place.
  pub idle-placing : node_stage_of volume ≡ CommitNodes → volume.work.unfinished ≡ None
  idle-placing is = idle_in CommitNodes (λ left same. cc) is

-- The leaf that is to be frozen has the birth that the stage of the nodes names.
pub due_birth : (volume : Volume) (btree : Btree) (node : ℕ) → due_in volume ≡ Some btree → volume.work.unfinished ≡ None → node_stage_of volume ≡ Freeze node → (root_in volume.trees.nodes btree).birth ≡ node
due_birth volume btree node due idle is = same ((λ i. node_stage_by (birth_left (sym idle i)) (option_map (λ (b : Btree). (root_in volume.trees.nodes b).birth) (sym due i)) volume) ∙ is)
  where
    same : Freeze (root_in volume.trees.nodes btree).birth ≡ Freeze node → (root_in volume.trees.nodes btree).birth ≡ node
    same equal = cc

-- a leaf that is due is frozen besides others
abbrev pub MoreFrozen : Type 0
MoreFrozen =
    (durable : ℕ) (nodes : List Levels) (pins : List (ℕ × ℕ)) (frozen : List FrozenNode) (node : FrozenNode) → AreFrozenLeaves nodes pins frozen → IsTree (levels_of nodes node.btree)
    → is_due durable nodes pins frozen node.btree ≡ true → node.birth ≡ (root_in nodes node.btree).birth → IsNodeOf 0 node.fresh
    → ((name : NodeName) → birth_of nodes name ≢ Some node.fresh.birth) → All (λ (other : FrozenNode). other.fresh.birth ≢ node.fresh.birth) frozen → AreFrozenLeaves nodes pins (frozen ++ node ∷ [])

module _ (old : Volume) (is : IsVolume old) (btree : Btree) (due : due_in old ≡ Some btree) where
  abbrev root_birth : ℕ
  root_birth = (root_in old.trees.nodes btree).birth

  -- The leaf is due.
  pub passes : is_due old.writer.durable.sequence old.trees.nodes old.pins old.work.finished btree ≡ true
  passes = first_passes (is_due old.writer.durable.sequence old.trees.nodes old.pins old.work.finished) btree all_btrees due

  due_rest : (not (is_frozen old.work.finished root_birth) ≡ true) × (is_pinned_up_to old.writer.durable.sequence (value_at nat_cmp root_birth old.pins) ≡ true)
  due_rest =
      and_parts (not (is_frozen old.work.finished root_birth)) (is_pinned_up_to old.writer.durable.sequence (value_at nat_cmp root_birth old.pins))
      (and_parts (length (levels_of old.trees.nodes btree) == 1) (not (is_frozen old.work.finished root_birth) && is_pinned_up_to old.writer.durable.sequence (value_at nat_cmp root_birth old.pins)) passes).1

  -- No frozen node has its birth.
  not_frozen : (place : ℕ) (none : FrozenNode) → place < length old.work.finished → (slice_index_or old.work.finished place none).birth ≢ root_birth
  not_frozen place none lt same =
      let found : is_frozen old.work.finished root_birth ≡ true =
      list_any_at (λ (node : FrozenNode). node.birth == root_birth) old.work.finished place none lt (eq-eqb (slice_index_or old.work.finished place none).birth root_birth same) in
      true≢false (sym due_rest.0 ∙ ap not found)

  -- It pins a durable entry.
  pins_durable : (pin : ℕ) → value_at nat_cmp root_birth old.pins ≡ Some pin → pin ≤ old.writer.durable.sequence
  pins_durable pin pins =
      leb-true pin old.writer.durable.sequence (subst (λ (o : Option ℕ). is_pinned_up_to old.writer.durable.sequence o ≡ true) pins due_rest.1)

  module _ (idle : old.work.unfinished ≡ None) (rises : IsMap nat_cmp old.later) (blocked : Blocked) where
    finished_all : frozen_nodes old.work ≡ old.work.finished
    finished_all = ap (λ (u : Option UnfinishedNode). old.work.finished ++ left_nodes u) idle ∙ append-nil old.work.finished

    abbrev first : Option ℕ
    first = first_with btree (undurable_in old)

    abbrev later_now : List (ℕ × ℕ)
    later_now = put_at nat_cmp root_birth first old.later

    abbrev frozen_now : FrozenNode
    frozen_now = record { btree = btree; birth = root_birth; fresh = fresh_leaf old.session old.work.born old.layout.metadata_replicas old.space; blocked = blocked }

    abbrev now : Volume
    now = record old { later = later_now; space = noded old.layout.metadata_replicas old.space; work = with_frozen frozen_now old.work }

    -- What changed another node since it was frozen stays noted.
    noted_other : (birth : ℕ) → birth ≢ root_birth → value_at nat_cmp birth later_now ≡ value_at nat_cmp birth old.later
    noted_other birth other =
        value_at-put_at nat_cmp_total root_birth first birth old.later rises
        ∙ ap (λ (b : Bool). cond b first (value_at nat_cmp birth old.later)) (apart_births root_birth birth (λ same. other (sym same)))

    noted_own : value_at nat_cmp root_birth later_now ≡ first
    noted_own =
        value_at-put_at nat_cmp_total root_birth first root_birth old.later rises
        ∙ ap (λ (b : Bool). cond b first (value_at nat_cmp root_birth old.later)) (birth_itself root_birth)

    -- Another frozen node is kept.
    other_kept : (node : FrozenNode) → node.birth ≢ root_birth → IsFrozenKept old node → IsFrozenKept now node
    other_kept node other kept = record {
      placed = kept.placed;
      born = let born = kept.born in omega (arith, born);
      later = subst (IsPinnedBy (first_with node.btree (undurable_in old))) (sym (noted_other node.birth other)) kept.later;
      since = subst (IsNotNewer (value_at nat_cmp node.birth old.pins)) (sym (noted_other node.birth other)) kept.since;
    }

    first_pinned : IsPinnedBy first first
    first_pinned = λ sequence changes. (sequence, changes, omega arith)

    -- The leaf that is frozen is.
    own_kept : All (MayHoldNode old.layout) frozen_now.fresh.places → ((sequence : ℕ) → first ≡ Some sequence → old.writer.durable.sequence < sequence) → IsFrozenKept now frozen_now
    own_kept placed behind = record {
      placed = placed;
      born = omega arith;
      later = subst (IsPinnedBy first) (sym noted_own) first_pinned;
      since = subst (IsNotNewer (value_at nat_cmp root_birth old.pins)) (sym noted_own)
          (λ pin sequence pins changes. let le = pins_durable pin pins in let lt = behind sequence changes in omega (arith, le, lt));
    }

    -- What is written of it is a leaf.
    fresh_is : HasBirth old.session old.work.born old.trees.nodes → All (λ (place : Place). (place.dev < old.layout.metadata_replicas) × MayHoldNode old.layout place) frozen_now.fresh.places → IsNodeOf 0 frozen_now.fresh
    fresh_is has placed =
        let metadata = (layout_found old.layout is.placed).metadata in
        let least = metadata.0 in
        let most = metadata.1 in
        let count = length-each_from node_place 0 (take old.layout.metadata_replicas old.space) in
        let taken = length-take old.layout.metadata_replicas old.space in
        let devices = is.devices in
        record {
          numbered = refl;
          in_range = record {
            level = omega arith;
            copies = (omega (arith, least, most, count, taken, devices), omega (arith, least, most, count, taken, devices));
            each = λ place none lt. let dev = (placed place none lt).0 in record { device = omega (arith, dev, most); first = (placed place none lt).1.begins };
          };
        }

    -- A volume in which a leaf was frozen is kept.
    pub frozen-kept : (more : MoreFrozen) (tree : IsTree (levels_of old.trees.nodes btree)) → HasBirth old.session old.work.born old.trees.nodes
        → All (λ (place : Place). (place.dev < old.layout.metadata_replicas) × MayHoldNode old.layout place) (node_places old.layout.metadata_replicas old.space)
        → AreFixed old.layout (noded old.layout.metadata_replicas old.space) → FirstBehind → InTurn → IsQueue old.queue → IsVolume now
    frozen-kept more tree has placed fixed behind turn queue =
        let each : All (IsFrozenKept old) old.work.finished = subst (All (IsFrozenKept old)) finished_all is.work.each in
        let leaves : AreFrozenLeaves old.trees.nodes old.pins old.work.finished = subst (AreFrozenLeaves old.trees.nodes old.pins) finished_all is.work.leaves in
        record {
          placed = is.placed;
          mirrors = is.mirrors;
          devices = length-each_from _ 0 old.space ∙ is.devices;
          fixed = fixed;
          ring = is.ring;
          in_turn = is.in_turn;
          marked = is.marked;
          held_back = is.held_back;
          pinned = is.pinned;
          work = record {
            leaves = more old.writer.durable.sequence old.trees.nodes old.pins old.work.finished frozen_now leaves tree passes refl (fresh_is has placed) has.unused
                (λ place none lt same. let born = (each place none lt).born in omega (arith, born, same));
            each = All-push (IsFrozenKept now) old.work.finished frozen_now
                (λ place none lt. other_kept (slice_index_or old.work.finished place none) (not_frozen place none lt) (each place none lt))
                (own_kept (λ place none lt. (placed place none lt).1) (λ sequence changes. behind btree old.writer.durable.sequence (undurable_in old) sequence (undurable_behind old is queue turn) changes));
          };
          durable_keys = is.durable_keys;
          are_keys = is.are_keys;
          stand = is.stand;
          lead = is.lead;
        }

-- Work with the same frozen nodes, and as many births, is kept.
pub worked-kept : (old : Volume) → IsVolume old → (work : NodeWork) → frozen_nodes work ≡ frozen_nodes old.work → work.born ≡ old.work.born → IsVolume (record old { work = work })
worked-kept old is work same born = record {
  placed = is.placed;
  mirrors = is.mirrors;
  devices = is.devices;
  fixed = is.fixed;
  ring = is.ring;
  in_turn = is.in_turn;
  marked = is.marked;
  held_back = is.held_back;
  pinned = is.pinned;
  work = record {
    leaves = subst (AreFrozenLeaves old.trees.nodes old.pins) (sym same) is.work.leaves;
    each = subst (All (IsFrozenKept (record old { work = work }))) (sym same)
        (λ place none lt.
        let kept = is.work.each place none lt in
        let before = kept.born in
        record { placed = kept.placed; born = omega (arith, before, born); later = kept.later; since = kept.since });
  };
  durable_keys = is.durable_keys;
  are_keys = is.are_keys;
  stand = is.stand;
  lead = is.lead;
}

-- Flags of what is unsettled change nothing that is kept.
pub unsettled-kept : (old : Volume) → IsVolume old → IsVolume (with_writer (unsettled_by old.writer) old)
unsettled-kept old is = record {
  placed = is.placed;
  mirrors = is.mirrors;
  devices = is.devices;
  fixed = is.fixed;
  ring = record { id = is.ring.id; mirrors = is.ring.mirrors; journal = is.ring.journal };
  in_turn = record { flying = is.in_turn.flying; waiting_ones = is.in_turn.waiting_ones };
  marked = is.marked;
  held_back = record { durable = is.held_back.durable; flight = is.held_back.flight };
  pinned = is.pinned;
  work = record {
    leaves = is.work.leaves;
    each = λ place none lt.
        let kept = is.work.each place none lt in record { placed = kept.placed; born = kept.born; later = kept.later; since = kept.since };
  };
  durable_keys = is.durable_keys;
  are_keys = is.are_keys;
  stand = is.stand;
  lead = is.lead;
}

-- A block of a frozen node leaves the frozen nodes as they are.
frozen-advanced : (unfinished : UnfinishedNode) (work : NodeWork) → frozen_nodes (advanced unfinished work) ≡ work.finished ++ unfinished.node ∷ []
frozen-advanced unfinished work = by (unfinished.written + 1 == bucket_blocks)
  where
    by : (b : Bool) → frozen_nodes (cond b (record { finished = work.finished ++ unfinished.node ∷ []; unfinished = None; born = work.born })
        (record { finished = work.finished; unfinished = Some (record { node = unfinished.node; written = unfinished.written + 1 }); born = work.born }))
        ≡ work.finished ++ unfinished.node ∷ []
    by true = append-nil (work.finished ++ unfinished.node ∷ [])
    by false = refl

born-advanced : (unfinished : UnfinishedNode) (work : NodeWork) → (advanced unfinished work).born ≡ work.born
born-advanced unfinished work = by (unfinished.written + 1 == bucket_blocks)
  where
    by : (b : Bool) → (cond {A = NodeWork} b (record { finished = work.finished ++ unfinished.node ∷ []; unfinished = None; born = work.born })
        (record { finished = work.finished; unfinished = Some (record { node = unfinished.node; written = unfinished.written + 1 }); born = work.born })).born
        ≡ work.born
    by true = refl
    by false = refl

frozen-part : (work : NodeWork) → frozen_nodes (with_part work) ≡ frozen_nodes work
frozen-part work = by work.unfinished refl
  where
    by : (o : Option UnfinishedNode) → work.unfinished ≡ o → frozen_nodes (with_part_of o work) ≡ work.finished ++ left_nodes o
    by None none = ap (λ (u : Option UnfinishedNode). work.finished ++ left_nodes u) none
    by (Some unfinished) some = frozen-advanced unfinished work

born-part : (work : NodeWork) → (with_part work).born ≡ work.born
born-part work = by work.unfinished
  where
    by : (o : Option UnfinishedNode) → (with_part_of o work).born ≡ work.born
    by None = refl
    by (Some unfinished) = born-advanced unfinished work

-- A volume of which one more block of a frozen node was written is kept.
pub block-kept : (old : Volume) → IsVolume old → IsVolume (with_block old)
block-kept old is = worked-kept (with_writer (unsettled_by old.writer) old) (unsettled-kept old is) (with_part old.work) (frozen-part old.work) (born-part old.work)

-- A volume in which the work on nodes was given up is kept.
pub given_up-kept : (old : Volume) → IsVolume old → ((nodes : List Levels) (pins : List (ℕ × ℕ)) → AreFrozenLeaves nodes pins []) → EmptiedFixed
    → ((layout : Layout) (space : Space) → AreFixed layout space → AreFixed layout (settled_space old.writer.durable.sequence space)) → IsVolume (given_up old)
given_up-kept old is none emptied_fixed settled_fixed =
    let places = fresh_places old.work.finished in
    let emptied_space = emptied_all places old.writer.durable.sequence old.space in
    record {
      placed = is.placed;
      mirrors = is.mirrors;
      devices = length-map emptied_space _ ∙ length-emptied_all places old.writer.durable.sequence old.space ∙ is.devices;
      fixed = settled_fixed old.layout emptied_space (fixed-emptied_all emptied_fixed old.layout places old.writer.durable.sequence old.space is.fixed);
      ring = is.ring;
      in_turn = is.in_turn;
      marked = is.marked;
      held_back = is.held_back;
      pinned = is.pinned;
      work = record { leaves = none old.trees.nodes old.pins; each = All-nil (IsFrozenKept (given_up old)) };
      durable_keys = is.durable_keys;
      are_keys = is.are_keys;
      stand = is.stand;
      lead = is.lead;
    }

-- Where there is no free bucket, the leaf isn't frozen, and the work on nodes has ended.
pub unfrozen-spaceless : (node : ℕ) (old before new : Volume) (btree : Btree) → IsNodeStage (Freeze node) old → due_in old ≡ Some btree → before ≡ old
    → (cause : FreezeFault) → cause ≡ NoSpace → IsFreezeFault old.session old.work.born node old.layout.metadata_replicas old.trees.nodes (durable_in old btree) old.space cause
    → (why : VolumeFault) → IsSpaceless before new why → IsUnfrozen node old new why
unfrozen-spaceless node old before new btree stage due same cause cause_is found why is = by why (subst (λ (v : Volume). IsSpaceless v new why) same is)
  where
    fault : HasBirth old.session old.work.born old.trees.nodes × (size_of (durable_in old btree) ≤ node_limit) × (have_free old.layout.metadata_replicas old.space ≡ false)
    fault = subst (IsFreezeFault old.session old.work.born node old.layout.metadata_replicas old.trees.nodes (durable_in old btree) old.space) cause_is found

    by : (w : VolumeFault) → IsSpaceless old new w → IsUnfrozen node old new w
    by (volume_faults.Refused (refusals.NoSpace none)) said = ((stage, fault.0, btree, due, fault.1, fault.2, said.0), said.1)
    by (volume_faults.Refused (refusals.Halted halt)) said = absurd said
    by (volume_faults.Refused refusals.Spent) said = absurd said
    by (volume_faults.Refused (refusals.NeedSplit need)) said = absurd said
    by (volume_faults.Refused (refusals.RingFull full)) said = absurd said
    by volume_faults.NoMemory said = said

-- The devices have the buckets in which nodes may lie.
pub buckets_there : (sizes : List ℕ) (layout : Layout) → is_layout_of sizes layout ≡ true → (places : List Place) → All (MayHoldNode layout) places → HaveBuckets sizes places
buckets_there sizes layout is places may place has n lt =
    let there : MayHoldNode layout place = All-contains (MayHoldNode layout) places place may has in
    let room = room_at layout.blocks sizes (and_parts (is_layout layout) (have_room layout.blocks sizes) is).1 place.dev in
    let within = there.within in
    omega (arith, room, within, lt)

-- They have those of the node of which blocks are left, where that lies at its places.
pub unfinished_there : (old : Volume) → IsVolume old → (sizes : List ℕ) → is_layout_of sizes old.layout ≡ true → IfSome old.work.unfinished IsUnfinished
    → IfSome old.work.unfinished (λ unfinished. HaveBuckets sizes unfinished.node.blocked.places)
unfinished_there old is sizes layout whole = by old.work.unfinished refl whole
  where
    by : (o : Option UnfinishedNode) → old.work.unfinished ≡ o → IfSome o IsUnfinished → IfSome o (λ unfinished. HaveBuckets sizes unfinished.node.blocked.places)
    by None none whole = tt
    by (Some unfinished) some whole =
        let kept : IsFrozenKept old unfinished.node = (All-pop (IsFrozenKept old) (frozen_nodes old.work) old.work.finished (Some unfinished.node) (ap (λ (o : Option UnfinishedNode). old.work.finished ++ left_nodes o) some) is.work.each).1 in
        subst (HaveBuckets sizes) (sym whole.node.places) (buckets_there sizes old.layout layout unfinished.node.fresh.places kept.placed)
