-- What is kept of the ring stays so where each event happens.
use Rattle.std.proofs.Common.{◌≡◌, ◌≢◌, ◌≤◌, ◌<◌, ◌+◌, ◌-◌, ◌*◌, ◌⊎◌, ⊎_elim, inl, inr, ℕ, zero, suc, Bool, true, false, cond, List, [], ◌∷◌, ◌++◌, drop, get_or, length, map, sum_by, Option, Some, None, refl, sym, ap, subst, ◌∙◌, arith}
use Rattle.std.proofs.lemmas.Bool.{eqb-true, true≢false}
use Rattle.std.proofs.lemmas.Cmp.{nat_cmp_total}
use Rattle.std.proofs.lemmas.List.{append-nil, get_or-drop, get_or_append_left, get_or_push, length-append, length-drop, length-map}
use Rattle.std.proofs.lemmas.List.Elements.{All-append, All-cons, All-contains, All-head, All-map, All-nil, All-tail}
use Rattle.std.proofs.lemmas.List.FromFn.{length-range_with_len}
use Rattle.std.proofs.lemmas.List.Sums.{sum_by-cons}
use Rattle.std.proofs.lemmas.Option.{none-some, same_Some}
use Rattle.std.specs.BTreeMap.{is_at}
use Rattle.std.specs.List.Sorted.{IsStrictlySortedBy}
use Rattle.std.specs.Option.{option_to_list}
use Rattle.std.specs.Ordering.{is_le, nat_cmp}
use Rattle.std.specs.Prelude.{◌==◌, All, Contains, IfSome, option_map, slice_get}
use Rattle.birth_index.specs.Births.{levels_of}
use Rattle.birth_index.specs.Exchanges.{HaveOneNode, exchanged, one_node}
use Rattle.birth_index.specs.NameLaws.{birth_itself, one_birth}
use Rattle.bucket_pool.specs.NodeLaws.{taken_devices}
use Rattle.bucket_pool.specs.Space.{node_places}
use Rattle.btree_map.specs.Sizes.{all_btrees}
use Rattle.btree_map.specs.Trees.{Trees, keys_in}
use Rattle.dirty_nodes.specs.Dirty.{birth_at, birth_in, changed_node, changed_nodes, moved_pin, paths_of, with_pins}
use Rattle.dirty_nodes.specs.PinLaws.{rises-moved}
use Rattle.core_volume.specs.Checkpoints.{AreInPlace, IsLeafFrozen, after_refused, given_up, with_block}
use Rattle.core_volume.specs.Commits.{IsCommitted}
use Rattle.core_volume.specs.Rulings.{entry_of}
use Rattle.core_volume.specs.Sealing.{IsFlown, next_record, oldest_needed, roots_in, settled_volume, with_writer}
use Rattle.core_volume.specs.Volumes.{IsFlightHeld, IsVolume, Volume, birth_due, halted_at, in_flight, last_sealed, needs_entry, node_stage_by, undurable_in}
use Rattle.vol_types.specs.declared.failure.Halt.{Halt}
use Rattle.core_actors.specs.declared.answer.Refusal.{Refusal}
use Rattle.core_actors.specs.declared.answer.Refusal.TheVariants as refusals
use Rattle.journal_writer.specs.Changes.{changes_btree, changes_of}
use Rattle.journal_writer.specs.Queues.{Queue, blocks_with, closes, first_of, first_with, follower_of, head_length, joined, last_of, left_by, oldest, record_of, waiting_entries, with_commit, without_oldest}
use Rattle.journal_writer.specs.declared.changes.KeyChanges.{KeyChanges}
use Rattle.journal_writer.specs.declared.changes.Pending.{Pending}
use Rattle.journal_writer.specs.Writers.{Writer, first_of as first_start, passed, settled_by, unsettled_by, with_entry, with_flushed, with_next_part}
use Rattle.journal_writer.specs.declared.durable.Durable.{Durable}
use Rattle.journal_writer.specs.declared.stage.Stage.TheVariants.{CommitNodes, WriteSet}
use Rattle.journal_writer.specs.declared.writer.Flight.{Flight}
use Rattle.journal_ring.specs.EntryBlocks.{part_count, parts_of}
use Rattle.node_writeback.specs.Due.{root_in, root_of}
use Rattle.node_writeback.specs.Durable.{undurable}
use Rattle.node_writeback.specs.Placing.{AreFrozenLeaves, exchanges_of, moved_pins}
use Rattle.node_writeback.specs.Freezing.{fresh_leaf}
use Rattle.node_writeback.specs.NodeWork.{NodeWork, birth_left, first_left, frozen_nodes, left_nodes, with_part_of}
use Rattle.node_writeback.specs.declared.node.FrozenNode.{FrozenNode}
use Rattle.node_writeback.specs.declared.node.UnfinishedNode.{UnfinishedNode}
use Rattle.pin_list.specs.Pins.{smaller, with_pin}
use Rattle.record_codec.specs.Entries.{root_length_of, update_length_of}
use Rattle.tree_nodes.specs.Levels.{Levels, level_of}
use Rattle.vol_types.specs.LayoutLaws.{layout_found}
use Rattle.vol_types.specs.Limits.{bucket_blocks}
use Rattle.vol_types.specs.MapLaws.{IsMap-put_at, IsMap-with_value, IsMap-without, value_at-put_at, value_at-with_value, value_at-without}
use Rattle.vol_types.specs.Maps.{IsMap, value_at, without}
use Rattle.vol_types.specs.Positions.{greatest_pos, pos_cmp}
use Rattle.vol_types.specs.declared.keys.Update.{Update}
use Rattle.vol_types.specs.declared.pointers.NodePtr.{NodePtr}
use Rattle.vol_types.specs.declared.pointers.Place.{Place}
use Rattle.vol_types.specs.declared.positions.Btree.{Btree}
use Rattle.vol_types.specs.declared.positions.Pos.{Pos}
use Rattle.vol_core.specs.Rested.{AreInARow, ArePinnedRoots, ArePinnedTo, DoCommitsRise, IsNextTo, IsOnMirrors, KeepsRing, LieOnMirrors, last_start, newest_changed}
use Rattle.vol_core.specs.CoreLaws.{ExchangeLaws, PlaceLaws}
use Rattle.vol_core.proofs.NamedRoots.{nine_roots}
use Rattle.vol_core.proofs.NodeStages.{freezing_is}
use Rattle.vol_core.proofs.PlacedRoots.{IsLeftRoot, IsPlacedRoot, placed_or_left}
use Rattle.vol_core.proofs.Stages.{sealing_is_free}

-- ---- nodes that are pinned

pub none_rise : IsMap {K = ℕ} {X = ℕ} nat_cmp []
unfolding IsStrictlySortedBy
none_rise = tt

-- Births still rise where nodes are pinned.
pub rises_pinned : (seq : ℕ) (births : List ℕ) (numbers : List (ℕ × ℕ)) → IsMap nat_cmp numbers → IsMap nat_cmp (with_pins seq births numbers)
rises_pinned seq [] numbers rises = rises
rises_pinned seq (birth ∷ births) numbers rises = rises_pinned seq births (with_pin birth seq numbers) (IsMap-with_value nat_cmp_total birth (smaller seq (value_at nat_cmp birth numbers)) numbers rises)

pub smaller_to : (seq : ℕ) (before : Option ℕ) → smaller seq before ≤ seq
smaller_to seq None = omega arith
smaller_to seq (Some pin) = omega arith

-- What is pinned then is one of these nodes, at this entry or an older one, or was pinned so before.
pub pinned_by : (P : ℕ → Type 0) (seq birth number : ℕ) (births : List ℕ) (numbers : List (ℕ × ℕ)) → All P births → value_at nat_cmp birth (with_pins seq births numbers) ≡ Some number
    → (P birth × (number ≤ seq)) ⊎ (value_at nat_cmp birth numbers ≡ Some number)
pinned_by P seq birth number [] numbers all is = inr is
pinned_by P seq birth number (one ∷ births) numbers all is = ⊎_elim
    (λ (later : P birth × (number ≤ seq)). inl later)
    (λ (before : value_at nat_cmp birth (with_pin one seq numbers) ≡ Some number).
    by (is_at (nat_cmp one) birth) refl (sym (value_at-with_value nat_cmp_total one (smaller seq (value_at nat_cmp one numbers)) birth numbers) ∙ before))
    (pinned_by P seq birth number births (with_pin one seq numbers) (All-tail P one births all) is)
  where
    by : (b : Bool) → is_at (nat_cmp one) birth ≡ b → cond b (Some (smaller seq (value_at nat_cmp one numbers))) (value_at nat_cmp birth numbers) ≡ Some number → (P birth × (number ≤ seq)) ⊎ (value_at nat_cmp birth numbers ≡ Some number)
    by true at is =
        let here : P birth = subst P (one_birth one birth at) (All-head P one births all) in
        let low : number ≤ seq = subst (λ (n : ℕ). n ≤ seq) (same_Some (smaller seq (value_at nat_cmp one numbers)) number is) (smaller_to seq (value_at nat_cmp one numbers)) in
        inl (here, low)
    by false at is = inr is

-- The birth is that of the root of a btree.
abbrev pub IsRootBirth : List Levels → ℕ → Type 0
IsRootBirth nodes birth = (btree : Btree) × ((root_in nodes btree).birth ≡ birth)

-- What covers a position in a btree of one node is that node.
root_covers : (root : NodePtr) (level : ℕ) (pos : Pos) (birth : ℕ) → birth_in pos (level_of (one_node root) level) ≡ Some birth → root.birth ≡ birth
root_covers root zero pos birth is = by (is_le (pos_cmp pos greatest_pos)) is
  where
    by : (within : Bool) → option_map (λ (node : Pos × NodePtr). node.1.birth) (slice_get (cond within ((greatest_pos, root) ∷ []) []) 0) ≡ Some birth → root.birth ≡ birth
    by true is = same_Some root.birth birth is
    by false is = absurd (none-some birth is)
root_covers root (suc level) pos birth is = absurd (none-some birth is)

-- An update changes no node but the root of its btree.
root_changed : (nodes : List Levels) → HaveOneNode nodes → (update : Update) (birth : ℕ) → birth_at nodes update.btree update.level update.pos ≡ Some birth → IsRootBirth nodes birth
root_changed nodes one update birth at =
    let alone = one update.btree in
    let same : root_of (levels_of nodes update.btree) ≡ alone.0 = ap root_of alone.1 in
    let covers : birth_in update.pos (level_of (one_node alone.0) update.level) ≡ Some birth = ap (λ (levels : Levels). birth_in update.pos (level_of levels update.level)) (sym alone.1) ∙ at in
    (update.btree, ap (λ (root : NodePtr). root.birth) same ∙ root_covers alone.0 update.level update.pos birth covers)

all_option : (P : ℕ → Type 0) (o : Option ℕ) → ((birth : ℕ) → o ≡ Some birth → P birth) → All P (option_to_list o)
all_option P None each = All-nil P
all_option P (Some birth) each = All-cons P birth [] (each birth refl) (All-nil P)

all_changed : (P : ℕ → Type 0) (nodes : List Levels) (updates : List Update) → ((update : Update) (birth : ℕ) → birth_at nodes update.btree update.level update.pos ≡ Some birth → P birth) → All P (changed_nodes nodes updates)
all_changed P nodes [] each = All-nil P
all_changed P nodes (update ∷ updates) each =
    All-append P (changed_node nodes update) (changed_nodes nodes updates) (all_option P (birth_at nodes update.btree update.level update.pos) (each update)) (all_changed P nodes updates each)

-- The nodes that updates change are roots, and there are updates where one is changed.
pub roots_changed : (nodes : List Levels) → HaveOneNode nodes → (updates : List Update) → All (λ (birth : ℕ). IsRootBirth nodes birth × (0 < length updates)) (changed_nodes nodes updates)
roots_changed nodes one [] = All-nil (λ (birth : ℕ). IsRootBirth nodes birth × (0 < 0))
roots_changed nodes one (update ∷ updates) =
    all_changed (λ (birth : ℕ). IsRootBirth nodes birth × (0 < length (update ∷ updates))) nodes (update ∷ updates) (λ other birth at. (root_changed nodes one other birth at, omega arith))

-- ---- entries that wait

pub newest_from : (none : Bool) (after : ℕ) → after ≤ cond none after (after + 1)
newest_from true after = omega arith
newest_from false after = omega arith

newest_to : (none : Bool) (after : ℕ) → cond none after (after + 1) ≤ after + 1
newest_to true after = omega arith
newest_to false after = omega arith

newest_some : (count after : ℕ) → 0 < count → after + 1 ≤ cond (count == 0) after (after + 1)
newest_some count after some = by (count == 0) refl
  where
    by : (b : Bool) → (count == 0) ≡ b → after + 1 ≤ cond b after (after + 1)
    by true none = let zero_is : count ≡ 0 = eqb-true count 0 none in absurd (omega (arith, some, zero_is))
    by false none = omega arith

-- Further updates leave the newest entry that has some, or make it a later one.
newest_more : (updates more : List Update) (after : ℕ) → cond (length updates == 0) after (after + 1) ≤ cond (length (updates ++ more) == 0) after (after + 1)
newest_more [] more after = newest_from (length more == 0) after
newest_more (update ∷ updates) more after =
    let most = newest_to (length (update ∷ updates) == 0) after in
    let least = newest_some (length (update ∷ updates ++ more)) after (omega arith) in
    omega (arith, most, least)

-- the queue, with the open entry closed or not
abbrev readied_by : Bool → Queue → Queue
readied_by close queue = cond close (record { mirrors = queue.mirrors; closed = queue.closed ++ queue.open_entry ∷ []; open_entry = follower_of queue.mirrors queue.open_entry }) queue

-- the queue with a commit's changes, where the open entry is closed before or not
abbrev joined_by : Bool → KeyChanges → Bool → Queue → Queue
joined_by close changes counted queue =
    record { mirrors = (readied_by close queue).mirrors; closed = (readied_by close queue).closed; open_entry = with_commit changes counted (readied_by close queue).open_entry }

newest_joined : (close : Bool) (changes : KeyChanges) (counted : Bool) (queue : Queue) → newest_changed queue ≤ newest_changed (joined_by close changes counted queue)
newest_joined true changes counted queue =
    let most = newest_to (length queue.open_entry.changes.updates == 0) queue.open_entry.after in
    let least = newest_from (length ([] ++ changes.updates) == 0) (queue.open_entry.after + 1) in
    omega (arith, most, least)
newest_joined false changes counted queue = newest_more queue.open_entry.changes.updates changes.updates queue.open_entry.after

-- The entry that updates join is the newest then.
newest_here : (close : Bool) (changes : KeyChanges) (counted : Bool) (queue : Queue) → 0 < length changes.updates → (readied_by close queue).open_entry.after + 1 ≤ newest_changed (joined_by close changes counted queue)
newest_here true changes counted queue some = newest_some (length ([] ++ changes.updates)) (queue.open_entry.after + 1) some
newest_here false changes counted queue some =
    let all : length (queue.open_entry.changes.updates ++ changes.updates) ≡ length queue.open_entry.changes.updates + length changes.updates = length-append queue.open_entry.changes.updates changes.updates in
    newest_some (length (queue.open_entry.changes.updates ++ changes.updates)) queue.open_entry.after (omega (arith, all, some))

-- The open entry is another one in its place.
row_open : (mirrors : ℕ) (closed : List Pending) (one other : Pending) → other.after ≡ one.after → other.behind ≡ one.behind → one.commits ≤ other.commits → AreInARow mirrors closed one → AreInARow mirrors closed other
row_open mirrors [] one other after behind more row = tt
row_open mirrors (entry ∷ []) one other after behind more row = (record { sequence = after ∙ row.0.sequence; blocks = behind ∙ row.0.blocks; commits = let before = row.0.commits in omega (arith, before, more) }, tt)
row_open mirrors (entry ∷ next ∷ later) one other after behind more row = (row.0, row_open mirrors (next ∷ later) one other after behind more row.1)

-- The open entry is closed, and another one follows it.
row_push : (mirrors : ℕ) (closed : List Pending) (entry new : Pending) → IsNextTo mirrors entry new → AreInARow mirrors closed entry → AreInARow mirrors (closed ++ entry ∷ []) new
row_push mirrors [] entry new next row = (next, tt)
row_push mirrors (one ∷ []) entry new next row = (row.0, (next, tt))
row_push mirrors (one ∷ two ∷ closed) entry new next row = (row.0, row_push mirrors (two ∷ closed) entry new next row.1)

row_joined : (close : Bool) (changes : KeyChanges) (counted : Bool) (queue : Queue) → AreInARow queue.mirrors queue.closed queue.open_entry
    → AreInARow (joined_by close changes counted queue).mirrors (joined_by close changes counted queue).closed (joined_by close changes counted queue).open_entry
row_joined true changes counted queue row = row_push queue.mirrors queue.closed queue.open_entry (with_commit changes counted (follower_of queue.mirrors queue.open_entry)) (record { sequence = refl; blocks = refl; commits = omega arith }) row
row_joined false changes counted queue row = row_open queue.mirrors queue.closed queue.open_entry (with_commit changes counted queue.open_entry) refl refl (omega arith) row

first_push : (closed : List Pending) (entry new : Pending) → first_of (closed ++ entry ∷ []) new ≡ first_of closed entry
first_push [] entry new = refl
first_push (one ∷ closed) entry new = refl

first_open : (closed : List Pending) (one other : Pending) → other.behind ≡ one.behind → (first_of closed other).behind ≡ (first_of closed one).behind
first_open [] one other same = same
first_open (entry ∷ closed) one other same = refl

pub oldest_joined : (close : Bool) (changes : KeyChanges) (counted : Bool) (queue : Queue) → (oldest (joined_by close changes counted queue)).behind ≡ (oldest queue).behind
oldest_joined true changes counted queue = ap (λ (entry : Pending). entry.behind) (first_push queue.closed queue.open_entry (with_commit changes counted (follower_of queue.mirrors queue.open_entry)))
oldest_joined false changes counted queue = first_open queue.closed queue.open_entry (with_commit changes counted queue.open_entry) refl

first_more : (closed : List Pending) (one other : Pending) → one.commits ≤ other.commits → (first_of closed one).commits ≤ (first_of closed other).commits
first_more [] one other more = more
first_more (entry ∷ closed) one other more = omega arith

-- The next entry has no fewer commits after a commit.
commits_joined : (close : Bool) (changes : KeyChanges) (counted : Bool) (queue : Queue) → (oldest queue).commits ≤ (oldest (joined_by close changes counted queue)).commits
commits_joined true changes counted queue =
    subst (λ (n : ℕ). (oldest queue).commits ≤ n) (ap (λ (entry : Pending). entry.commits) (sym (first_push queue.closed queue.open_entry (with_commit changes counted (follower_of queue.mirrors queue.open_entry))))) (omega arith)
commits_joined false changes counted queue = first_more queue.closed queue.open_entry (with_commit changes counted queue.open_entry) (omega arith)

-- Commits still rise where the next entry has more.
rise_more : (flight : Option Flight) (durable next later : ℕ) → next ≤ later → DoCommitsRise flight durable next → DoCommitsRise flight durable later
rise_more None durable next later more rise = omega (arith, more, rise)
rise_more (Some flight) durable next later more rise = (rise.0, let before = rise.1 in omega (arith, more, before))

-- ---- a commit

module _ (volume : Volume) (ring : KeepsRing volume) (updates : List Update) (counted : Bool) where
  abbrev made_with : Trees → Volume
  made_with trees = record volume {
    trees = trees;
    queue = joined (changes_of updates (keys_in volume.trees)) counted volume.queue;
    pins = with_pins (entry_of volume updates) (changed_nodes volume.trees.nodes updates) volume.pins;
    marks = with_pins (entry_of volume updates) (paths_of volume.trees.nodes updates) volume.marks;
    later = with_pins (entry_of volume updates) (changed_nodes volume.trees.nodes updates) volume.later;
    changes = volume.changes + 1;
  }

  -- No node is noted with a newer entry than the one that the updates join.
  joined_to : (numbers : List (ℕ × ℕ)) → ArePinnedTo (newest_changed volume.queue) numbers
      → ArePinnedTo (newest_changed (joined (changes_of updates (keys_in volume.trees)) counted volume.queue)) (with_pins (entry_of volume updates) (changed_nodes volume.trees.nodes updates) numbers)
  joined_to numbers before birth number at =
      let close : Bool = closes updates volume.queue in
      let changes : KeyChanges = changes_of updates (keys_in volume.trees) in
      ⊎_elim
      (λ new. let low = new.1 in let here = newest_here close changes counted volume.queue new.0.1 in omega (arith, low, here))
      (λ old. let low = before birth number old in let more = newest_joined close changes counted volume.queue in omega (arith, low, more))
      (pinned_by (λ (b : ℕ). IsRootBirth volume.trees.nodes b × (0 < length updates)) (entry_of volume updates) birth number (changed_nodes volume.trees.nodes updates) numbers (roots_changed volume.trees.nodes ring.one updates) at)

  joined_roots : ArePinnedRoots volume.trees.nodes (with_pins (entry_of volume updates) (changed_nodes volume.trees.nodes updates) volume.pins)
  joined_roots birth number at = ⊎_elim
      (λ new. new.0.0)
      (λ old. ring.nodes birth number old)
      (pinned_by (λ (b : ℕ). IsRootBirth volume.trees.nodes b × (0 < length updates)) (entry_of volume updates) birth number (changed_nodes volume.trees.nodes updates) volume.pins (roots_changed volume.trees.nodes ring.one updates) at)

  made_ring : (trees : Trees) → trees.nodes ≡ volume.trees.nodes → KeepsRing (made_with trees)
  made_ring trees nodes = record {
    one = subst HaveOneNode (sym nodes) ring.one;
    mirrored = subst (LieOnMirrors volume.layout.metadata_replicas) (sym nodes) ring.mirrored;
    fresh = ring.fresh;
    rises = rises_pinned (entry_of volume updates) (changed_nodes volume.trees.nodes updates) volume.pins ring.rises;
    later_rises = rises_pinned (entry_of volume updates) (changed_nodes volume.trees.nodes updates) volume.later ring.later_rises;
    nodes = subst (λ (levels : List Levels). ArePinnedRoots levels (with_pins (entry_of volume updates) (changed_nodes volume.trees.nodes updates) volume.pins)) (sym nodes) joined_roots;
    pins = joined_to volume.pins ring.pins;
    later = joined_to volume.later ring.later;
    row = row_joined (closes updates volume.queue) (changes_of updates (keys_in volume.trees)) counted volume.queue ring.row;
    behind = subst (λ (n : ℕ). n ≤ volume.writer.ring.next) (sym (oldest_joined (closes updates volume.queue) (changes_of updates (keys_in volume.trees)) counted volume.queue)) ring.behind;
    commits =
        rise_more volume.writer.flight volume.writer.durable.commits (oldest volume.queue).commits (oldest (joined (changes_of updates (keys_in volume.trees)) counted volume.queue)).commits
        (commits_joined (closes updates volume.queue) (changes_of updates (keys_in volume.trees)) counted volume.queue) ring.commits;
    first = ring.first;
    needs = ring.needs;
    count = ring.count;
    few = ring.few;
  }

  -- A commit makes these updates.
  pub ring_committed : (new : Volume) → IsCommitted updates counted volume new → KeepsRing new
  ring_committed new made = subst KeepsRing (sym made.rest) (made_ring new.trees made.nodes)

-- ---- an entry that becomes durable

-- The last of some numbers stays the last where others are left out.
last_stays : (count : ℕ) (starts : List ℕ) → count ≤ length starts - 1 → last_start (drop count starts) ≡ last_start starts
last_stays count starts few =
    let left : length (drop count starts) ≡ length starts - count = length-drop count starts in
    let place : count + (length (drop count starts) - 1) ≡ length starts - 1 = omega (arith, left, few) in
    get_or-drop count starts (length (drop count starts) - 1) 0 ∙ ap (λ (n : ℕ). get_or starts n 0) place

passed_within : (oldest : ℕ) (writer : Writer) → passed oldest writer ≤ length writer.starts - 1
passed_within oldest writer = omega arith

-- The entry in flight becomes the last durable one.
pub ring_settled : (volume : Volume) → IsVolume volume → KeepsRing volume → KeepsRing (settled_volume volume)
ring_settled volume is ring = by volume.writer.flight is.held_back.flight ring.count ring.commits
  where
    by : (flight : Option Flight) → IfSome flight (IsFlightHeld volume.writer.durable volume.pins) → volume.writer.durable.oldest + length volume.writer.starts ≡ last_sealed flight volume.writer.durable.sequence + 1
        → DoCommitsRise flight volume.writer.durable.commits (oldest volume.queue).commits → KeepsRing (record (with_writer (settled_by flight volume.writer) volume) { space = (settled_volume volume).space })
    by None held count rise = record {
      one = ring.one;
      mirrored = ring.mirrored;
      fresh = ring.fresh;
      rises = ring.rises;
      later_rises = ring.later_rises;
      nodes = ring.nodes;
      pins = ring.pins;
      later = ring.later;
      row = ring.row;
      behind = ring.behind;
      commits = ring.commits;
      first = ring.first;
      needs = ring.needs;
      count = ring.count;
      few = ring.few;
    }
    by (Some flight) held count rise = record {
      one = ring.one;
      mirrored = ring.mirrored;
      fresh = ring.fresh;
      rises = ring.rises;
      later_rises = ring.later_rises;
      nodes = ring.nodes;
      pins = ring.pins;
      later = ring.later;
      row = ring.row;
      behind = ring.behind;
      commits = rise.1;
      first = refl;
      needs = held.to;
      count =
          let left : length (drop (passed flight.oldest volume.writer) volume.writer.starts) ≡ length volume.writer.starts - passed flight.oldest volume.writer = length-drop (passed flight.oldest volume.writer) volume.writer.starts in
          let from = held.from in
          let to = held.to in
          let needs = ring.needs in
          omega (arith, count, left, from, to, needs);
      few = subst (λ (n : ℕ). volume.writer.ring.next ≤ n + 64) (sym (last_stays (passed flight.oldest volume.writer) volume.writer.starts (passed_within flight.oldest volume.writer))) ring.few;
    }

-- ---- an entry that is put in flight

-- the bytes of roots that have as many places each
roots_length : (mirrors : ℕ) (roots : List NodePtr) → All (λ (root : NodePtr). length root.places ≡ mirrors) roots → sum_by root_length_of roots ≡ length roots * (10 + 5 * mirrors)
roots_length mirrors [] all = omega arith
roots_length mirrors (root ∷ roots) all =
    let here : length root.places ≡ mirrors = All-head (λ (r : NodePtr). length r.places ≡ mirrors) root roots all in
    omega (arith, sum_by-cons root_length_of root roots, here, roots_length mirrors roots (All-tail (λ (r : NodePtr). length r.places ≡ mirrors) root roots all))

-- An entry takes the blocks that the queue counts, where each of nine roots has as many places.
parts_counted : (mirrors needed session : ℕ) (roots : List NodePtr) (entry : Pending) → length roots ≡ 9 → All (λ (root : NodePtr). length root.places ≡ mirrors) roots → parts_of (record_of needed session roots entry) ≡ blocks_with mirrors entry.changes.updates
parts_counted mirrors needed session roots entry nine places =
    let long : sum_by root_length_of roots ≡ 9 * (10 + 5 * mirrors) = roots_length mirrors roots places ∙ ap (λ (n : ℕ). n * (10 + 5 * mirrors)) nine in
    let whole : 36 + sum_by root_length_of roots + sum_by update_length_of entry.changes.updates ≡ head_length mirrors + sum_by update_length_of entry.changes.updates = omega (arith, long) in
    ap part_count whole

newest_left : (closed : List Pending) (queue : Queue) → newest_changed queue ≤ newest_changed (left_by closed queue)
newest_left [] queue = newest_to (length queue.open_entry.changes.updates == 0) queue.open_entry.after
newest_left (entry ∷ later) queue = omega arith

row_left : (closed : List Pending) (queue : Queue) → AreInARow queue.mirrors closed queue.open_entry → AreInARow (left_by closed queue).mirrors (left_by closed queue).closed (left_by closed queue).open_entry
row_left [] queue row = tt
row_left (entry ∷ later) queue row = row.1

-- The next entry's blocks are behind those of the one that is taken out.
pub oldest_left : (closed : List Pending) (queue : Queue) → AreInARow queue.mirrors closed queue.open_entry → (oldest (left_by closed queue)).behind ≡ last_of queue.mirrors (first_of closed queue.open_entry)
oldest_left [] queue row = refl
oldest_left (entry ∷ later) queue row = row.0.blocks

-- And it has no fewer commits.
commits_left : (closed : List Pending) (queue : Queue) → AreInARow queue.mirrors closed queue.open_entry → (first_of closed queue.open_entry).commits ≤ (oldest (left_by closed queue)).commits
commits_left [] queue row = omega arith
commits_left (entry ∷ later) queue row = row.0.commits

pub first_stays : (starts more : List ℕ) → 0 < length starts → first_start (starts ++ more) ≡ first_start starts
first_stays starts more some = get_or_append_left starts more 0 0 some

pub last_pushed : (starts : List ℕ) (start : ℕ) → last_start (starts ++ start ∷ []) ≡ start
last_pushed starts start = get_or_push starts start 0 (length (starts ++ start ∷ []) - 1) (let all : length (starts ++ start ∷ []) ≡ length starts + 1 = length-append starts (start ∷ []) in omega (arith, all))

-- There is a start, since the last durable entry needs itself.
pub some_start : (volume : Volume) → IsVolume volume → KeepsRing volume → 0 < length volume.writer.starts
some_start volume is ring = by volume.writer.flight is.in_turn.flying ring.count
  where
    by : (flight : Option Flight) → IfSome flight (λ (some : Flight). some.entry.after ≡ volume.writer.durable.sequence) → volume.writer.durable.oldest + length volume.writer.starts ≡ last_sealed flight volume.writer.durable.sequence + 1
        → 0 < length volume.writer.starts
    by None flying count = let needs = ring.needs in omega (arith, count, needs)
    by (Some flight) flying count = let needs = ring.needs in omega (arith, count, flying, needs)

module _ (volume : Volume) (is : IsVolume volume) (ring : KeepsRing volume) where
  -- Each root lies on every metadata device.
  root_places : (btree : Btree) → length (root_in volume.trees.nodes btree).places ≡ volume.queue.mirrors
  root_places btree = ring.mirrored btree ∙ sym is.mirrors

  -- The next entry takes the blocks that the queue counts, where nine roots are named.
  pub parts_are : length (roots_in volume.trees.nodes) ≡ 9 → parts_of (next_record volume) ≡ blocks_with volume.queue.mirrors (oldest volume.queue).changes.updates
  parts_are nine =
      let named : roots_in volume.trees.nodes ≡ map (root_in volume.trees.nodes) all_btrees = nine_roots volume.trees.nodes (sym (length-map volume.trees.nodes root_of) ∙ nine) in
      let each : All (λ (root : NodePtr). length root.places ≡ volume.queue.mirrors) (map (root_in volume.trees.nodes) all_btrees) =
      All-map (λ (root : NodePtr). length root.places ≡ volume.queue.mirrors) (root_in volume.trees.nodes) all_btrees (λ k d within. root_places (get_or all_btrees k d)) in
      parts_counted volume.queue.mirrors (oldest_needed volume) volume.session (roots_in volume.trees.nodes) (oldest volume.queue) nine
      (subst (λ (roots : List NodePtr). All (λ (root : NodePtr). length root.places ≡ volume.queue.mirrors) roots) (sym named) each)

  module _ (new : Volume) (flown : IsFlown volume new) where
    flown_ring : KeepsRing (record volume { queue = without_oldest volume.queue; writer = with_entry new.writer.ring.blocks (oldest volume.queue) (oldest_needed volume) volume.writer })
    flown_ring = record {
      one = ring.one;
      mirrored = ring.mirrored;
      fresh = ring.fresh;
      rises = ring.rises;
      later_rises = ring.later_rises;
      nodes = ring.nodes;
      pins = λ birth number at. let low = ring.pins birth number at in let more = newest_left volume.queue.closed volume.queue in omega (arith, low, more);
      later = λ birth number at. let low = ring.later birth number at in let more = newest_left volume.queue.closed volume.queue in omega (arith, low, more);
      row = row_left volume.queue.closed volume.queue ring.row;
      behind =
          let next = oldest_left volume.queue.closed volume.queue ring.row in
          let count : length new.writer.ring.blocks ≡ parts_of (next_record volume) = flown.sealed.blocks.count in
          let parts = parts_are flown.sealed.valid.in_range.all_roots in
          let before = ring.behind in
          omega (arith, next, count, parts, before);
      commits = (
        subst (λ (flight : Option Flight). DoCommitsRise flight volume.writer.durable.commits (oldest volume.queue).commits) (sealing_is_free volume.writer volume.writer.flight (needs_entry volume) flown.stage.stage_is) ring.commits,
        commits_left volume.queue.closed volume.queue ring.row,
      );
      first = ring.first ∙ sym (first_stays volume.writer.starts (volume.writer.ring.next ∷ []) (some_start volume is ring));
      needs = ring.needs;
      count =
          let more : length (volume.writer.starts ++ volume.writer.ring.next ∷ []) ≡ length volume.writer.starts + 1 = length-append volume.writer.starts (volume.writer.ring.next ∷ []) in
          let all = ring.count in
          let turn = is.in_turn.waiting_ones in
          omega (arith, more, all, turn);
      few =
          let count : length new.writer.ring.blocks ≡ parts_of (next_record volume) = flown.sealed.blocks.count in
          let most : parts_of (next_record volume) ≤ 64 = flown.sealed.room.few in
          let last = last_pushed volume.writer.starts volume.writer.ring.next in
          omega (arith, count, most, last);
    }

    -- The oldest entry that waits is put in flight.
    pub ring_flown : KeepsRing new
    ring_flown = subst KeepsRing (sym (flown.rest ∙ ap (λ (writer : Writer). record volume { queue = without_oldest volume.queue; writer = writer }) flown.sealed.is)) flown_ring

-- ---- a leaf that is frozen

pub oldest_to : (mirrors : ℕ) (closed : List Pending) (open_entry : Pending) → AreInARow mirrors closed open_entry → (first_of closed open_entry).after ≤ open_entry.after
oldest_to mirrors [] open_entry row = omega arith
oldest_to mirrors (entry ∷ later) open_entry row = let next = row.0.sequence in let rest = oldest_to mirrors later open_entry row.1 in omega (arith, next, rest)

-- An entry that changes a btree has updates.
some_updates : (btree : Btree) (updates : List Update) → changes_btree btree updates ≡ true → 0 < length updates
some_updates btree [] changes = absurd (true≢false (sym changes))
some_updates btree (update ∷ updates) changes = omega arith

-- The first of the entries that wait which changes a btree isn't newer than the newest one that has updates.
first_waiting : (mirrors : ℕ) (btree : Btree) (closed : List Pending) (open_entry : Pending) (first : ℕ) → AreInARow mirrors closed open_entry → first_with btree (closed ++ open_entry ∷ []) ≡ Some first
    → first ≤ cond (length open_entry.changes.updates == 0) open_entry.after (open_entry.after + 1)
first_waiting mirrors btree [] open_entry first row is = by (changes_btree btree open_entry.changes.updates) refl is
  where
    by : (b : Bool) → changes_btree btree open_entry.changes.updates ≡ b → cond b (Some (open_entry.after + 1)) None ≡ Some first → first ≤ cond (length open_entry.changes.updates == 0) open_entry.after (open_entry.after + 1)
    by true changes is =
        let same = same_Some (open_entry.after + 1) first is in
        let newest = newest_some (length open_entry.changes.updates) open_entry.after (some_updates btree open_entry.changes.updates changes) in
        omega (arith, same, newest)
    by false none is = absurd (none-some first is)
first_waiting mirrors btree (entry ∷ later) open_entry first row is = by (changes_btree btree entry.changes.updates) is (first_waiting mirrors btree later open_entry first row.1)
  where
    by : (b : Bool) → cond b (Some (entry.after + 1)) (first_with btree (later ++ open_entry ∷ [])) ≡ Some first
        → (first_with btree (later ++ open_entry ∷ []) ≡ Some first → first ≤ cond (length open_entry.changes.updates == 0) open_entry.after (open_entry.after + 1)) → first ≤ cond (length open_entry.changes.updates == 0) open_entry.after (open_entry.after + 1)
    by true is rest =
        let same = same_Some (entry.after + 1) first is in
        let next = row.0.sequence in
        let most = oldest_to mirrors later open_entry row.1 in
        let newest = newest_from (length open_entry.changes.updates == 0) open_entry.after in
        omega (arith, same, next, most, newest)
    by false is rest = rest is

-- So it is of the entries that aren't durable.
first_undurable : (volume : Volume) → IsVolume volume → KeepsRing volume → (btree : Btree) (first : ℕ) → first_with btree (undurable_in volume) ≡ Some first → first ≤ newest_changed volume.queue
first_undurable volume is ring btree first found = by volume.writer.flight is.in_turn.flying is.in_turn.waiting_ones found
  where
    waits : first_with btree (waiting_entries volume.queue) ≡ Some first → first ≤ newest_changed volume.queue
    waits = first_waiting volume.queue.mirrors btree volume.queue.closed volume.queue.open_entry first ring.row

    by : (flight : Option Flight) → IfSome flight (λ (some : Flight). some.entry.after ≡ volume.writer.durable.sequence) → (oldest volume.queue).after ≡ last_sealed flight volume.writer.durable.sequence
        → first_with btree (undurable (in_flight flight) volume.queue) ≡ Some first → first ≤ newest_changed volume.queue
    by None flying turn found = waits found
    by (Some flight) flying turn found = here (changes_btree btree flight.entry.changes.updates) found
      where
        here : (b : Bool) → cond b (Some (flight.entry.after + 1)) (first_with btree (waiting_entries volume.queue)) ≡ Some first → first ≤ newest_changed volume.queue
        here true found =
            let same = same_Some (flight.entry.after + 1) first found in
            let most = oldest_to volume.queue.mirrors volume.queue.closed volume.queue.open_entry ring.row in
            let newest = newest_from (length volume.queue.open_entry.changes.updates == 0) volume.queue.open_entry.after in
            omega (arith, turn, same, most, newest)
        here false found = waits found

-- All frozen nodes are written where none is left.
pub all_finished : (finished : List FrozenNode) (unfinished : Option UnfinishedNode) → birth_left unfinished ≡ None → finished ++ left_nodes unfinished ≡ finished
all_finished finished None none = append-nil finished
all_finished finished (Some left) none = absurd (none-some left.node.birth (sym none))

-- The places that a leaf gets are as many as the metadata devices.
fresh_mirrored : (volume : Volume) → IsVolume volume → length (node_places volume.layout.metadata_replicas volume.space) ≡ volume.layout.metadata_replicas
fresh_mirrored volume is =
    let few = (layout_found volume.layout is.placed).metadata.1 in
    let devices = is.devices in
    let places : List Place = node_places volume.layout.metadata_replicas volume.space in
    sym (length-map places (λ (place : Place). place.dev)) ∙ ap (λ (devs : List ℕ). length devs) (taken_devices volume.layout.metadata_replicas volume.space (omega (arith, few, devices))) ∙ length-range_with_len 0 volume.layout.metadata_replicas

module _ (volume : Volume) (is : IsVolume volume) (ring : KeepsRing volume) (node : ℕ) (new : Volume) (frozen : IsLeafFrozen node volume new) where
  abbrev here : FrozenNode
  here = record { btree = frozen.btree; birth = node; fresh = fresh_leaf volume.session volume.work.born volume.layout.metadata_replicas volume.space; blocked = frozen.frozen.blocked }

  -- All frozen leaves, this one too, have as many places.
  frozen_mirrored : All (IsOnMirrors volume.layout.metadata_replicas) (frozen_nodes new.work)
  frozen_mirrored =
      let On : FrozenNode → Type 0 = IsOnMirrors volume.layout.metadata_replicas in
      let finished : All On volume.work.finished = subst (λ (nodes : List FrozenNode). All On nodes) (all_finished volume.work.finished volume.work.unfinished (freezing_is volume node frozen.stage.stage_is).0) ring.fresh in
      subst (λ (work : NodeWork). All On (frozen_nodes work)) (sym frozen.frozen.is) (All-append On volume.work.finished (here ∷ []) finished (All-cons On here [] (fresh_mirrored volume is) (All-nil On)))

-- A leaf is frozen, and the first entry is noted that it lacks.
pub ring_frozen : (volume : Volume) → IsVolume volume → KeepsRing volume → (node : ℕ) (new : Volume) → IsLeafFrozen node volume new → KeepsRing new
ring_frozen volume is ring node new frozen = subst KeepsRing (sym frozen.rest) (record {
  one = ring.one;
  mirrored = ring.mirrored;
  fresh = frozen_mirrored volume is ring node new frozen;
  rises = ring.rises;
  later_rises = IsMap-put_at nat_cmp_total node (first_with frozen.btree (undurable_in volume)) volume.later ring.later_rises;
  nodes = ring.nodes;
  pins = ring.pins;
  later = λ birth number at. by birth number (is_at (nat_cmp node) birth) (sym (value_at-put_at nat_cmp_total node (first_with frozen.btree (undurable_in volume)) birth volume.later ring.later_rises) ∙ at);
  row = ring.row;
  behind = ring.behind;
  commits = ring.commits;
  first = ring.first;
  needs = ring.needs;
  count = ring.count;
  few = ring.few;
})
  where
    by : (birth number : ℕ) (b : Bool) → cond b (first_with frozen.btree (undurable_in volume)) (value_at nat_cmp birth volume.later) ≡ Some number → number ≤ newest_changed volume.queue
    by birth number true at = first_undurable volume is ring frozen.btree number at
    by birth number false at = ring.later birth number at

-- ---- leaves that are put in place

no_set_places : (node : ℕ) → WriteSet node ≡ CommitNodes → ⊥
no_set_places node is = cc

-- All frozen leaves are written where they are to be put in place.
pub none_left : (left due : Option ℕ) (volume : Volume) → node_stage_by left due volume ≡ CommitNodes → left ≡ None
none_left None due volume is = refl
none_left (Some node) due volume is = absurd (no_set_places node is)

rises_moved : (later : List (ℕ × ℕ)) (frozen : List FrozenNode) (pins : List (ℕ × ℕ)) → IsMap nat_cmp pins → IsMap nat_cmp (moved_pins frozen later pins)
rises_moved later [] pins rises = rises
rises_moved later (node ∷ frozen) pins rises =
    rises_moved later frozen (moved_pin node.birth node.fresh.birth (value_at nat_cmp node.birth later) pins) (rises-moved node.birth node.fresh.birth (value_at nat_cmp node.birth later) pins rises)

-- One of the leaves that are put in place has this birth, and this entry is noted of it.
pub record IsPlaced (later : List (ℕ × ℕ)) (frozen : List FrozenNode) (birth number : ℕ) : Type 0 where
  pub node : FrozenNode
  pub member : Contains frozen node
  pub fresh : node.fresh.birth ≡ birth
  pub noted : value_at nat_cmp node.birth later ≡ Some number

-- The node was pinned so before, and is none in whose place a leaf is put.
pub record IsUnmoved (pins : List (ℕ × ℕ)) (frozen : List FrozenNode) (birth number : ℕ) : Type 0 where
  pub pinned : value_at nat_cmp birth pins ≡ Some number
  pub apart : All (λ (node : FrozenNode). node.birth ≢ birth) frozen

-- What is pinned then is one or the other.
moved_by : (later : List (ℕ × ℕ)) (birth number : ℕ) (frozen : List FrozenNode) (pins : List (ℕ × ℕ)) → IsMap nat_cmp pins → value_at nat_cmp birth (moved_pins frozen later pins) ≡ Some number
    → IsPlaced later frozen birth number ⊎ IsUnmoved pins frozen birth number
moved_by later birth number [] pins rises at = inr (record { pinned = at; apart = All-nil (λ (node : FrozenNode). node.birth ≢ birth) })
moved_by later birth number (node ∷ frozen) pins rises at = ⊎_elim
    (λ (placed : IsPlaced later frozen birth number). inl (record { node = placed.node; member = behind placed.member; fresh = placed.fresh; noted = placed.noted }))
    (λ (unmoved : IsUnmoved moved frozen birth number).
    at_fresh (is_at (nat_cmp node.fresh.birth) birth) refl unmoved.apart
    (sym (value_at-put_at nat_cmp_total node.fresh.birth (value_at nat_cmp node.birth later) birth (without nat_cmp node.birth pins) (IsMap-without nat_cmp_total node.birth pins rises)) ∙ unmoved.pinned))
    (moved_by later birth number frozen moved (rises-moved node.birth node.fresh.birth (value_at nat_cmp node.birth later) pins rises) at)
  where
    moved : List (ℕ × ℕ)
    moved = moved_pin node.birth node.fresh.birth (value_at nat_cmp node.birth later) pins

    behind : {other : FrozenNode} → Contains frozen other → Contains (node ∷ frozen) other
    behind member = (suc member.0, (let low = member.1 in omega (arith, low)), member.2)

    at_old : (b : Bool) → is_at (nat_cmp node.birth) birth ≡ b → All (λ (n : FrozenNode). n.birth ≢ birth) frozen → cond b None (value_at nat_cmp birth pins) ≡ Some number → IsPlaced later (node ∷ frozen) birth number ⊎ IsUnmoved pins (node ∷ frozen) birth number
    at_old true is apart at = absurd (none-some number at)
    at_old false is apart at = inr (record {
      pinned = at;
      apart = All-cons (λ (n : FrozenNode). n.birth ≢ birth) node frozen (λ same. true≢false (sym (ap (is_at (nat_cmp node.birth)) (sym same) ∙ birth_itself node.birth) ∙ is)) apart;
    })

    at_fresh : (b : Bool) → is_at (nat_cmp node.fresh.birth) birth ≡ b → All (λ (n : FrozenNode). n.birth ≢ birth) frozen → cond b (value_at nat_cmp node.birth later) (value_at nat_cmp birth (without nat_cmp node.birth pins)) ≡ Some number
        → IsPlaced later (node ∷ frozen) birth number ⊎ IsUnmoved pins (node ∷ frozen) birth number
    at_fresh true is apart at = inl (record { node = node; member = (0, omega arith, refl); fresh = one_birth node.fresh.birth birth is; noted = at })
    at_fresh false is apart at = at_old (is_at (nat_cmp node.birth) birth) refl apart (sym (value_at-without nat_cmp_total node.birth birth pins rises) ∙ at)

module _ (places : PlaceLaws) (volume : Volume) (is : IsVolume volume) (ring : KeepsRing volume) (new : Volume) (placed : AreInPlace volume new) where
  pub frozen_leaves : AreFrozenLeaves volume.trees.nodes volume.pins volume.work.finished
  frozen_leaves = subst (λ (frozen : List FrozenNode). AreFrozenLeaves volume.trees.nodes volume.pins frozen) (all_finished volume.work.finished volume.work.unfinished (none_left (first_left volume.work) (birth_due volume) volume placed.stage.stage_is)) is.work.leaves

  abbrev placed_nodes : List Levels
  placed_nodes = exchanged (exchanges_of volume.work.finished) volume.trees.nodes

  -- A leaf that was put in place is the root of its btree.
  placed_root : (node : FrozenNode) → Contains volume.work.finished node → (root_in placed_nodes node.btree).birth ≡ node.fresh.birth
  placed_root node member =
      ap (λ (levels : Levels). (root_of levels).birth)
      (All-contains (λ (n : FrozenNode). levels_of placed_nodes n.btree ≡ one_node n.fresh) volume.work.finished node (places.leaves volume.trees.nodes volume.pins volume.work.finished frozen_leaves) member)

  -- Any other root is where it was.
  other_root : (birth : ℕ) (btree : Btree) → (root_in volume.trees.nodes btree).birth ≡ birth → All (λ (node : FrozenNode). node.birth ≢ birth) volume.work.finished → (root_in placed_nodes btree).birth ≡ birth
  other_root birth btree root apart =
      ap (λ (levels : Levels). (root_of levels).birth) (places.others volume.trees.nodes volume.work.finished btree other_btrees) ∙ root
    where
      other_btrees : All (λ (node : FrozenNode). node.btree ≢ btree) volume.work.finished
      other_btrees k d within same =
          let leaf = frozen_leaves.each k d within in
          apart k d within (sym leaf.birth ∙ sym (ap (λ (levels : Levels). (root_of levels).birth) leaf.alone) ∙ ap (λ (b : Btree). (root_in volume.trees.nodes b).birth) same ∙ root)

  pub placed_pinned : (birth number : ℕ) → value_at nat_cmp birth (moved_pins volume.work.finished volume.later volume.pins) ≡ Some number → IsPlaced volume.later volume.work.finished birth number ⊎ IsUnmoved volume.pins volume.work.finished birth number
  placed_pinned birth number at = moved_by volume.later birth number volume.work.finished volume.pins ring.rises at

  placed_roots : ArePinnedRoots placed_nodes (moved_pins volume.work.finished volume.later volume.pins)
  placed_roots birth number at = ⊎_elim
      (λ (one : IsPlaced volume.later volume.work.finished birth number). (one.node.btree, placed_root one.node one.member ∙ one.fresh))
      (λ (other : IsUnmoved volume.pins volume.work.finished birth number). let root = ring.nodes birth number other.pinned in (root.0, other_root birth root.0 root.1 other.apart))
      (placed_pinned birth number at)

  placed_to : ArePinnedTo (newest_changed volume.queue) (moved_pins volume.work.finished volume.later volume.pins)
  placed_to birth number at = ⊎_elim
      (λ (one : IsPlaced volume.later volume.work.finished birth number). ring.later one.node.birth number one.noted)
      (λ (other : IsUnmoved volume.pins volume.work.finished birth number). ring.pins birth number other.pinned)
      (placed_pinned birth number at)

  -- What comes in the place of a root has as many places, and is the root then.
  abbrev IsRootThen : FrozenNode → Type 0
  IsRootThen node = (levels_of placed_nodes node.btree ≡ one_node node.fresh) × IsOnMirrors volume.layout.metadata_replicas node

  roots_then : All IsRootThen volume.work.finished
  roots_then =
      let fresh : All (IsOnMirrors volume.layout.metadata_replicas) volume.work.finished =
      subst (λ (nodes : List FrozenNode). All (IsOnMirrors volume.layout.metadata_replicas) nodes) (all_finished volume.work.finished volume.work.unfinished (none_left (first_left volume.work) (birth_due volume) volume placed.stage.stage_is)) ring.fresh in
      λ k d within. (places.leaves volume.trees.nodes volume.pins volume.work.finished frozen_leaves k d within, fresh k d within)

  placed_mirrored : LieOnMirrors volume.layout.metadata_replicas placed_nodes
  placed_mirrored btree = ⊎_elim
      (λ (it : IsPlacedRoot volume.later IsRootThen volume.work.finished (root_in volume.trees.nodes) (λ b. None) btree).
      ap (λ (root : NodePtr). length root.places) (ap (root_in placed_nodes) (sym it.of) ∙ ap root_of it.known.0) ∙ it.known.1)
      (λ (it : IsLeftRoot volume.later IsRootThen volume.work.finished (root_in volume.trees.nodes) (λ b. None) btree).
      ap (λ (levels : Levels). length (root_of levels).places) (places.others volume.trees.nodes volume.work.finished btree it.others) ∙ ring.mirrored btree)
      (placed_or_left volume.later IsRootThen volume.work.finished (root_in volume.trees.nodes) (λ b. None) btree roots_then)

  -- The frozen leaves are put in place.
  pub ring_placed : ExchangeLaws → KeepsRing new
  ring_placed exchanges = subst KeepsRing (sym placed.rest) (record {
    one = exchanges.stay volume.trees.nodes (exchanges_of volume.work.finished) ring.one (places.of_roots volume.work.finished);
    mirrored = placed_mirrored;
    fresh = All-nil (IsOnMirrors volume.layout.metadata_replicas);
    rises = rises_moved volume.later volume.work.finished volume.pins ring.rises;
    later_rises = none_rise;
    nodes = placed_roots;
    pins = placed_to;
    later = λ birth number at. absurd (none-some number at);
    row = ring.row;
    behind = ring.behind;
    commits = ring.commits;
    first = ring.first;
    needs = ring.needs;
    count = ring.count;
    few = ring.few;
  })

-- ---- work that is given up

pub ring_given_up : (volume : Volume) → KeepsRing volume → KeepsRing (given_up volume)
ring_given_up volume ring = record {
  one = ring.one;
  mirrored = ring.mirrored;
  fresh = All-nil (IsOnMirrors volume.layout.metadata_replicas);
  rises = ring.rises;
  later_rises = none_rise;
  nodes = ring.nodes;
  pins = ring.pins;
  later = λ birth number at. absurd (none-some number at);
  row = ring.row;
  behind = ring.behind;
  commits = ring.commits;
  first = ring.first;
  needs = ring.needs;
  count = ring.count;
  few = ring.few;
}

-- A leaf isn't frozen, and the work is given up or not.
pub ring_refused : (refusal : Refusal) (volume : Volume) → KeepsRing volume → KeepsRing (after_refused refusal volume)
ring_refused (refusals.Halted halt) volume ring = ring
ring_refused (refusals.NeedSplit need) volume ring = ring
ring_refused refusals.Spent volume ring = ring
ring_refused (refusals.RingFull full) volume ring = ring
ring_refused (refusals.NoSpace none) volume ring = ring_given_up volume ring

-- ---- parts and blocks that are written, devices that are flushed, and a session that stops writing

-- The ring is kept where of the writer only what is written and what isn't settled has changed.
ring_with : (volume : Volume) (writer : Writer) → writer.ring.next ≡ volume.writer.ring.next → writer.starts ≡ volume.writer.starts → writer.durable ≡ volume.writer.durable → writer.flight ≡ volume.writer.flight → KeepsRing volume → KeepsRing (with_writer writer volume)
ring_with volume writer next starts durable flight ring = record {
  one = ring.one;
  mirrored = ring.mirrored;
  fresh = ring.fresh;
  rises = ring.rises;
  later_rises = ring.later_rises;
  nodes = ring.nodes;
  pins = ring.pins;
  later = ring.later;
  row = ring.row;
  behind = subst (λ (n : ℕ). (oldest volume.queue).behind ≤ n) (sym next) ring.behind;
  commits =
      subst (λ (o : Option Flight). DoCommitsRise o writer.durable.commits (oldest volume.queue).commits) (sym flight)
      (subst (λ (d : Durable). DoCommitsRise volume.writer.flight d.commits (oldest volume.queue).commits) (sym durable) ring.commits);
  first = ap (λ (d : Durable). d.first) durable ∙ ring.first ∙ ap first_start (sym starts);
  needs = subst (λ (d : Durable). d.oldest ≤ d.sequence) (sym durable) ring.needs;
  count =
      ap (λ (d : Durable). d.oldest + length writer.starts) durable ∙ ap (λ (s : List ℕ). volume.writer.durable.oldest + length s) starts ∙ ring.count
      ∙ ap (λ (o : Option Flight). last_sealed o volume.writer.durable.sequence + 1) (sym flight) ∙ ap (λ (d : Durable). last_sealed writer.flight d.sequence + 1) (sym durable);
  few = subst (λ (n : ℕ). n ≤ last_start writer.starts + 64) (sym next) (subst (λ (s : List ℕ). volume.writer.ring.next ≤ last_start s + 64) (sym starts) ring.few);
}

pub ring_part : (volume : Volume) → KeepsRing volume → KeepsRing (with_writer (with_next_part volume.writer) volume)
ring_part volume ring = ring_with volume (with_next_part volume.writer) refl refl refl refl ring

pub ring_unsettled : (volume : Volume) → KeepsRing volume → KeepsRing (with_writer (unsettled_by volume.writer) volume)
ring_unsettled volume ring = ring_with volume (unsettled_by volume.writer) refl refl refl refl ring

pub ring_flushed : (volume : Volume) (dev : ℕ) → KeepsRing volume → KeepsRing (with_writer (with_flushed dev volume.writer) volume)
ring_flushed volume dev ring = ring_with volume (with_flushed dev volume.writer) refl refl refl refl ring

pub ring_halted : (volume : Volume) (halt : Halt) → KeepsRing volume → KeepsRing (halted_at halt volume)
ring_halted volume halt ring = record {
  one = ring.one;
  mirrored = ring.mirrored;
  fresh = ring.fresh;
  rises = ring.rises;
  later_rises = ring.later_rises;
  nodes = ring.nodes;
  pins = ring.pins;
  later = ring.later;
  row = ring.row;
  behind = ring.behind;
  commits = ring.commits;
  first = ring.first;
  needs = ring.needs;
  count = ring.count;
  few = ring.few;
}

-- The frozen nodes are the same where one more block of one is written.
pub frozen_same : (unfinished : Option UnfinishedNode) (work : NodeWork) → work.unfinished ≡ unfinished → frozen_nodes (with_part_of unfinished work) ≡ frozen_nodes work
frozen_same None work is = refl
frozen_same (Some some) work is = by (some.written + 1 == bucket_blocks) ∙ ap (λ (u : Option UnfinishedNode). work.finished ++ left_nodes u) (sym is)
  where
    by : (done : Bool) → frozen_nodes (cond done (record { finished = work.finished ++ some.node ∷ []; unfinished = None; born = work.born }) (record { finished = work.finished; unfinished = Some (record { node = some.node; written = some.written + 1 }); born = work.born })) ≡ work.finished ++ some.node ∷ []
    by true = append-nil (work.finished ++ some.node ∷ [])
    by false = refl

pub ring_block : (volume : Volume) → KeepsRing volume → KeepsRing (with_block volume)
ring_block volume ring = record {
  one = ring.one;
  mirrored = ring.mirrored;
  fresh = subst (λ (nodes : List FrozenNode). All (IsOnMirrors volume.layout.metadata_replicas) nodes) (sym (frozen_same volume.work.unfinished volume.work refl)) ring.fresh;
  rises = ring.rises;
  later_rises = ring.later_rises;
  nodes = ring.nodes;
  pins = ring.pins;
  later = ring.later;
  row = ring.row;
  behind = ring.behind;
  commits = ring.commits;
  first = ring.first;
  needs = ring.needs;
  count = ring.count;
  few = ring.few;
}
