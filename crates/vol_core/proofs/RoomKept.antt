-- What is kept of the room in the ring stays so where each event happens: commits leave blocks free, and an entry without updates or commits of its own lets an older one go.
use Rattle.std.proofs.Common.{◌≡◌, ◌≢◌, ◌≤◌, ◌<◌, ◌+◌, ◌-◌, ◌⊎◌, ⊎_elim, inl, inr, ℕ, zero, suc, Bool, true, false, cond, not, List, [], ◌∷◌, ◌++◌, drop, get_or, length, min, Option, Some, None, refl, sym, ap, subst, ◌∙◌, arith}
use Rattle.std.proofs.lemmas.Bool.{and_from, and_parts, cases_lt, eq-eqb, eqb-true, le-leb, leb-true, ltb-true, true≢false}
use Rattle.std.proofs.lemmas.Cmp.{nat_cmp_total}
use Rattle.std.proofs.lemmas.List.{length-append, length-map}
use Rattle.std.proofs.lemmas.List.Elements.{All-append, All-cons, All-contains, All-head, All-nil, All-tail, All-weaker}
use Rattle.std.proofs.lemmas.Option.{same_Some}
use Rattle.std.specs.BTreeMap.{is_at}
use Rattle.std.specs.Ordering.{nat_cmp}
use Rattle.std.specs.Prelude.{◌||◌, ◌==◌, All, IfSome, IsSome, nat_lt, option_map, slice_index_or}
use Rattle.birth_index.specs.Births.{levels_of}
use Rattle.birth_index.specs.NameLaws.{birth_itself, one_birth}
use Rattle.btree_map.specs.Sizes.{all_btrees}
use Rattle.btree_map.specs.Trees.{IsTrees, Trees, keys_in}
use Rattle.dirty_nodes.specs.Dirty.{changed_nodes, paths_of, with_pins}
use Rattle.core_volume.specs.Checkpoints.{AreInPlace, IsLeafFrozen, after_refused, given_up, with_block}
use Rattle.core_volume.specs.Commits.{IsCommitted}
use Rattle.core_volume.specs.HoldLaws.{pinned-each}
use Rattle.core_volume.specs.Rulings.{IsFull, entry_of, kept_blocks}
use Rattle.core_volume.specs.Sealing.{IsFlown, next_record, oldest_needed, settled_volume, with_writer}
use Rattle.core_volume.specs.Volumes.{IsFlightHeld, IsVolume, KeepParts, Volume, birth_due, can_let_go, commits_of, halted_at, in_flight, is_below, last_sealed, needed_by, needs_entry, node_stage_by, undurable_in}
use Rattle.vol_types.specs.declared.failure.Halt.{Halt}
use Rattle.core_actors.specs.declared.answer.Refusal.{Refusal}
use Rattle.core_actors.specs.declared.answer.Refusal.TheVariants as refusals
use Rattle.journal_writer.specs.Changes.{changes_of}
use Rattle.journal_writer.specs.FirstLaws.{first-behind, waiting-behind}
use Rattle.journal_writer.specs.Queues.{AreBehind, AreChanges, AreFollowed, Queue, blocks_with, closes, first_of, first_with, follower_of, growth, joined, last_block, last_of, left_by, oldest, with_commit, without_oldest}
use Rattle.journal_writer.specs.declared.changes.KeyChanges.{KeyChanges}
use Rattle.journal_writer.specs.declared.changes.Pending.{Pending}
use Rattle.journal_writer.proofs.Joining.{last_block-joined}
use Rattle.journal_writer.specs.Writers.{HasRoom, Writer, first_of as first_start, passed, settled, settled_by, stage_by, unsettled_by, with_entry, with_flushed, with_next_part}
use Rattle.journal_writer.specs.declared.durable.Durable.{Durable}
use Rattle.journal_writer.specs.declared.stage.Stage.TheVariants.{CommitNodes, Freeze, Rest, Seal, WriteSet}
use Rattle.journal_writer.specs.declared.writer.Flight.{Flight}
use Rattle.journal_ring.specs.EntryBlocks.{parts_of}
use Rattle.node_writeback.specs.Due.{is_due, is_frozen, is_pinned_up_to, leaf_due, root_in, root_of}
use Rattle.node_writeback.specs.Durable.{undurable}
use Rattle.node_writeback.specs.Freezing.{fresh_leaf}
use Rattle.node_writeback.specs.Placing.{IsFrozenLeaf, moved_pins}
use Rattle.node_writeback.specs.NodeWork.{NodeWork, first_left, frozen_nodes}
use Rattle.node_writeback.specs.declared.node.FrozenNode.{FrozenNode}
use Rattle.pin_list.proofs.Least.{some_oldest}
use Rattle.pin_list.specs.Pins.{IsOldest, least_pin, smaller, with_pin}
use Rattle.tree_nodes.specs.Levels.{Levels}
use Rattle.vol_types.specs.LayoutLaws.{layout_found}
use Rattle.vol_types.specs.MapLaws.{value_at-put_at, value_at-with_value}
use Rattle.vol_types.specs.Maps.{IsMap, put_at, value_at}
use Rattle.vol_types.specs.declared.keys.Update.{Update}
use Rattle.vol_types.specs.declared.positions.Btree.{Btree}
use Rattle.vol_core.specs.CoreLaws.{PlaceLaws}
use Rattle.vol_core.specs.Rested.{AreInARow, KeepsRing, last_start}
use Rattle.vol_core.specs.Room.{AreRising, HasRoomForNext, IsNotedAfter, KeepsRoom, LetsGo, is_waiting}
use Rattle.vol_core.proofs.HeldLeaves.{root_alone_in}
use Rattle.vol_core.proofs.NodeStages.{first_passes, freezing_is}
use Rattle.vol_core.proofs.Rested.{each_is_one, map_none, none_passes}
use Rattle.vol_core.proofs.RingKept.{IsPlaced, IsUnmoved, all_finished, first_stays, frozen_leaves, frozen_same, none_left, oldest_joined, oldest_left, oldest_to, parts_are, placed_pinned, some_start}

-- ---- starts that rise

-- A further one comes behind, and the bound is a later one.
rising_push : (bound later : ℕ) (starts : List ℕ) → bound < later → AreRising bound starts → AreRising later (starts ++ bound ∷ [])
rising_push bound later [] more rising = more
rising_push bound later (start ∷ []) more rising = (rising, more)
rising_push bound later (start ∷ next ∷ starts) more rising = (rising.0, rising_push bound later (next ∷ starts) more rising.1)

rising_tail : (bound start : ℕ) (starts : List ℕ) → AreRising bound (start ∷ starts) → AreRising bound starts
rising_tail bound start [] rising = tt
rising_tail bound start (next ∷ starts) rising = rising.1

-- The first ones are left out.
pub rising_drop : (bound count : ℕ) (starts : List ℕ) → AreRising bound starts → AreRising bound (drop count starts)
rising_drop bound zero starts rising = rising
rising_drop bound (suc count) [] rising = tt
rising_drop bound (suc count) (start ∷ starts) rising = rising_drop bound count starts (rising_tail bound start starts rising)

-- What is left begins later, by at least one for each that is left out.
pub rising_later : (bound count : ℕ) (starts : List ℕ) → count < length starts → AreRising bound starts → first_start starts + count ≤ first_start (drop count starts)
rising_later bound zero starts within rising = omega arith
rising_later bound (suc count) [] within rising = absurd (omega (arith, within))
rising_later bound (suc count) (start ∷ []) within rising = absurd (omega (arith, within))
rising_later bound (suc count) (start ∷ next ∷ starts) within rising =
    let rest = rising_later bound count (next ∷ starts) (omega (arith, within)) rising.1 in
    let less = rising.0 in
    omega (arith, rest, less)

-- ---- pins after a commit

smaller_is : (seq number : ℕ) (before : Option ℕ) → smaller seq before ≡ number → (number ≡ seq) ⊎ (before ≡ Some number)
smaller_is seq number None is = inl (sym is)
smaller_is seq number (Some pin) is = ⊎_elim
    (λ (less : seq < pin). inl (omega (arith, is, less)))
    (λ (most : pin ≤ seq). let same : pin ≡ number = omega (arith, is, most) in inr (ap Some same))
    (cases_lt seq pin)

-- What a node pins then is this entry, or what it pinned before.
pinned_from : (seq birth number : ℕ) (births : List ℕ) (numbers : List (ℕ × ℕ)) → value_at nat_cmp birth (with_pins seq births numbers) ≡ Some number → (number ≡ seq) ⊎ (value_at nat_cmp birth numbers ≡ Some number)
pinned_from seq birth number [] numbers at = inr at
pinned_from seq birth number (one ∷ births) numbers at = ⊎_elim
    (λ (here : number ≡ seq). inl here)
    (λ (before : value_at nat_cmp birth (with_pin one seq numbers) ≡ Some number).
    by (is_at (nat_cmp one) birth) refl (sym (value_at-with_value nat_cmp_total one (smaller seq (value_at nat_cmp one numbers)) birth numbers) ∙ before))
    (pinned_from seq birth number births (with_pin one seq numbers) at)
  where
    by : (b : Bool) → is_at (nat_cmp one) birth ≡ b → cond b (Some (smaller seq (value_at nat_cmp one numbers))) (value_at nat_cmp birth numbers) ≡ Some number → (number ≡ seq) ⊎ (value_at nat_cmp birth numbers ≡ Some number)
    by true is at = ⊎_elim
        (λ (here : number ≡ seq). inl here)
        (λ (before : value_at nat_cmp one numbers ≡ Some number). inr (ap (λ (b : ℕ). value_at nat_cmp b numbers) (sym (one_birth one birth is)) ∙ before))
        (smaller_is seq number (value_at nat_cmp one numbers) (same_Some (smaller seq (value_at nat_cmp one numbers)) number at))
    by false is at = inr at

-- A node that was pinned pins no newer entry.
pinned_lower : (seq birth pin number : ℕ) (births : List ℕ) (numbers : List (ℕ × ℕ)) → value_at nat_cmp birth numbers ≡ Some pin → value_at nat_cmp birth (with_pins seq births numbers) ≡ Some number → number ≤ pin
pinned_lower seq birth pin number [] numbers before at = let same = same_Some pin number (sym before ∙ at) in omega (arith, same)
pinned_lower seq birth pin number (one ∷ births) numbers before at =
    by (is_at (nat_cmp one) birth) refl (value_at-with_value nat_cmp_total one (smaller seq (value_at nat_cmp one numbers)) birth numbers) (λ next then. pinned_lower seq birth next number births (with_pin one seq numbers) then at)
  where
    by : (b : Bool) → is_at (nat_cmp one) birth ≡ b → value_at nat_cmp birth (with_pin one seq numbers) ≡ cond b (Some (smaller seq (value_at nat_cmp one numbers))) (value_at nat_cmp birth numbers)
        → ((next : ℕ) → value_at nat_cmp birth (with_pin one seq numbers) ≡ Some next → number ≤ next) → number ≤ pin
    by true is then rest =
        let here : value_at nat_cmp one numbers ≡ Some pin = ap (λ (b : ℕ). value_at nat_cmp b numbers) (one_birth one birth is) ∙ before in
        let low = rest (min seq pin) (then ∙ ap (λ (o : Option ℕ). Some (smaller seq o)) here) in
        omega (arith, low)
    by false is then rest = rest pin (then ∙ before)

-- ---- sequences

-- The open entry follows the last durable one, or a later one.
durable_behind : (volume : Volume) → IsVolume volume → KeepsRing volume → volume.writer.durable.sequence ≤ volume.queue.open_entry.after
durable_behind volume is ring = by volume.writer.flight is.in_turn.flying is.in_turn.waiting_ones
  where
    most : (oldest volume.queue).after ≤ volume.queue.open_entry.after
    most = oldest_to volume.queue.mirrors volume.queue.closed volume.queue.open_entry ring.row

    by : (flight : Option Flight) → IfSome flight (λ (some : Flight). some.entry.after ≡ volume.writer.durable.sequence) → (oldest volume.queue).after ≡ last_sealed flight volume.writer.durable.sequence → volume.writer.durable.sequence ≤ volume.queue.open_entry.after
    by None flying turn = let low = most in omega (arith, turn, low)
    by (Some flight) flying turn = let low = most in omega (arith, flying, turn, low)

-- The open entry follows the newest entry in the ring, or a later one.
landed_behind : (volume : Volume) → IsVolume volume → KeepsRing volume → (settled volume.writer).durable.sequence ≤ volume.queue.open_entry.after
landed_behind volume is ring = by volume.writer.flight is.in_turn.waiting_ones
  where
    most : (oldest volume.queue).after ≤ volume.queue.open_entry.after
    most = oldest_to volume.queue.mirrors volume.queue.closed volume.queue.open_entry ring.row

    by : (flight : Option Flight) → (oldest volume.queue).after ≡ last_sealed flight volume.writer.durable.sequence → (settled_by flight volume.writer).durable.sequence ≤ volume.queue.open_entry.after
    by None turn = let low = most in omega (arith, turn, low)
    by (Some flight) turn = let low = most in omega (arith, turn, low)

-- An entry lets an older one go where it does so for each node that is pinned, as far as it needs an older one.
lets_go : (durable : Durable) (pins : List (ℕ × ℕ)) → (durable.oldest < durable.sequence → (birth number : ℕ) → value_at nat_cmp birth pins ≡ Some number → durable.oldest < number) → LetsGo durable pins
lets_go durable pins each = ⊎_elim (λ (needs : durable.oldest < durable.sequence). inr (each needs)) (λ (none : durable.sequence ≤ durable.oldest). inl none) (cases_lt durable.oldest durable.sequence)

-- ---- a commit

-- the queue, with the open entry closed or not
abbrev readied_with : Bool → Queue → Queue
readied_with close queue = cond close (record { mirrors = queue.mirrors; closed = queue.closed ++ queue.open_entry ∷ []; open_entry = follower_of queue.mirrors queue.open_entry }) queue

-- the queue with a commit's changes, where the open entry is closed before or not
abbrev joined_with : Bool → KeyChanges → Bool → Queue → Queue
joined_with close changes counted queue =
    record { mirrors = (readied_with close queue).mirrors; closed = (readied_with close queue).closed; open_entry = with_commit changes counted (readied_with close queue).open_entry }

-- The open entry is the same one, or a later one.
open_later : (close : Bool) (changes : KeyChanges) (counted : Bool) (queue : Queue) → queue.open_entry.after ≤ (joined_with close changes counted queue).open_entry.after
open_later true changes counted queue = omega arith
open_later false changes counted queue = omega arith

none_closed : (closed : List Pending) (entry : Pending) → closed ++ entry ∷ [] ≡ [] → ⊥
none_closed [] entry is = cc
none_closed (one ∷ closed) entry is = cc

-- Where no updates wait after a commit, none did before.
none_before : (close : Bool) (changes : KeyChanges) (counted : Bool) (queue : Queue) → (joined_with close changes counted queue).closed ≡ [] → length (joined_with close changes counted queue).open_entry.changes.updates ≡ 0
    → (queue.closed ≡ []) × (length queue.open_entry.changes.updates ≡ 0)
none_before true changes counted queue closed updates = absurd (none_closed queue.closed queue.open_entry closed)
none_before false changes counted queue closed updates = (closed, omega (arith, updates, length-append queue.open_entry.changes.updates changes.updates))

-- Where a node pins something, it pins no newer entry after a commit, and what is noted of it is still newer.
noted_then : (durable entry : ℕ) (births : List ℕ) (pins later : List (ℕ × ℕ)) (node : FrozenNode) → durable < entry → IsSome (value_at nat_cmp node.birth pins) → IsNotedAfter durable pins later node
    → IsNotedAfter durable (with_pins entry births pins) (with_pins entry births later) node
noted_then durable entry births pins later node behind pinned noted pin at = by (value_at nat_cmp node.birth pins) refl pinned
  where
    by : (before : Option ℕ) → value_at nat_cmp node.birth pins ≡ before → IsSome before → (pin ≤ durable) × ((number : ℕ) → value_at nat_cmp node.birth (with_pins entry births later) ≡ Some number → pin < number)
    by None is some = absurd (true≢false (sym some))
    by (Some old) is some =
        let lower = pinned_lower entry node.birth old pin births pins is at in
        let was = noted old is in
        let least = was.0 in (
          omega (arith, lower, least),
          λ number then. ⊎_elim
              (λ (here : number ≡ entry). omega (arith, lower, least, here, behind))
              (λ (before : value_at nat_cmp node.birth later ≡ Some number). let newer = was.1 number before in omega (arith, lower, newer))
              (pinned_from entry node.birth number births later then),
        )

module _ (volume : Volume) (is : IsVolume volume) (ring : KeepsRing volume) (room : KeepsRoom volume) (updates : List Update) (counted : Bool) (fits : ¬ IsFull volume updates) where
  abbrev changes : KeyChanges
  changes = changes_of updates (keys_in volume.trees)

  abbrev close : Bool
  close = closes updates volume.queue

  abbrev entry : ℕ
  entry = entry_of volume updates

  abbrev births : List ℕ
  births = changed_nodes volume.trees.nodes updates

  entry_newer : volume.queue.open_entry.after < entry
  entry_newer = let more = open_later close changes counted volume.queue in omega (arith, more)

  abbrev committed_with : Trees → Volume
  committed_with trees = record volume {
    trees = trees;
    queue = joined changes counted volume.queue;
    pins = with_pins entry births volume.pins;
    marks = with_pins entry (paths_of volume.trees.nodes updates) volume.marks;
    later = with_pins entry births volume.later;
    changes = volume.changes + 1;
  }

  -- The commit leaves the blocks free that are kept.
  waiting_then : last_block (joined changes counted volume.queue) + 1 + kept_blocks ≤ volume.writer.durable.first + volume.layout.journal
  waiting_then =
      by (last_block volume.queue) (last_block (joined changes counted volume.queue)) (growth updates volume.queue) volume.writer.durable.first volume.layout.journal (last_block-joined changes counted volume.queue)
      (⊎_elim (λ (less : volume.layout.journal - (last_block volume.queue + 1 - volume.writer.durable.first) < growth updates volume.queue + kept_blocks). absurd (fits less)) (λ (most : growth updates volume.queue + kept_blocks ≤ volume.layout.journal - (last_block volume.queue + 1 - volume.writer.durable.first)). most)
      (cases_lt (volume.layout.journal - (last_block volume.queue + 1 - volume.writer.durable.first)) (growth updates volume.queue + kept_blocks)))
    where
      by : (last then grown first journal : ℕ) → then ≡ last + grown → grown + 64 ≤ journal - (last + 1 - first) → then + 1 + 64 ≤ first + journal
      by last then grown first journal is most = omega (arith, is, most)

  made_room : (trees : Trees) → KeepsRoom (committed_with trees)
  made_room trees = record {
    emptied = let before = room.emptied in let more = open_later close changes counted volume.queue in omega (arith, before, more);
    first = room.first;
    next = subst (λ (n : ℕ). volume.writer.ring.next ≤ n + 1) (sym (oldest_joined close changes counted volume.queue)) room.next;
    rising = room.rising;
    waiting = λ waits. waiting_then;
    flying = room.flying;
    landed = room.landed;
    noted =
        let durable = durable_behind volume is ring in
        let newer = entry_newer in
        λ k default within.
        noted_then volume.writer.durable.sequence entry births volume.pins volume.later (get_or (frozen_nodes volume.work) k default) (omega (arith, durable, newer)) (is.work.leaves.each k default within).pinned (room.noted k default within);
    let_go = λ closed none before.
        let was = none_before close changes counted volume.queue closed none in
        let more = open_later close changes counted volume.queue in
        let newest = landed_behind volume is ring in
        let newer = entry_newer in
        let durable : Durable = (settled volume.writer).durable in
        ⊎_elim
        (λ (needs_none : durable.sequence ≤ durable.oldest). inl needs_none)
        (λ (passed_by : (birth number : ℕ) → value_at nat_cmp birth volume.pins ≡ Some number → durable.oldest < number).
        lets_go durable (with_pins entry births volume.pins)
        (λ needs birth number at. ⊎_elim
        (λ (here : number ≡ entry). omega (arith, needs, newest, newer, here))
        (λ (old : value_at nat_cmp birth volume.pins ≡ Some number). passed_by birth number old)
        (pinned_from entry birth number births volume.pins at)))
        (room.let_go was.0 was.1 (omega (arith, before, more)));
  }

  -- A commit makes these updates.
  pub room_committed : (new : Volume) → IsCommitted updates counted volume new → KeepsRoom new
  room_committed new made = subst KeepsRoom (sym made.rest) (made_room new.trees)

-- ---- an entry that is put in flight

-- An entry takes a block at least.
some_block : (mirrors : ℕ) (updates : List Update) → 0 < blocks_with mirrors updates
some_block mirrors updates = omega arith

-- The entry that is written next ends no later than all that wait.
ends_within : (mirrors : ℕ) (closed : List Pending) (open_entry : Pending) → AreInARow mirrors closed open_entry → last_of mirrors (first_of closed open_entry) ≤ last_of mirrors open_entry
ends_within mirrors [] open_entry row = omega arith
ends_within mirrors (entry ∷ later) open_entry row =
    let rest = ends_within mirrors later open_entry row.1 in
    let next = row.0.blocks in
    omega (arith, rest, next)

nothing : (updates : List Update) → length updates ≡ 0 → updates ≡ []
nothing [] none = refl
nothing (update ∷ updates) none = absurd (omega (arith, none))

none_of : (closed : List Pending) → length closed ≡ 0 → closed ≡ []
none_of [] none = refl
none_of (entry ∷ closed) none = absurd (omega (arith, none))

-- Nothing waits: no entry is closed, the open one has no updates, and all commits are in the ring.
record WaitsNone (volume : Volume) : Type 0 where
  pub closed : volume.queue.closed ≡ []
  pub updates : volume.queue.open_entry.changes.updates ≡ []
  pub commits : commits_of volume ≡ (settled volume.writer).durable.commits

none_waits : (volume : Volume) → is_waiting volume ≡ false → WaitsNone volume
none_waits volume none =
    let last = none_of_both _ _ none in
    let first = none_of_both _ _ last.0 in
    record {
      closed = none_of volume.queue.closed (eqb-true (length volume.queue.closed) 0 (is_so _ first.0));
      updates = nothing volume.queue.open_entry.changes.updates (eqb-true (length volume.queue.open_entry.changes.updates) 0 (is_so _ first.1));
      commits = eqb-true (commits_of volume) (settled volume.writer).durable.commits (is_so _ last.1);
    }
  where
    none_of_both : (one other : Bool) → (one || other) ≡ false → (one ≡ false) × (other ≡ false)
    none_of_both true true is = absurd (true≢false is)
    none_of_both true false is = absurd (true≢false is)
    none_of_both false true is = absurd (true≢false is)
    none_of_both false false is = (refl, refl)

    is_so : (test : Bool) → not test ≡ false → test ≡ true
    is_so true is = refl
    is_so false is = absurd (true≢false is)

-- Where each pinned number is above one, the least of them and a further such number is.
least_above : (low : ℕ) (pins : List (ℕ × ℕ)) → IsMap nat_cmp pins → ((birth number : ℕ) → value_at nat_cmp birth pins ≡ Some number → low < number) → (further : ℕ) → low < further → low < smaller further (least_pin pins)
least_above low pins rises each further above = by (least_pin pins) (some_oldest pins (least_pin pins) rises refl)
  where
    by : (least : Option ℕ) → IfSome least (IsOldest pins) → low < smaller further least
    by None oldest = above
    by (Some pin) oldest = let pinned = each oldest.node pin oldest.pinned in omega (arith, above, pinned)

-- So is what nothing pins that isn't above it.
below : (low further : ℕ) (least : Option ℕ) → low < further → is_below low least ≡ true → low < smaller further least
below low further None above is = above
below low further (Some pin) above is = let less = ltb-true low pin is in omega (arith, above, less)

rest_seals_nothing : Rest ≡ Seal → ⊥
rest_seals_nothing is = cc

freezing_places_nothing : (node : ℕ) → Freeze node ≡ CommitNodes → ⊥
freezing_places_nothing node is = cc

writing_places_nothing : (node : ℕ) → WriteSet node ≡ CommitNodes → ⊥
writing_places_nothing node is = cc

-- Nothing is due where the frozen leaves are to be put in place.
places_none_due : (left due : Option ℕ) (volume : Volume) → node_stage_by left due volume ≡ CommitNodes → due ≡ None
places_none_due (Some node) due volume is = absurd (writing_places_nothing node is)
places_none_due None (Some node) volume is = absurd (freezing_places_nothing node is)
places_none_due None None volume is = refl

-- The open entry is the same one once one is taken out, or a later one.
open_left : (closed : List Pending) (queue : Queue) → queue.open_entry.after ≤ (left_by closed queue).open_entry.after
open_left [] queue = omega arith
open_left (entry ∷ later) queue = omega arith

-- No node is frozen whose birth is none of theirs.
none_frozen : (frozen : List FrozenNode) (birth : ℕ) → All (λ (node : FrozenNode). node.birth ≢ birth) frozen → is_frozen frozen birth ≡ false
none_frozen [] birth apart = refl
none_frozen (node ∷ frozen) birth apart = by (node.birth == birth) refl (none_frozen frozen birth (All-tail (λ (n : FrozenNode). n.birth ≢ birth) node frozen apart))
  where
    by : (b : Bool) → (node.birth == birth) ≡ b → is_frozen frozen birth ≡ false → (b || is_frozen frozen birth) ≡ false
    by true same rest = absurd (All-head (λ (n : FrozenNode). n.birth ≢ birth) node frozen apart (eqb-true node.birth birth same))
    by false other rest = rest

-- How many blocks the next entry takes where it has no updates.
one_block : (mirrors : ℕ) → mirrors ≤ 3 → blocks_with mirrors [] ≤ 1
one_block mirrors few = omega (arith, few)

module _ (volume : Volume) (is : IsVolume volume) (parts : KeepParts volume) (ring : KeepsRing volume) (room : KeepsRoom volume) (free : volume.writer.flight ≡ None) where
  abbrev mirrors : ℕ
  mirrors = volume.queue.mirrors

  abbrev next_entry : Pending
  next_entry = oldest volume.queue

  abbrev count : ℕ
  count = blocks_with mirrors next_entry.changes.updates

  landed_now : volume.writer.ring.next + kept_blocks ≤ volume.writer.durable.first + volume.layout.journal
  landed_now = subst (λ (flight : Option Flight). volume.writer.ring.next + kept_blocks ≤ (settled_by flight volume.writer).durable.first + volume.layout.journal) free room.landed

  -- Where something waits, the next entry leaves the blocks free that are kept.
  leaves_kept : is_waiting volume ≡ true → volume.writer.ring.next + count + kept_blocks ≤ volume.writer.durable.first + volume.layout.journal
  leaves_kept waits =
      let next = room.next in
      let ends = ends_within mirrors volume.queue.closed volume.queue.open_entry ring.row in
      let all = room.waiting waits in
      omega (arith, next, ends, all)

  -- Else it takes one block.
  takes_one : is_waiting volume ≡ false → count ≤ 1
  takes_one none =
      let waits = none_waits volume none in
      let most = (layout_found volume.layout is.placed).metadata.1 in
      let same = is.mirrors in
      let open_next : next_entry.changes.updates ≡ volume.queue.open_entry.changes.updates = ap (λ (closed : List Pending). (first_of closed volume.queue.open_entry).changes.updates) waits.closed in
      subst (λ (us : List Update). blocks_with mirrors us ≤ 1) (sym (open_next ∙ waits.updates)) (one_block mirrors (omega (arith, most, same)))

  -- In any case it needs at most one of those.
  leaves_most : volume.writer.ring.next + count + kept_blocks ≤ volume.writer.durable.first + volume.layout.journal + 1
  leaves_most = by (is_waiting volume) refl
    where
      by : (waits : Bool) → is_waiting volume ≡ waits → volume.writer.ring.next + count + kept_blocks ≤ volume.writer.durable.first + volume.layout.journal + 1
      by true waits = let most = leaves_kept waits in omega (arith, most)
      by false waits = let one = takes_one waits in let before = landed_now in omega (arith, one, before)

  -- The ring has room for the next entry.
  pub next_fits : parts_of (next_record volume) ≡ count → count ≤ 64 → HasRoom volume.writer.ring (parts_of (next_record volume))
  next_fits parts few =
      let first = room.first in
      let most = leaves_most in
      let journal = is.ring.journal in
      let least = (layout_found volume.layout is.placed).journal_range.0 in
      let kept : kept_blocks ≡ 64 = refl in
      record { few = omega (arith, parts, few); fits = omega (arith, parts, first, most, journal, least, few, kept) }

  durable_now : (settled volume.writer).durable ≡ volume.writer.durable
  durable_now = ap (λ (flight : Option Flight). (settled_by flight volume.writer).durable) free

  follows : next_entry.after ≡ volume.writer.durable.sequence
  follows = is.in_turn.waiting_ones ∙ ap (λ (flight : Option Flight). last_sealed flight volume.writer.durable.sequence) free

  -- An entry that is needed where nothing waits lets an older one go, as far as the last durable one needs an older one.
  passes_one : is_waiting volume ≡ false → needs_entry volume ≡ true → (volume.writer.durable.sequence ≤ volume.writer.durable.oldest) ⊎ (volume.writer.durable.oldest < oldest_needed volume)
  passes_one none needed =
      ⊎_elim
      (λ (needs : volume.writer.durable.oldest < volume.writer.durable.sequence). by needs (nat_lt volume.queue.open_entry.after volume.emptied) refl (can_let_go volume.writer.durable volume.pins) refl needed_is)
      (λ (most : volume.writer.durable.sequence ≤ volume.writer.durable.oldest). inl most)
      (cases_lt volume.writer.durable.oldest volume.writer.durable.sequence)
    where
      waits : WaitsNone volume
      waits = none_waits volume none

      needed_is : (nat_lt volume.queue.open_entry.after volume.emptied || can_let_go volume.writer.durable volume.pins) ≡ true
      needed_is = sym (ap (λ (b : Bool). (b || nat_lt volume.queue.open_entry.after volume.emptied) || can_let_go volume.writer.durable volume.pins) (waiting_now ∙ none)) ∙ needed
        where
          waiting_now : (not (length volume.queue.closed == 0) || not (length volume.queue.open_entry.changes.updates == 0) || not (commits_of volume == volume.writer.durable.commits)) ≡ is_waiting volume
          waiting_now = ap (λ (durable : Durable). not (length volume.queue.closed == 0) || not (length volume.queue.open_entry.changes.updates == 0) || not (commits_of volume == durable.commits)) (sym durable_now)

      behind : volume.writer.durable.oldest < volume.writer.durable.sequence → volume.writer.durable.oldest < next_entry.after + 1
      behind needs = let next = follows in omega (arith, needs, next)

      by : volume.writer.durable.oldest < volume.writer.durable.sequence → (emptied : Bool) → nat_lt volume.queue.open_entry.after volume.emptied ≡ emptied → (lets : Bool) → can_let_go volume.writer.durable volume.pins ≡ lets → (emptied || lets) ≡ true
          → (volume.writer.durable.sequence ≤ volume.writer.durable.oldest) ⊎ (volume.writer.durable.oldest < oldest_needed volume)
      by needs true empties lets let_is is_true = ⊎_elim
          (λ (most : volume.writer.durable.sequence ≤ volume.writer.durable.oldest). inl most)
          (λ (each : (birth number : ℕ) → value_at nat_cmp birth volume.pins ≡ Some number → volume.writer.durable.oldest < number). inr (least_above volume.writer.durable.oldest volume.pins ring.rises each (next_entry.after + 1) (behind needs)))
          (subst (λ (durable : Durable). LetsGo durable volume.pins) durable_now (room.let_go waits.closed (ap (λ (us : List Update). length us) waits.updates) (ltb-true volume.queue.open_entry.after volume.emptied empties)))
      by needs false empties true let_is is_true = inr (below volume.writer.durable.oldest (next_entry.after + 1) (least_pin volume.pins) (behind needs) (and_parts _ _ let_is).1)
      by needs false empties false let_is is_true = absurd (true≢false (sym is_true))

  module _ (new : Volume) (flown : IsFlown volume new) where
    abbrev blocks : List (List ℕ)
    blocks = new.writer.ring.blocks

    abbrev flying_writer : Writer
    flying_writer = with_entry blocks next_entry (oldest_needed volume) volume.writer

    abbrev starts : List ℕ
    starts = volume.writer.starts ++ volume.writer.ring.next ∷ []

    taken : length blocks ≡ count
    taken = flown.sealed.blocks.count ∙ parts_are volume is ring flown.sealed.valid.in_range.all_roots

    some_start_is : 0 < length volume.writer.starts
    some_start_is = some_start volume is ring

    more_starts : length starts ≡ length volume.writer.starts + 1
    more_starts = length-append volume.writer.starts (volume.writer.ring.next ∷ [])

    rising_then : AreRising (volume.writer.ring.next + length blocks) starts
    rising_then = let some = some_block mirrors next_entry.changes.updates in let same = taken in rising_push volume.writer.ring.next (volume.writer.ring.next + length blocks) volume.writer.starts (omega (arith, some, same)) room.rising

    -- What is left of the starts once the entry is durable begins later, by at least one for each that it passes.
    landed_later : volume.writer.durable.first + passed (oldest_needed volume) flying_writer ≤ first_start (drop (passed (oldest_needed volume) flying_writer) starts)
    landed_later =
        let more = more_starts in
        let some = some_start_is in
        let later = rising_later (volume.writer.ring.next + length blocks) (passed (oldest_needed volume) flying_writer) starts (omega (arith, more, some)) rising_then in
        let first = ring.first in
        let same = first_stays volume.writer.starts (volume.writer.ring.next ∷ []) some_start_is in
        omega (arith, later, first, same)

    needed_is : needs_entry volume ≡ true
    needed_is = by (needs_entry volume) refl (sym (ap (λ (flight : Option Flight). stage_by flight (needs_entry volume) volume.writer) free) ∙ flown.stage.stage_is)
      where
        by : (needed : Bool) → needs_entry volume ≡ needed → stage_by None (needs_entry volume) volume.writer ≡ Seal → needs_entry volume ≡ true
        by true is stage = is
        by false is stage = absurd (rest_seals_nothing (sym (ap (λ (b : Bool). cond b Seal Rest) is) ∙ stage))

    -- Where one entry alone is needed, the ring is nearly free.
    alone : volume.writer.durable.sequence ≤ volume.writer.durable.oldest → volume.writer.ring.next ≤ volume.writer.durable.first + 64
    alone most =
        let count : volume.writer.durable.oldest + length volume.writer.starts ≡ volume.writer.durable.sequence + 1 = ring.count ∙ ap (λ (flight : Option Flight). last_sealed flight volume.writer.durable.sequence + 1) free in
        let needs = ring.needs in
        let zero_is : length volume.writer.starts - 1 ≡ 0 = omega (arith, count, needs, most) in
        let last : last_start volume.writer.starts ≡ first_start volume.writer.starts = ap (λ (n : ℕ). slice_index_or volume.writer.starts n 0) zero_is in
        let few = ring.few in
        let first = ring.first in
        omega (arith, last, few, first)

    landed_then : volume.writer.ring.next + length blocks + kept_blocks ≤ first_start (drop (passed (oldest_needed volume) flying_writer) starts) + volume.layout.journal
    landed_then = by (is_waiting volume) refl
      where
        by : (waits : Bool) → is_waiting volume ≡ waits → volume.writer.ring.next + length blocks + kept_blocks ≤ first_start (drop (passed (oldest_needed volume) flying_writer) starts) + volume.layout.journal
        by true waits = let most = leaves_kept waits in let later = landed_later in let same = taken in omega (arith, most, later, same)
        by false waits =
            let one = takes_one waits in
            let later = landed_later in
            let same = taken in
            let before = landed_now in
            let more = more_starts in
            let some = some_start_is in
            let least = (layout_found volume.layout is.placed).journal_range.0 in
            ⊎_elim
            (λ (most : volume.writer.durable.sequence ≤ volume.writer.durable.oldest). let free_ring = alone most in let kept : kept_blocks ≡ 64 = refl in omega (arith, one, later, same, free_ring, least, kept))
            (λ (less : volume.writer.durable.oldest < oldest_needed volume). omega (arith, one, later, same, before, more, some, less))
            (passes_one waits needed_is)

    -- What waits then waited before.
    waiting_left : (closed : List Pending) → volume.queue.closed ≡ closed
        → (not (length (left_by closed volume.queue).closed == 0) || not (length (left_by closed volume.queue).open_entry.changes.updates == 0) || not ((left_by closed volume.queue).open_entry.commits == (first_of closed volume.queue.open_entry).commits)) ≡ true
        → last_block (left_by closed volume.queue) + 1 + kept_blocks ≤ volume.writer.durable.first + volume.layout.journal
    waiting_left [] closed waits = absurd (true≢false (sym waits ∙ ap not (eq-eqb volume.queue.open_entry.commits volume.queue.open_entry.commits refl)))
    waiting_left (entry ∷ later) closed waits = room.waiting (some_waits (ap (λ (c : List Pending). length c) closed))
      where
        some_waits : length volume.queue.closed ≡ suc (length later) → is_waiting volume ≡ true
        some_waits long = by_test (length volume.queue.closed == 0) refl
          where
            by_test : (b : Bool) → (length volume.queue.closed == 0) ≡ b → is_waiting volume ≡ true
            by_test true none = let zero_is = eqb-true (length volume.queue.closed) 0 none in absurd (omega (arith, zero_is, long))
            by_test false some = ap (λ (b : Bool). not b || not (length volume.queue.open_entry.changes.updates == 0) || not (commits_of volume == (settled volume.writer).durable.commits)) some

    -- No bucket waits for an open entry without updates.
    let_go_left : (closed : List Pending) → volume.queue.closed ≡ closed → AreFollowed mirrors closed volume.queue.open_entry → (left_by closed volume.queue).closed ≡ [] → length (left_by closed volume.queue).open_entry.changes.updates ≡ 0 → (left_by closed volume.queue).open_entry.after < volume.emptied → ⊥
    let_go_left [] closed followed none no_updates waits = let most = room.emptied in omega (arith, most, waits)
    let_go_left (entry ∷ []) closed followed none no_updates waits = let has = followed.0.has_keys in omega (arith, has, no_updates)
    let_go_left (entry ∷ other ∷ later) closed followed none no_updates waits = absurd cc

    flown_room : KeepsRoom (record volume { queue = without_oldest volume.queue; writer = flying_writer })
    flown_room = record {
      emptied = let before = room.emptied in let more = open_left volume.queue.closed volume.queue in omega (arith, before, more);
      first = room.first;
      next =
          let behind = oldest_left volume.queue.closed volume.queue ring.row in
          let same = taken in
          let before = room.next in
          omega (arith, behind, same, before);
      rising = rising_then;
      waiting = waiting_left volume.queue.closed refl;
      flying = let most = leaves_most in let same = taken in omega (arith, most, same);
      landed = landed_then;
      noted = room.noted;
      let_go = λ closed none waits. absurd (let_go_left volume.queue.closed refl parts.queue.followed closed none waits);
    }

    -- The oldest entry that waits is put in flight.
    pub room_flown : KeepsRoom new
    room_flown = subst KeepsRoom (sym (flown.rest ∙ ap (λ (writer : Writer). record volume { queue = without_oldest volume.queue; writer = writer }) flown.sealed.is)) flown_room

-- The entry that is written next takes at most 64 blocks.
next_few : (volume : Volume) → KeepParts volume → blocks_with volume.queue.mirrors (oldest volume.queue).changes.updates ≤ 64
next_few volume parts = by volume.queue.closed parts.queue.closed_changes
  where
    by : (closed : List Pending) → All (λ (entry : Pending). AreChanges volume.queue.mirrors entry.changes) closed → blocks_with volume.queue.mirrors (first_of closed volume.queue.open_entry).changes.updates ≤ 64
    by [] all = parts.queue.open_changes.few
    by (entry ∷ later) all = (All-head (λ (e : Pending). AreChanges volume.queue.mirrors e.changes) entry later all).few

-- The next entry finds room, whenever none is in flight.
pub room_for_next : (volume : Volume) → IsVolume volume → KeepParts volume → IsTrees volume.trees → KeepsRing volume → KeepsRoom volume → HasRoomForNext volume
room_for_next volume is parts trees ring room free = next_fits volume is parts ring room free (parts_are volume is ring (length-map volume.trees.nodes root_of ∙ trees.node_count)) (next_few volume parts)

-- ---- an entry that becomes durable

no_starts : (starts : List ℕ) → length starts ≡ 0 → starts ≡ []
no_starts [] none = refl
no_starts (one ∷ starts) none = absurd (omega (arith, none))

-- The entry in flight becomes the last durable one.
pub room_settled : (volume : Volume) → IsVolume volume → KeepsRing volume → KeepsRoom volume → KeepsRoom (settled_volume volume)
room_settled volume is ring room = by volume.writer.flight is.in_turn.flying room.waiting room.landed room.let_go
  where
    then : Option Flight → Volume
    then flight = record (with_writer (settled_by flight volume.writer) volume) { space = (settled_volume volume).space }

    by : (flight : Option Flight) → IfSome flight (λ (some : Flight). some.entry.after ≡ volume.writer.durable.sequence)
        → ((not (length volume.queue.closed == 0) || not (length volume.queue.open_entry.changes.updates == 0) || not (commits_of volume == (settled_by flight volume.writer).durable.commits)) ≡ true → last_block volume.queue + 1 + kept_blocks ≤ volume.writer.durable.first + volume.layout.journal)
        → volume.writer.ring.next + kept_blocks ≤ (settled_by flight volume.writer).durable.first + volume.layout.journal
        → (volume.queue.closed ≡ [] → length volume.queue.open_entry.changes.updates ≡ 0 → volume.queue.open_entry.after < volume.emptied → LetsGo (settled_by flight volume.writer).durable volume.pins)
        → KeepsRoom (then flight)
    by None flying waiting landed let_go = record {
      emptied = room.emptied;
      first = room.first;
      next = room.next;
      rising = room.rising;
      waiting = room.waiting;
      flying = room.flying;
      landed = room.landed;
      noted = room.noted;
      let_go = room.let_go;
    }
    by (Some flight) flying waiting landed let_go = record {
      emptied = room.emptied;
      first = refl;
      next = room.next;
      rising = rising_drop volume.writer.ring.next count volume.writer.starts room.rising;
      waiting = λ waits. let most = waiting waits in let less = later in omega (arith, most, less);
      flying = let most = landed in omega (arith, most);
      landed = landed;
      noted = All-weaker (IsNotedAfter volume.writer.durable.sequence volume.pins volume.later) (IsNotedAfter (flight.entry.after + 1) volume.pins volume.later)
          (λ node noted pin at. let before = noted pin at in let most = before.0 in (omega (arith, most, flying), before.1)) (frozen_nodes volume.work) room.noted;
      let_go = let_go;
    }
      where
        count : ℕ
        count = passed flight.oldest volume.writer

        later : volume.writer.durable.first ≤ first_start (drop count volume.writer.starts)
        later = by_length (length volume.writer.starts) refl
          where
            by_length : (long : ℕ) → length volume.writer.starts ≡ long → volume.writer.durable.first ≤ first_start (drop count volume.writer.starts)
            by_length zero long = let first = ring.first in let none = no_starts volume.writer.starts long in let here : first_start volume.writer.starts ≡ 0 = ap first_start none in omega (arith, first, here)
            by_length (suc long) is_long =
                let more = rising_later volume.writer.ring.next count volume.writer.starts (omega (arith, is_long)) room.rising in
                let first = ring.first in
                omega (arith, more, first)

-- ---- a leaf that is frozen

module _ (volume : Volume) (is : IsVolume volume) (parts : KeepParts volume) (ring : KeepsRing volume) (room : KeepsRoom volume) (node : ℕ) (new : Volume) (frozen : IsLeafFrozen node volume new) where
  abbrev noted_later : List (ℕ × ℕ)
  noted_later = put_at nat_cmp node (first_with frozen.btree (undurable_in volume)) volume.later

  -- What the leaf pins is durable, since it was due.
  due_durable : (pin : ℕ) → value_at nat_cmp node volume.pins ≡ Some pin → pin ≤ volume.writer.durable.sequence
  due_durable pin pinned =
      let stage = freezing_is volume node frozen.stage.stage_is in
      let birth : (root_in volume.trees.nodes frozen.btree).birth ≡ node =
      same_Some (root_in volume.trees.nodes frozen.btree).birth node (sym (ap (option_map (λ (btree : Btree). (root_in volume.trees.nodes btree).birth)) frozen.due) ∙ stage.1) in
      let due = first_passes (is_due volume.writer.durable.sequence volume.trees.nodes volume.pins volume.work.finished) all_btrees frozen.btree frozen.due in
      let up_to = (and_parts _ _ (and_parts _ _ due).1).1 in
      leb-true pin volume.writer.durable.sequence (sym (ap (is_pinned_up_to volume.writer.durable.sequence) (ap (λ (b : ℕ). value_at nat_cmp b volume.pins) birth ∙ pinned)) ∙ up_to)

  -- The first entry that isn't durable and changes its btree is newer.
  first_newer : (number : ℕ) → first_with frozen.btree (undurable_in volume) ≡ Some number → volume.writer.durable.sequence < number
  first_newer number is_first = first-behind frozen.btree volume.writer.durable.sequence (undurable_in volume) number (by volume.writer.flight is.in_turn.flying is.in_turn.waiting_ones) is_first
    where
      by : (flight : Option Flight) → IfSome flight (λ (some : Flight). some.entry.after ≡ volume.writer.durable.sequence) → (oldest volume.queue).after ≡ last_sealed flight volume.writer.durable.sequence
          → AreBehind volume.writer.durable.sequence (undurable (in_flight flight) volume.queue)
      by None flying turn = waiting-behind volume.writer.durable.sequence volume.queue parts.queue (omega (arith, turn))
      by (Some flight) flying turn = (omega (arith, flying), waiting-behind flight.entry.after volume.queue parts.queue (omega (arith, turn)))

  -- What is noted of a leaf is still newer than what it pins, and of the one that is frozen now too.
  noted_still : (other : FrozenNode) → IsNotedAfter volume.writer.durable.sequence volume.pins volume.later other → IsNotedAfter volume.writer.durable.sequence volume.pins noted_later other
  noted_still other noted pin pinned = (
    (noted pin pinned).0,
    λ number at. by (is_at (nat_cmp node) other.birth) refl number (sym (value_at-put_at nat_cmp_total node (first_with frozen.btree (undurable_in volume)) other.birth volume.later ring.later_rises) ∙ at),
  )
    where
      by : (b : Bool) → is_at (nat_cmp node) other.birth ≡ b → (number : ℕ) → cond b (first_with frozen.btree (undurable_in volume)) (value_at nat_cmp other.birth volume.later) ≡ Some number → pin < number
      by true here number at = let low = (noted pin pinned).0 in let newer = first_newer number at in omega (arith, low, newer)
      by false there number at = (noted pin pinned).1 number at

  noted_here : (other : FrozenNode) → other.birth ≡ node → IsNotedAfter volume.writer.durable.sequence volume.pins noted_later other
  noted_here other same pin pinned =
      let low = due_durable pin (ap (λ (b : ℕ). value_at nat_cmp b volume.pins) (sym same) ∙ pinned) in (
        low,
        λ number at.
            let newer =
            first_newer number
            (sym (ap (λ (b : Bool). cond b (first_with frozen.btree (undurable_in volume)) (value_at nat_cmp other.birth volume.later)) (ap (is_at (nat_cmp node)) same ∙ birth_itself node))
            ∙ sym (value_at-put_at nat_cmp_total node (first_with frozen.btree (undurable_in volume)) other.birth volume.later ring.later_rises) ∙ at) in
            omega (arith, low, newer),
      )

  abbrev frozen_one : FrozenNode
  frozen_one = record { btree = frozen.btree; birth = node; fresh = fresh_leaf volume.session volume.work.born volume.layout.metadata_replicas volume.space; blocked = frozen.frozen.blocked }

  noted_then_all : All (IsNotedAfter volume.writer.durable.sequence volume.pins noted_later) (frozen_nodes new.work)
  noted_then_all =
      let Still : FrozenNode → Type 0 = IsNotedAfter volume.writer.durable.sequence volume.pins noted_later in
      let finished : All Still volume.work.finished =
      All-weaker (IsNotedAfter volume.writer.durable.sequence volume.pins volume.later) Still noted_still volume.work.finished
      (subst (λ (nodes : List FrozenNode). All (IsNotedAfter volume.writer.durable.sequence volume.pins volume.later) nodes) (all_finished volume.work.finished volume.work.unfinished (freezing_is volume node frozen.stage.stage_is).0) room.noted) in
      subst (λ (work : NodeWork). All Still (frozen_nodes work)) (sym frozen.frozen.is) (All-append Still volume.work.finished (frozen_one ∷ []) finished (All-cons Still frozen_one [] (noted_here frozen_one refl) (All-nil Still)))

  -- A leaf is frozen.
  pub room_frozen : KeepsRoom new
  room_frozen = subst KeepsRoom (sym frozen.rest) (record {
    emptied = room.emptied;
    first = room.first;
    next = room.next;
    rising = room.rising;
    waiting = room.waiting;
    flying = room.flying;
    landed = room.landed;
    noted = noted_then_all;
    let_go = room.let_go;
  })

-- ---- parts and blocks that are written, devices that are flushed, and a session that stops writing

-- The newest entry is the same where of the writer only what is written and what isn't settled has changed.
landed_same : (one other : Writer) → one.flight ≡ other.flight → one.starts ≡ other.starts → one.durable ≡ other.durable → (settled one).durable ≡ (settled other).durable
landed_same one other flight starts durable = ap (λ (f : Option Flight). (settled_by f one).durable) flight ∙ by other.flight
  where
    by : (f : Option Flight) → (settled_by f one).durable ≡ (settled_by f other).durable
    by None = durable
    by (Some f) =
        ap (λ (d : Durable). record { sequence = f.entry.after + 1; commits = f.entry.commits; oldest = f.oldest; first = first_start (drop (min (f.oldest - d.oldest) (length one.starts - 1)) one.starts) }) durable
        ∙ ap (λ (s : List ℕ). record { sequence = f.entry.after + 1; commits = f.entry.commits; oldest = f.oldest; first = first_start (drop (min (f.oldest - other.durable.oldest) (length s - 1)) s) }) starts

-- So the room is kept then.
room_with : (volume : Volume) (writer : Writer) → writer.ring.next ≡ volume.writer.ring.next → writer.ring.first ≡ volume.writer.ring.first → writer.starts ≡ volume.writer.starts → writer.durable ≡ volume.writer.durable → writer.flight ≡ volume.writer.flight → KeepsRoom volume
    → KeepsRoom (with_writer writer volume)
room_with volume writer next first starts durable flight room =
    let landed = landed_same writer volume.writer flight starts durable in
    let first_durable : writer.durable.first ≡ volume.writer.durable.first = ap (λ (d : Durable). d.first) durable in
    record {
      emptied = room.emptied;
      first = first ∙ room.first ∙ sym first_durable;
      next = subst (λ (n : ℕ). n ≤ (oldest volume.queue).behind + 1) (sym next) room.next;
      rising = subst (λ (n : ℕ). AreRising n writer.starts) (sym next) (subst (AreRising volume.writer.ring.next) (sym starts) room.rising);
      waiting = λ waits.
          let most = room.waiting (sym (ap (λ (d : Durable). not (length volume.queue.closed == 0) || not (length volume.queue.open_entry.changes.updates == 0) || not (commits_of volume == d.commits)) landed) ∙ waits) in
          omega (arith, most, first_durable);
      flying = let most = room.flying in omega (arith, most, next, first_durable);
      landed = let most = room.landed in let same : (settled writer).durable.first ≡ (settled volume.writer).durable.first = ap (λ (d : Durable). d.first) landed in omega (arith, most, next, same);
      noted = subst (λ (d : Durable). All (IsNotedAfter d.sequence volume.pins volume.later) (frozen_nodes volume.work)) (sym durable) room.noted;
      let_go = λ closed none waits. subst (λ (d : Durable). LetsGo d volume.pins) (sym landed) (room.let_go closed none waits);
    }

pub room_part : (volume : Volume) → KeepsRoom volume → KeepsRoom (with_writer (with_next_part volume.writer) volume)
room_part volume room = room_with volume (with_next_part volume.writer) refl refl refl refl refl room

pub room_unsettled : (volume : Volume) → KeepsRoom volume → KeepsRoom (with_writer (unsettled_by volume.writer) volume)
room_unsettled volume room = room_with volume (unsettled_by volume.writer) refl refl refl refl refl room

pub room_flushed : (volume : Volume) (dev : ℕ) → KeepsRoom volume → KeepsRoom (with_writer (with_flushed dev volume.writer) volume)
room_flushed volume dev room = room_with volume (with_flushed dev volume.writer) refl refl refl refl refl room

pub room_halted : (volume : Volume) (halt : Halt) → KeepsRoom volume → KeepsRoom (halted_at halt volume)
room_halted volume halt room = record { emptied = room.emptied; first = room.first; next = room.next; rising = room.rising; waiting = room.waiting; flying = room.flying; landed = room.landed; noted = room.noted; let_go = room.let_go }

-- A block of a frozen leaf is written.
pub room_block : (volume : Volume) → KeepsRoom volume → KeepsRoom (with_block volume)
room_block volume room =
    let then = room_unsettled volume room in
    record {
      emptied = then.emptied;
      first = then.first;
      next = then.next;
      rising = then.rising;
      waiting = then.waiting;
      flying = then.flying;
      landed = then.landed;
      noted = subst (λ (nodes : List FrozenNode). All (IsNotedAfter volume.writer.durable.sequence volume.pins volume.later) nodes) (sym (frozen_same volume.work.unfinished volume.work refl)) then.noted;
      let_go = then.let_go;
    }

-- ---- leaves that are put in place, and work that is given up

module _ (places : PlaceLaws) (volume : Volume) (is : IsVolume volume) (ring : KeepsRing volume) (room : KeepsRoom volume) (new : Volume) (placed : AreInPlace volume new) where
  abbrev newest : Durable
  newest = (settled volume.writer).durable

  -- What the newest entry needs isn't newer than what a node pins, and it comes right behind the last durable one, or is that.
  pinned_low : newest.oldest < newest.sequence → (birth pin : ℕ) → value_at nat_cmp birth volume.pins ≡ Some pin → newest.oldest ≤ pin
  pinned_low needs birth pin pinned = by volume.writer.flight is.held_back.flight needs
    where
      by : (flight : Option Flight) → IfSome flight (IsFlightHeld volume.writer.durable volume.pins) → (settled_by flight volume.writer).durable.oldest < (settled_by flight volume.writer).durable.sequence → (settled_by flight volume.writer).durable.oldest ≤ pin
      by None held needs = let low = pinned-each (needed_by volume.writer.durable) birth pin volume.pins is.held_back.durable pinned in omega (arith, low, needs)
      by (Some flight) held needs = pinned-each flight.oldest birth pin volume.pins held.pinned pinned

  next_newest : newest.sequence ≤ volume.writer.durable.sequence + 1
  next_newest = by volume.writer.flight is.in_turn.flying
    where
      by : (flight : Option Flight) → IfSome flight (λ (some : Flight). some.entry.after ≡ volume.writer.durable.sequence) → (settled_by flight volume.writer).durable.sequence ≤ volume.writer.durable.sequence + 1
      by None flying = omega arith
      by (Some flight) flying = omega (arith, flying)

  none_due : (btree : Btree) → is_due volume.writer.durable.sequence volume.trees.nodes volume.pins volume.work.finished btree ≡ false
  none_due btree =
      All-contains (λ (b : Btree). is_due volume.writer.durable.sequence volume.trees.nodes volume.pins volume.work.finished b ≡ false) all_btrees btree
      (none_passes (is_due volume.writer.durable.sequence volume.trees.nodes volume.pins volume.work.finished) all_btrees
      (map_none (λ (btree : Btree). (root_in volume.trees.nodes btree).birth) (leaf_due volume.writer.durable.sequence volume.trees.nodes volume.pins volume.work.finished) (places_none_due (first_left volume.work) (birth_due volume) volume placed.stage.stage_is)))
      (each_is_one btree)

  -- A node that isn't replaced pins an entry that isn't durable, or it would be due.
  unmoved_newer : (birth number : ℕ) → IsUnmoved volume.pins volume.work.finished birth number → volume.writer.durable.sequence < number
  unmoved_newer birth number unmoved = ⊎_elim
      (λ (newer : volume.writer.durable.sequence < number). newer)
      (λ (most : number ≤ volume.writer.durable.sequence).
      let root = ring.nodes birth number unmoved.pinned in
      let one : (length (levels_of volume.trees.nodes root.0) == 1) ≡ true = eq-eqb (length (levels_of volume.trees.nodes root.0)) 1 (ap (λ (levels : Levels). length levels) (root_alone_in volume.trees.nodes ring.one root.0)) in
      let up_to : is_pinned_up_to volume.writer.durable.sequence (value_at nat_cmp (root_in volume.trees.nodes root.0).birth volume.pins) ≡ true =
      ap (is_pinned_up_to volume.writer.durable.sequence) (ap (λ (b : ℕ). value_at nat_cmp b volume.pins) root.1 ∙ unmoved.pinned) ∙ le-leb number volume.writer.durable.sequence most in
      let unfrozen : not (is_frozen volume.work.finished (root_in volume.trees.nodes root.0).birth) ≡ true = ap not (ap (is_frozen volume.work.finished) root.1 ∙ none_frozen volume.work.finished birth unmoved.apart) in
      absurd (true≢false (sym (and_from _ _ one (and_from _ _ unfrozen up_to)) ∙ none_due root.0)))
      (cases_lt volume.writer.durable.sequence number)

  -- What a leaf that is put in place pins then is newer than what the one before it pinned.
  placed_newer : newest.oldest < newest.sequence → (birth number : ℕ) → IsPlaced volume.later volume.work.finished birth number → newest.oldest < number
  placed_newer needs birth number one = by (value_at nat_cmp one.node.birth volume.pins) refl (All-contains (IsFrozenLeaf volume.trees.nodes volume.pins) volume.work.finished one.node (frozen_leaves places volume is ring new placed).each one.member).pinned
    where
      noted : IsNotedAfter volume.writer.durable.sequence volume.pins volume.later one.node
      noted = All-contains (IsNotedAfter volume.writer.durable.sequence volume.pins volume.later) volume.work.finished one.node
          (subst (λ (nodes : List FrozenNode). All (IsNotedAfter volume.writer.durable.sequence volume.pins volume.later) nodes) (all_finished volume.work.finished volume.work.unfinished (none_left (first_left volume.work) (birth_due volume) volume placed.stage.stage_is)) room.noted) one.member

      by : (before : Option ℕ) → value_at nat_cmp one.node.birth volume.pins ≡ before → IsSome before → newest.oldest < number
      by None pinned some = absurd (true≢false (sym some))
      by (Some pin) pinned some =
          let low = pinned_low needs one.node.birth pin pinned in
          let newer = (noted pin pinned).1 number one.noted in
          omega (arith, low, newer)

  -- The frozen leaves are put in place.
  pub room_placed : KeepsRoom new
  room_placed = subst KeepsRoom (sym placed.rest) (record {
    emptied = omega arith;
    first = room.first;
    next = room.next;
    rising = room.rising;
    waiting = room.waiting;
    flying = room.flying;
    landed = room.landed;
    noted = All-nil (IsNotedAfter volume.writer.durable.sequence (moved_pins volume.work.finished volume.later volume.pins) []);
    let_go = λ closed none waits. lets_go newest (moved_pins volume.work.finished volume.later volume.pins)
        (λ needs birth number at. ⊎_elim
        (λ (one : IsPlaced volume.later volume.work.finished birth number). placed_newer needs birth number one)
        (λ (other : IsUnmoved volume.pins volume.work.finished birth number). let newer = unmoved_newer birth number other in let next = next_newest in omega (arith, needs, newer, next))
        (placed_pinned places volume is ring new placed birth number at));
  })

pub room_given_up : (volume : Volume) → KeepsRoom volume → KeepsRoom (given_up volume)
room_given_up volume room = record {
  emptied = room.emptied;
  first = room.first;
  next = room.next;
  rising = room.rising;
  waiting = room.waiting;
  flying = room.flying;
  landed = room.landed;
  noted = All-nil (IsNotedAfter volume.writer.durable.sequence volume.pins []);
  let_go = room.let_go;
}

-- A leaf isn't frozen, and the work is given up or not.
pub room_refused : (refusal : Refusal) (volume : Volume) → KeepsRoom volume → KeepsRoom (after_refused refusal volume)
room_refused (refusals.Halted halt) volume room = room
room_refused (refusals.NeedSplit need) volume room = room
room_refused refusals.Spent volume room = room
room_refused (refusals.RingFull full) volume room = room
room_refused (refusals.NoSpace none) volume room = room_given_up volume room
