-- The pins of roots keep the first of the entries that aren't durable and change their btrees: after a commit, where an entry is put in flight, and
-- where it becomes durable. So do those that are noted of frozen nodes.
use Rattle.std.proofs.Common.{◌≡◌, ℕ, ◌+◌, ◌≤◌, Bool, true, false, cond, Option, Some, None, List, [], ◌∷◌, ◌++◌, refl, sym, ap, ◌∙◌, subst, arith}
use Rattle.std.specs.Prelude.{◌||◌, ◌==◌, All, IsSome}
use Rattle.std.specs.List.{list_any}
use Rattle.std.specs.Option.{option_or}
use Rattle.std.specs.Ordering.{nat_cmp}
use Rattle.std.proofs.lemmas.Bool.{true≢false}
use Rattle.std.proofs.lemmas.List.Elements.{All-cons, All-head, All-nil, All-tail, All-weaker}
use Rattle.std.proofs.lemmas.Option.{same_Some, none-some as none_some}
use Rattle.birth_index.specs.Births.{levels_of}
use Rattle.birth_index.specs.Exchanges.{one_node}
use Rattle.btree_map.specs.Trees.{Trees}
use Rattle.bucket_pool.specs.Space.{Space}
use Rattle.dirty_nodes.specs.Dirty.{changed_nodes, with_pins}
use Rattle.dirty_nodes.specs.PinLaws.{look-pins}
use Rattle.journal_writer.specs.Changes.{changes_btree, changes_of}
use Rattle.journal_writer.specs.FirstLaws.{first-behind, first_append}
use Rattle.journal_writer.specs.Queues.{AreBehind, Queue, closes, first_of, first_with, follower_of, joined, left_by, oldest, readied, waiting_entries, with_commit, without_oldest}
use Rattle.journal_writer.specs.declared.changes.KeyChanges.{KeyChanges}
use Rattle.journal_writer.specs.declared.changes.Pending.{Pending}
use Rattle.journal_writer.specs.Writers.{Writer}
use Rattle.node_writeback.specs.Durable.{undurable}
use Rattle.node_writeback.specs.Placing.{AreFrozenLeaves, IsFrozenLeaf}
use Rattle.node_writeback.specs.NodeWork.{frozen_nodes}
use Rattle.node_writeback.specs.declared.node.FrozenNode.{FrozenNode}
use Rattle.pin_list.specs.Pins.{smaller}
use Rattle.tree_nodes.specs.Levels.{Levels}
use Rattle.vol_types.specs.KeyMaps.{KeyMap, is_update_of}
use Rattle.vol_types.specs.Maps.{value_at}
use Rattle.vol_types.specs.declared.keys.Update.{Update}
use Rattle.vol_types.specs.declared.pointers.NodePtr.{NodePtr}
use Rattle.vol_types.specs.declared.positions.Btree.{Btree}
use Rattle.core_volume.specs.Rulings.{entry_of}
use Rattle.core_volume.specs.Volumes.{ArePinnedByRoots, IsFrozenKept, IsNotNewer, IsPinnedBy, IsWorkKept, Volume, in_flight, undurable_in}
use Rattle.vol_types.specs.declared.failure.Halt.{Halt}

-- the sequence of an entry that updates join, where they change the btree
abbrev pub joining : Btree → List Update → ℕ → Option ℕ
joining btree updates sequence = cond (changes_btree btree updates) (Some sequence) None

-- Updates change a btree, or others after them do.
changes_either : (btree : Btree) (one more : List Update) → changes_btree btree (one ++ more) ≡ (changes_btree btree one || changes_btree btree more)
changes_either btree [] more = refl
changes_either btree (update ∷ updates) more = by (is_update_of btree update) (changes_either btree updates more)
  where
    by : (b : Bool) → changes_btree btree (updates ++ more) ≡ (changes_btree btree updates || changes_btree btree more)
        → (b || changes_btree btree (updates ++ more)) ≡ ((b || changes_btree btree updates) || changes_btree btree more)
    by true rest = refl
    by false rest = rest

-- Of the entries that wait after a commit the first one that changes a btree is the one before it, or else the one that updates join.
first-joined : (btree : Btree) (changes : KeyChanges) (counted : Bool) (queue : Queue)
    → first_with btree (waiting_entries (joined changes counted queue)) ≡ option_or (first_with btree (waiting_entries queue)) (joining btree changes.updates ((readied changes.updates queue).open_entry.after + 1))
first-joined btree changes counted queue = by (closes changes.updates queue)
  where
    either : (o : Option ℕ) (sequence : ℕ) (one more : Bool) → option_or o (cond (one || more) (Some sequence) None) ≡ option_or (option_or o (cond one (Some sequence) None)) (cond more (Some sequence) None)
    either None sequence true more = refl
    either None sequence false more = refl
    either (Some first) sequence one more = refl

    by : (b : Bool)
        → first_with btree ((cond b (record { mirrors = queue.mirrors; closed = queue.closed ++ queue.open_entry ∷ []; open_entry = follower_of queue.mirrors queue.open_entry }) queue).closed
        ++ with_commit changes counted (cond b (record { mirrors = queue.mirrors; closed = queue.closed ++ queue.open_entry ∷ []; open_entry = follower_of queue.mirrors queue.open_entry }) queue).open_entry ∷ [])
        ≡ option_or (first_with btree (waiting_entries queue))
        (joining btree changes.updates ((cond b (record { mirrors = queue.mirrors; closed = queue.closed ++ queue.open_entry ∷ []; open_entry = follower_of queue.mirrors queue.open_entry }) queue).open_entry.after + 1))
    by true = first_append btree (queue.closed ++ queue.open_entry ∷ []) (with_commit changes counted (follower_of queue.mirrors queue.open_entry) ∷ [])
    by false =
        first_append btree queue.closed (with_commit changes counted queue.open_entry ∷ [])
        ∙ ap (λ (b : Bool). option_or (first_with btree queue.closed) (cond b (Some (queue.open_entry.after + 1)) None)) (changes_either btree queue.open_entry.changes.updates changes.updates)
        ∙ either (first_with btree queue.closed) (queue.open_entry.after + 1) (changes_btree btree queue.open_entry.changes.updates) (changes_btree btree changes.updates)
        ∙ ap (λ (o : Option ℕ). option_or o (joining btree changes.updates (queue.open_entry.after + 1))) (sym (first_append btree queue.closed (queue.open_entry ∷ [])))

-- So it is with an entry in flight before them.
pub first-committed : (btree : Btree) (flight : Option Pending) (changes : KeyChanges) (counted : Bool) (queue : Queue)
    → first_with btree (undurable flight (joined changes counted queue)) ≡ option_or (first_with btree (undurable flight queue)) (joining btree changes.updates ((readied changes.updates queue).open_entry.after + 1))
first-committed btree None changes counted queue = first-joined btree changes counted queue
first-committed btree (Some flight) changes counted queue = by (changes_btree btree flight.changes.updates) (first-joined btree changes counted queue)
  where
    by : (b : Bool)
        → first_with btree (waiting_entries (joined changes counted queue)) ≡ option_or (first_with btree (waiting_entries queue)) (joining btree changes.updates ((readied changes.updates queue).open_entry.after + 1))
        → cond b (Some (flight.after + 1)) (first_with btree (waiting_entries (joined changes counted queue)))
        ≡ option_or (cond b (Some (flight.after + 1)) (first_with btree (waiting_entries queue))) (joining btree changes.updates ((readied changes.updates queue).open_entry.after + 1))
    by true rest = refl
    by false rest = rest

-- The first one stays where the oldest entry is put in flight.
pub first-flown : (btree : Btree) (queue : Queue) → first_with btree (undurable (Some (oldest queue)) (without_oldest queue)) ≡ first_with btree (undurable None queue)
first-flown btree queue = by queue.closed
  where
    by : (closed : List Pending) → first_with btree (first_of closed queue.open_entry ∷ waiting_entries (left_by closed queue)) ≡ first_with btree (closed ++ queue.open_entry ∷ [])
    by [] = refl
    by (entry ∷ later) = refl

-- What is pinned at the first entry or before it stays so where the first one grows.
pub pinned-later : (first later pin : Option ℕ) → ((sequence : ℕ) → later ≡ Some sequence → (before : ℕ) × (first ≡ Some before) × (before ≤ sequence)) → IsPinnedBy first pin → IsPinnedBy later pin
pinned-later first later pin grows is sequence at =
    let before = grows sequence at in
    let pinned = is before.0 before.1 in
    (pinned.0, pinned.1, let one = pinned.2 in let two = before.2 in omega (arith, one, two))

-- Once an entry is durable, the first of the later ones is no older.
pub first-settled : (btree : Btree) (flight : Pending) (queue : Queue) → AreBehind (flight.after + 1) (waiting_entries queue) → (pin : Option ℕ)
    → IsPinnedBy (first_with btree (undurable (Some flight) queue)) pin → IsPinnedBy (first_with btree (undurable None queue)) pin
first-settled btree flight queue behind pin is sequence at = by (changes_btree btree flight.changes.updates) is
  where
    by : (b : Bool) → IsPinnedBy (cond b (Some (flight.after + 1)) (first_with btree (waiting_entries queue))) pin → (p : ℕ) × (pin ≡ Some p) × (p ≤ sequence)
    by true is =
        let pinned = is (flight.after + 1) refl in
        let later = first-behind btree (flight.after + 1) (waiting_entries queue) sequence behind at in
        (pinned.0, pinned.1, let one = pinned.2 in omega (arith, one, later))
    by false is = is sequence at

-- What is pinned stays so where more is: at the entry that updates join, where they change the btree, or at what was pinned, if that is older.
pub pinned-more : (b : Bool) (sequence : ℕ) (first pin : Option ℕ) → IsPinnedBy first pin → IsPinnedBy (option_or first (cond b (Some sequence) None)) (cond b (Some (smaller sequence pin)) pin)
pinned-more false sequence None pin is number at = absurd (none_some number at)
pinned-more false sequence (Some first) pin is number at = is number at
pinned-more true sequence None pin is number at = by pin
  where
    same : sequence ≡ number
    same = same_Some sequence number at

    by : (o : Option ℕ) → (p : ℕ) × (Some (smaller sequence o) ≡ Some p) × (p ≤ number)
    by None = (sequence, refl, omega (arith, same))
    by (Some before) = (smaller sequence (Some before), refl, omega (arith, same))
pinned-more true sequence (Some first) pin is number at =
    let pinned = is number at in
    (smaller sequence (Some pinned.0), ap (λ (o : Option ℕ). Some (smaller sequence o)) pinned.1, let le = pinned.2 in omega (arith, le))

-- A pin that isn't newer than another one stays so where both are pinned more.
pub newer-more : (b : Bool) (sequence : ℕ) (pin later : Option ℕ) → IsSome pin → IsNotNewer pin later → IsNotNewer (cond b (Some (smaller sequence pin)) pin) (cond b (Some (smaller sequence later)) later)
newer-more false sequence pin later some is p l one other = is p l one other
newer-more true sequence None later some is p l one other = absurd (true≢false (sym some))
newer-more true sequence (Some pin) None some is p l one other = let p_is = same_Some _ p one in let l_is = same_Some sequence l other in omega (arith, p_is, l_is)
newer-more true sequence (Some pin) (Some later) some is p l one other =
    let le = is pin later refl refl in let p_is = same_Some _ p one in let l_is = same_Some _ l other in omega (arith, le, p_is, l_is)

-- What was pinned still is, once more is.
pub still-pinned : (sequence : ℕ) (births : List ℕ) (pins : List (ℕ × ℕ)) (birth : ℕ) → IsSome (value_at nat_cmp birth pins) → IsSome (value_at nat_cmp birth (with_pins sequence births pins))
still-pinned sequence births pins birth some =
    subst IsSome (sym (look-pins sequence birth births pins)) (by (list_any (λ (b : ℕ). b == birth) births))
  where
    by : (b : Bool) → IsSome (cond b (Some (smaller sequence (value_at nat_cmp birth pins))) (value_at nat_cmp birth pins))
    by true = refl
    by false = some

-- So a pin that isn't newer than what is noted stays so.
pub still-newer : (sequence : ℕ) (births : List ℕ) (pins later : List (ℕ × ℕ)) (birth : ℕ) → IsSome (value_at nat_cmp birth pins) → IsNotNewer (value_at nat_cmp birth pins) (value_at nat_cmp birth later)
    → IsNotNewer (value_at nat_cmp birth (with_pins sequence births pins)) (value_at nat_cmp birth (with_pins sequence births later))
still-newer sequence births pins later birth some is =
    subst (λ (o : Option ℕ). IsNotNewer o (value_at nat_cmp birth (with_pins sequence births later))) (sym (look-pins sequence birth births pins))
    (subst (λ (o : Option ℕ). IsNotNewer (cond (list_any (λ (b : ℕ). b == birth) births) (Some (smaller sequence (value_at nat_cmp birth pins))) (value_at nat_cmp birth pins)) o) (sym (look-pins sequence birth births later))
    (newer-more (list_any (λ (b : ℕ). b == birth) births) sequence (value_at nat_cmp birth pins) (value_at nat_cmp birth later) some is))

-- A fact of each item by a fact of it and another one.
pub each-with : {X : Type 0} (P Q R : X → Type 0) → ((x : X) → P x → Q x → R x) → (xs : List X) → All P xs → All Q xs → All R xs
each-with P Q R both [] ps qs = All-nil R
each-with P Q R both (x ∷ xs) ps qs = All-cons R x xs (both x (All-head P x xs ps) (All-head Q x xs qs)) (each-with P Q R both xs (All-tail P x xs ps) (All-tail Q x xs qs))

-- The first of the entries that aren't durable grows: what was pinned at it or before it is so still.
abbrev pub Grows : List Pending → List Pending → Type 0
Grows old new = (btree : Btree) (pin : Option ℕ) → IsPinnedBy (first_with btree old) pin → IsPinnedBy (first_with btree new) pin

-- Roots pin the first one or an older one still.
pub grown-roots : (nodes : List Levels) (old new : List Pending) (pins : List (ℕ × ℕ)) → Grows old new → ArePinnedByRoots nodes old pins → ArePinnedByRoots nodes new pins
grown-roots nodes old new pins grows are btree root alone = grows btree (value_at nat_cmp root.birth pins) (are btree root alone)

module _ (old : Volume) (is : IsWorkKept old) (queue : Queue) (space : Space) (writer : Writer) (halted : Option Halt) (grows : Grows (undurable_in old) (undurable (in_flight writer.flight) queue)) where
  -- What is kept of frozen nodes stays so then.
  pub grown-work : IsWorkKept (record old { queue = queue; space = space; writer = writer; halted = halted })
  grown-work = record {
    leaves = is.leaves;
    each = All-weaker (IsFrozenKept old) (IsFrozenKept (record old { queue = queue; space = space; writer = writer; halted = halted }))
        (λ (node : FrozenNode) kept. record { placed = kept.placed; born = kept.born; later = grows node.btree (value_at nat_cmp node.birth old.later) kept.later; since = kept.since }) (frozen_nodes old.work) is.each;
  }

-- the pins of the root of a btree that is one node, once updates pin nodes at this entry
abbrev pub PinRoots : List Levels → List Update → ℕ → Type 0
PinRoots nodes updates sequence =
    (btree : Btree) (root : NodePtr) (numbers : List (ℕ × ℕ)) → levels_of nodes btree ≡ one_node root
    → value_at nat_cmp root.birth (with_pins sequence (changed_nodes nodes updates) numbers)
    ≡ cond (changes_btree btree updates) (Some (smaller sequence (value_at nat_cmp root.birth numbers))) (value_at nat_cmp root.birth numbers)

module _ (old : Volume) (updates : List Update) (counted : Bool) (keys : KeyMap) (pin : PinRoots old.trees.nodes updates (entry_of old updates)) where
  -- A root is pinned at the first of the entries that aren't durable, or an older one, after a commit too.
  root-committed : (btree : Btree) (root : NodePtr) (numbers : List (ℕ × ℕ)) → levels_of old.trees.nodes btree ≡ one_node root → IsPinnedBy (first_with btree (undurable_in old)) (value_at nat_cmp root.birth numbers)
      → IsPinnedBy (first_with btree (undurable (in_flight old.writer.flight) (joined (changes_of updates keys) counted old.queue)))
      (value_at nat_cmp root.birth (with_pins (entry_of old updates) (changed_nodes old.trees.nodes updates) numbers))
  root-committed btree root numbers alone is =
      subst (λ (first : Option ℕ). IsPinnedBy first (value_at nat_cmp root.birth (with_pins (entry_of old updates) (changed_nodes old.trees.nodes updates) numbers)))
      (sym (first-committed btree (in_flight old.writer.flight) (changes_of updates keys) counted old.queue))
      (subst (λ (p : Option ℕ). IsPinnedBy (option_or (first_with btree (undurable_in old)) (joining btree updates (entry_of old updates))) p) (sym (pin btree root numbers alone))
      (pinned-more (changes_btree btree updates) (entry_of old updates) (first_with btree (undurable_in old)) (value_at nat_cmp root.birth numbers) is))

  -- The roots of all btrees are.
  pub roots-committed : ArePinnedByRoots old.trees.nodes (undurable_in old) old.pins
      → ArePinnedByRoots old.trees.nodes (undurable (in_flight old.writer.flight) (joined (changes_of updates keys) counted old.queue)) (with_pins (entry_of old updates) (changed_nodes old.trees.nodes updates) old.pins)
  roots-committed are btree root alone = root-committed btree root old.pins alone (are btree root alone)

  -- the volume after a commit, with any keys
  abbrev pub after : Trees → List (ℕ × ℕ) → Volume
  after trees marks = record old {
    trees = trees;
    queue = joined (changes_of updates keys) counted old.queue;
    pins = with_pins (entry_of old updates) (changed_nodes old.trees.nodes updates) old.pins;
    marks = marks;
    later = with_pins (entry_of old updates) (changed_nodes old.trees.nodes updates) old.later;
    changes = old.changes + 1;
  }

  -- What is kept of frozen nodes stays so.
  pub work-committed : (trees : Trees) → trees.nodes ≡ old.trees.nodes → (marks : List (ℕ × ℕ)) → IsWorkKept old → IsWorkKept (after trees marks)
  work-committed trees nodes marks is = record {
    leaves = subst (λ (ns : List Levels). AreFrozenLeaves ns (with_pins (entry_of old updates) (changed_nodes old.trees.nodes updates) old.pins) (frozen_nodes old.work)) (sym nodes) (record {
      each = All-weaker (IsFrozenLeaf old.trees.nodes old.pins) (IsFrozenLeaf old.trees.nodes (with_pins (entry_of old updates) (changed_nodes old.trees.nodes updates) old.pins)) still (frozen_nodes old.work) is.leaves.each;
      apart = is.leaves.apart;
    });
    each = each-with (IsFrozenLeaf old.trees.nodes old.pins) (IsFrozenKept old) (IsFrozenKept (after trees marks)) frozen (frozen_nodes old.work) is.leaves.each is.each;
  }
    where
      still : (node : FrozenNode) → IsFrozenLeaf old.trees.nodes old.pins node → IsFrozenLeaf old.trees.nodes (with_pins (entry_of old updates) (changed_nodes old.trees.nodes updates) old.pins) node
      still node leaf = record {
        root = leaf.root;
        alone = leaf.alone;
        birth = leaf.birth;
        pinned = still-pinned (entry_of old updates) (changed_nodes old.trees.nodes updates) old.pins node.birth leaf.pinned;
        leaf = leaf.leaf;
        unused = leaf.unused;
      }

      frozen : (node : FrozenNode) → IsFrozenLeaf old.trees.nodes old.pins node → IsFrozenKept old node → IsFrozenKept (after trees marks) node
      frozen node leaf kept = record {
        placed = kept.placed;
        born = kept.born;
        later =
            subst (λ (birth : ℕ). IsPinnedBy (first_with node.btree (undurable (in_flight old.writer.flight) (joined (changes_of updates keys) counted old.queue))) (value_at nat_cmp birth (with_pins (entry_of old updates) (changed_nodes old.trees.nodes updates) old.later))) leaf.birth
            (root-committed node.btree leaf.root old.later leaf.alone
            (subst (λ (birth : ℕ). IsPinnedBy (first_with node.btree (undurable_in old)) (value_at nat_cmp birth old.later)) (sym leaf.birth) kept.later));
        since = still-newer (entry_of old updates) (changed_nodes old.trees.nodes updates) old.pins old.later node.birth leaf.pinned kept.since;
      }
