-- No node pins an older entry than the durable entries need: after a commit, where an entry is put in flight, and where it becomes durable.
use Rattle.std.proofs.Common.{◌≡◌, ℕ, ◌+◌, ◌≤◌, Bool, true, false, cond, min, Option, Some, None, List, [], ◌∷◌, ◌++◌, refl, sym, ap, ◌∙◌, subst, arith}
use Rattle.std.specs.Prelude.{IfSome}
use Rattle.std.specs.Ordering.{is_eq, match_ordering, nat_cmp}
use Rattle.std.specs.declared.cmp.Ordering.{Ordering}
use Rattle.std.specs.declared.cmp.Ordering.TheVariants.{Less, Equal, Greater}
use Rattle.std.proofs.lemmas.Option.{same_Some, none-some as none_some}
use Rattle.dirty_nodes.specs.Dirty.{with_pins}
use Rattle.journal_writer.specs.Queues.{AreFollowed, Queue, closes, first_of, follower_of, readied}
use Rattle.journal_writer.specs.declared.changes.Pending.{Pending}
use Rattle.journal_writer.specs.Writers.{Writer, settled_by, with_entry}
use Rattle.journal_writer.specs.declared.writer.Flight.{Flight}
use Rattle.pin_list.specs.Pins.{least_pin, smaller, with_pin}
use Rattle.vol_types.specs.Maps.{value_at, with_value}
use Rattle.vol_types.specs.declared.keys.Update.{Update}
use Rattle.core_volume.specs.HoldLaws.{least-found}
use Rattle.core_volume.specs.Volumes.{AreInTurn, ArePinnedFrom, HoldsBack, IsFlightHeld, last_sealed, needed_by}

-- The least pin after one more is the smaller of it and the least one before.
pub least-pin : (node seq : ℕ) (pins : List (ℕ × ℕ)) → least_pin (with_pin node seq pins) ≡ Some (smaller seq (least_pin pins))
least-pin node seq [] = refl
least-pin node seq (pin ∷ pins) = by (nat_cmp node pin.0) (least-pin node seq pins)
  where
    -- before all others, where one with this node may stand behind them
    front : (o : Option ℕ) → value_at nat_cmp node pins ≡ o → Some (smaller (smaller seq o) (Some (smaller pin.1 (least_pin pins)))) ≡ Some (smaller seq (Some (smaller pin.1 (least_pin pins))))
    front None is = refl
    front (Some before) is = least (least_pin pins) (least-found node before pins is)
      where
        least : (l : Option ℕ) → Some (smaller before l) ≡ l → Some (smaller (smaller seq (Some before)) (Some (smaller pin.1 l))) ≡ Some (smaller seq (Some (smaller pin.1 l)))
        least None same = absurd (none_some _ (sym same))
        least (Some low) same = let le : min before low ≡ low = same_Some _ _ same in ap Some (omega (arith, le))

    replaced : (l : Option ℕ) → Some (smaller (smaller seq (Some pin.1)) l) ≡ Some (smaller seq (Some (smaller pin.1 l)))
    replaced None = refl
    replaced (Some low) = ap Some (omega arith)

    behind : (l : Option ℕ) → Some (smaller pin.1 (Some (smaller seq l))) ≡ Some (smaller seq (Some (smaller pin.1 l)))
    behind None = ap Some (omega arith)
    behind (Some low) = ap Some (omega arith)

    by : (o : Ordering) → least_pin (with_pin node seq pins) ≡ Some (smaller seq (least_pin pins))
        → least_pin (match_ordering o
        ((node, smaller seq (cond (is_eq o) (Some pin.1) (value_at nat_cmp node pins))) ∷ pin ∷ pins)
        ((pin.0, smaller seq (cond (is_eq o) (Some pin.1) (value_at nat_cmp node pins))) ∷ pins)
        (pin ∷ with_value nat_cmp node (smaller seq (cond (is_eq o) (Some pin.1) (value_at nat_cmp node pins))) pins))
        ≡ Some (smaller seq (Some (smaller pin.1 (least_pin pins))))
    by Less rest = front (value_at nat_cmp node pins) refl
    by Equal rest = replaced (least_pin pins)
    by Greater rest = ap (λ (o : Option ℕ). Some (smaller pin.1 o)) rest ∙ behind (least_pin pins)

-- No node pins an older entry than before, once further ones are pinned at one that isn't older.
pub pinned-from : (first seq : ℕ) (births : List ℕ) (pins : List (ℕ × ℕ)) → first ≤ seq → ArePinnedFrom first pins → ArePinnedFrom first (with_pins seq births pins)
pinned-from first seq [] pins le from = from
pinned-from first seq (birth ∷ births) pins le from =
    pinned-from first seq births (with_pin birth seq pins) le
    (subst (λ (o : Option ℕ). IfSome o (λ pin. first ≤ pin)) (sym (least-pin birth seq pins)) (by (least_pin pins) from))
  where
    by : (o : Option ℕ) → IfSome o (λ pin. first ≤ pin) → first ≤ smaller seq o
    by None from = le
    by (Some pin) from = omega (arith, le, from)

-- The first of the entries that wait isn't newer than the open one.
first-before : (mirrors : ℕ) (closed : List Pending) (open_entry : Pending) → AreFollowed mirrors closed open_entry → (first_of closed open_entry).after ≤ open_entry.after
first-before mirrors [] open_entry followed = omega arith
first-before mirrors (entry ∷ later) open_entry followed = let rest = first-before mirrors later open_entry followed.1 in let next = followed.0.sequence in omega (arith, rest, next)

readied-after : (updates : List Update) (queue : Queue) → queue.open_entry.after ≤ (readied updates queue).open_entry.after
readied-after updates queue = by (closes updates queue)
  where
    by : (b : Bool) → queue.open_entry.after ≤ (cond b (record { mirrors = queue.mirrors; closed = queue.closed ++ queue.open_entry ∷ []; open_entry = follower_of queue.mirrors queue.open_entry }) queue).open_entry.after
    by true = omega arith
    by false = omega arith

-- The last entry that was put in flight isn't newer than the open one that updates join.
sealed-before : (writer : Writer) (queue : Queue) (updates : List Update) → AreInTurn writer queue → AreFollowed queue.mirrors queue.closed queue.open_entry
    → last_sealed writer.flight writer.durable.sequence ≤ (readied updates queue).open_entry.after
sealed-before writer queue updates turn followed =
    let first = first-before queue.mirrors queue.closed queue.open_entry followed in
    let ready = readied-after updates queue in
    let is = turn.waiting_ones in
    omega (arith, first, ready, is)

module _ (writer : Writer) (queue : Queue) (pins : List (ℕ × ℕ)) (births : List ℕ) (updates : List Update) (held : HoldsBack writer pins) (turn : AreInTurn writer queue) (followed : AreFollowed queue.mirrors queue.closed queue.open_entry)
    (joins : ℕ) (is : joins ≡ (readied updates queue).open_entry.after + 1) where
  -- A commit pins nodes at the entry that it joins.
  pub joined-held : HoldsBack writer (with_pins joins births pins)
  joined-held =
      let before = sealed-before writer queue updates turn followed in
      record {
        durable = pinned-from (needed_by writer.durable) joins births pins (durable_before writer.flight held.flight turn.flying before) held.durable;
        flight = flying_held writer.flight held.flight turn.flying before;
      }
    where
      durable_before : (o : Option Flight) → IfSome o (IsFlightHeld writer.durable pins) → IfSome o (λ flight. flight.entry.after ≡ writer.durable.sequence)
          → last_sealed o writer.durable.sequence ≤ (readied updates queue).open_entry.after → needed_by writer.durable ≤ joins
      durable_before None back flies le = omega (arith, le, is)
      durable_before (Some flight) back flies le = omega (arith, le, flies, is)

      flying_held : (o : Option Flight) → IfSome o (IsFlightHeld writer.durable pins) → IfSome o (λ flight. flight.entry.after ≡ writer.durable.sequence)
          → last_sealed o writer.durable.sequence ≤ (readied updates queue).open_entry.after → IfSome o (IsFlightHeld writer.durable (with_pins joins births pins))
      flying_held None back flies le = tt
      flying_held (Some flight) back flies le = record {
        from = back.from;
        to = back.to;
        pinned = pinned-from flight.oldest joins births pins (let to = back.to in omega (arith, to, le, is)) back.pinned;
      }

module _ (writer : Writer) (pins : List (ℕ × ℕ)) (held : HoldsBack writer pins) where
  -- An entry is put in flight that follows the last durable one, and needs the entries from the least pin on.
  pub flown-held : (entry : Pending) → entry.after ≡ writer.durable.sequence → (blocks : List (List ℕ)) → HoldsBack (with_entry blocks entry (smaller (entry.after + 1) (least_pin pins)) writer) pins
  flown-held entry follows blocks = record {
    durable = held.durable;
    flight = record {
      from = from (least_pin pins) held.durable;
      to = to (least_pin pins);
      pinned = pinned (least_pin pins);
    };
  }
    where
      from : (o : Option ℕ) → IfSome o (λ pin. needed_by writer.durable ≤ pin) → needed_by writer.durable ≤ smaller (entry.after + 1) o
      from None back = omega (arith, follows)
      from (Some pin) back = omega (arith, follows, back)

      to : (o : Option ℕ) → smaller (entry.after + 1) o ≤ entry.after + 1
      to None = omega arith
      to (Some pin) = omega arith

      pinned : (o : Option ℕ) → IfSome o (λ pin. smaller (entry.after + 1) o ≤ pin)
      pinned None = tt
      pinned (Some pin) = omega arith

  -- The entry in flight becomes the last durable one.
  pub settled-held : (flight : Flight) → writer.flight ≡ Some flight → HoldsBack (settled_by (Some flight) writer) pins
  settled-held flight flies =
      let back : IsFlightHeld writer.durable pins flight = subst (λ (o : Option Flight). IfSome o (IsFlightHeld writer.durable pins)) flies held.flight in
      record { durable = from (least_pin pins) back.pinned; flight = tt }
    where
      from : (o : Option ℕ) → IfSome o (λ pin. flight.oldest ≤ pin) → IfSome o (λ pin. min flight.oldest (flight.entry.after + 1) ≤ pin)
      from None back = tt
      from (Some pin) back = omega (arith, back)

-- At the opening all pins are at the oldest entry that the last durable one needs, and none is in flight.
pub opened-held : (writer : Writer) (births : List ℕ) → writer.flight ≡ None → HoldsBack writer (with_pins writer.durable.oldest births [])
opened-held writer births none = record {
  durable = pinned-from (needed_by writer.durable) writer.durable.oldest births [] (omega arith) tt;
  flight = subst (λ (o : Option Flight). IfSome o (IsFlightHeld writer.durable (with_pins writer.durable.oldest births []))) (sym none) tt;
}
