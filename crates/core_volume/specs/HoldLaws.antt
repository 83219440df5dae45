-- What pins hold back: laws on the least pin, and on the entries that aren't durable.
use Rattle.std.proofs.Common.{◌≡◌, ℕ, ◌+◌, ◌≤◌, Bool, true, false, cond, min, Option, Some, None, List, [], ◌∷◌, sym, ap, arith}
use Rattle.std.specs.Prelude.{IfSome}
use Rattle.std.specs.BTreeMap.{is_at}
use Rattle.std.specs.Ordering.{nat_cmp}
use Rattle.std.proofs.lemmas.Option.{same_Some, none-some as none_some}
use Rattle.journal_writer.specs.Queues.{oldest}
use Rattle.journal_writer.specs.Writers.{settled, settled_by}
use Rattle.journal_writer.specs.declared.durable.Durable.{Durable}
use Rattle.journal_writer.specs.declared.writer.Flight.{Flight}
use Rattle.pin_list.specs.Pins.{least_pin, smaller}
use Rattle.vol_types.specs.Maps.{value_at}
use Rattle.core_volume.specs.Sealing.{oldest_needed}
use Rattle.core_volume.specs.Volumes.{ArePinnedFrom, IsFlightHeld, IsVolume, Volume, last_sealed, needed_by}

-- A number that is pinned makes the least pin no smaller.
pub least-found : (node seq : ℕ) (pins : List (ℕ × ℕ)) → value_at nat_cmp node pins ≡ Some seq → Some (smaller seq (least_pin pins)) ≡ least_pin pins
least-found node seq [] found = absurd (none_some seq found)
least-found node seq (pin ∷ pins) found = by (is_at (nat_cmp node) pin.0) found (least-found node seq pins)
  where
    later : (o : Option ℕ) → Some (smaller seq o) ≡ o → Some (smaller seq (Some (smaller pin.1 o))) ≡ Some (smaller pin.1 o)
    later None is = absurd (none_some _ (sym is))
    later (Some least) is = let le : min seq least ≡ least = same_Some _ _ is in ap Some (omega (arith, le))

    here : (o : Option ℕ) → pin.1 ≡ seq → Some (smaller seq (Some (smaller pin.1 o))) ≡ Some (smaller pin.1 o)
    here None is = ap Some (omega (arith, is))
    here (Some least) is = ap Some (omega (arith, is))

    by : (b : Bool) → cond b (Some pin.1) (value_at nat_cmp node pins) ≡ Some seq → (value_at nat_cmp node pins ≡ Some seq → Some (smaller seq (least_pin pins)) ≡ least_pin pins)
        → Some (smaller seq (Some (smaller pin.1 (least_pin pins)))) ≡ Some (smaller pin.1 (least_pin pins))
    by true is rest = here (least_pin pins) (same_Some pin.1 seq is)
    by false is rest = later (least_pin pins) (rest is)

-- Where no node pins an older entry than one, each pins that or a newer one.
pub pinned-each : (first node seq : ℕ) (pins : List (ℕ × ℕ)) → ArePinnedFrom first pins → value_at nat_cmp node pins ≡ Some seq → first ≤ seq
pinned-each first node seq pins from found = by (least_pin pins) from (least-found node seq pins found)
  where
    by : (o : Option ℕ) → IfSome o (λ pin. first ≤ pin) → Some (smaller seq o) ≡ o → first ≤ seq
    by None from is = absurd (none_some _ (sym is))
    by (Some least) from is = let le : min seq least ≡ least = same_Some _ _ is in omega (arith, le, from)

-- An entry that needs none behind itself needs those from its oldest one on.
pub needed-exact : (durable : Durable) → durable.oldest ≤ durable.sequence → needed_by durable ≡ durable.oldest
needed-exact durable le = omega (arith, le)

-- Where the last durable entry needs none behind itself, no node pins an older one than it needs.
pub pinned-durable : (volume : Volume) → IsVolume volume → volume.writer.durable.oldest ≤ volume.writer.durable.sequence
    → (node seq : ℕ) → value_at nat_cmp node volume.pins ≡ Some seq → volume.writer.durable.oldest ≤ seq
pinned-durable volume is le node seq found = let from = pinned-each (needed_by volume.writer.durable) node seq volume.pins is.held_back.durable found in omega (arith, le, from)

-- An entry that becomes the last durable one needs none behind itself.
pub settled-exact : (volume : Volume) → IsVolume volume → volume.writer.durable.oldest ≤ volume.writer.durable.sequence
    → (settled volume.writer).durable.oldest ≤ (settled volume.writer).durable.sequence
settled-exact volume is le = by volume.writer.flight is.held_back.flight
  where
    by : (o : Option Flight) → IfSome o (IsFlightHeld volume.writer.durable volume.pins) → (settled_by o volume.writer).durable.oldest ≤ (settled_by o volume.writer).durable.sequence
    by None held = le
    by (Some flight) held = held.to

-- Nothing behind an entry is needed by the next one, and nothing before the oldest that the last durable one needs.
pub needed-between : (volume : Volume) → IsVolume volume → (needed_by volume.writer.durable ≤ oldest_needed volume) × (oldest_needed volume ≤ (oldest volume.queue).after + 1)
needed-between volume is = by (least_pin volume.pins) is.held_back.durable
  where
    durable : Durable
    durable = volume.writer.durable

    next : ℕ
    next = (oldest volume.queue).after

    behind : (o : Option Flight) → IfSome o (λ flight. flight.entry.after ≡ durable.sequence) → durable.sequence ≤ last_sealed o durable.sequence
    behind None is = omega arith
    behind (Some flight) is = omega (arith, is)

    by : (o : Option ℕ) → IfSome o (λ pin. needed_by durable ≤ pin) → (needed_by durable ≤ smaller (next + 1) o) × (smaller (next + 1) o ≤ next + 1)
    by None from = let le = behind volume.writer.flight is.in_turn.flying in (omega (arith, le, is.in_turn.waiting_ones), omega arith)
    by (Some pin) from = let le = behind volume.writer.flight is.in_turn.flying in (omega (arith, le, is.in_turn.waiting_ones, from), omega arith)
