-- What becomes of a map of nodes where one is changed, added or taken out.
use Rattle.std.proofs.Common.{◌≡◌, ◌≢◌, ℕ, ◌↔◌, ◌⊎◌, false, List, Option, Some, refl, sym, subst, inl, inr, ⊎_elim, ◌∙◌, ap, nat_cmp, arith}
use Rattle.std.specs.BTreeMap.{is_at}
use Rattle.std.specs.Option.{unwrap_or}
use Rattle.std.proofs.lemmas.Bool.{cases_eq}
use Rattle.std.proofs.lemmas.Bool.Decides.{nat_tests}
use Rattle.six_lock.specs.Modes.{Mode}
use Rattle.six_lock.specs.Modes.Mode.{Shared, Intent, Exclusive}
use Rattle.six_lock.specs.Locks.{Lock, Holds, Asks, Lowers, HoldsSome, IsFree, IsOther, actors}
use Rattle.six_lock.specs.declared.lock.Ask.{Ask}
use Rattle.six_lock.specs.declared.lock.Ask.TheVariants.{Granted, Held}
use Rattle.lock_table.specs.Tables.{node_at, HoldsOf, sequence_of}
use Rattle.lock_table.specs.Nodes.{IsInUse, EachInUse, AsksNode, UpgradesNode, name_of}
use Rattle.lock_table.specs.declared.name.NodeName.{NodeName}
use Rattle.lock_table.specs.declared.node.Node.{Node}

-- the nodes after this one was changed, or taken out
pub record Changes (old : List (ℕ × Node)) (birth : ℕ) (seen : Option Node) (new : List (ℕ × Node)) : Type 0 where
  pub here : node_at new birth ≡ seen
  pub elsewhere : (b : ℕ) → b ≢ birth → node_at new b ≡ node_at old b

apart : (b birth : ℕ) → b ≢ birth → is_at (nat_cmp birth) b ≡ false
apart b birth other = grind (arith, nat_tests)

-- what the map says of a change
pub changes : (old new : List (ℕ × Node)) (birth : ℕ) (seen : Option Node) → node_at new birth ≡ seen → ((b : ℕ) → is_at (nat_cmp birth) b ≡ false → node_at new b ≡ node_at old b) → Changes old birth seen new
changes old new birth seen here elsewhere = record { here = here; elsewhere = λ b other. elsewhere b (apart b birth other) }

-- each node is in use where one was changed that still is
pub in_use_changed : (count : ℕ) (old new : List (ℕ × Node)) (birth : ℕ) (seen : Option Node) → EachInUse count old → Changes old birth seen new → ((n : Node) → seen ≡ Some n → IsInUse count n) → EachInUse count new
in_use_changed count old new birth seen each change mine b found is =
    ⊎_elim (λ here. mine found (sym change.here ∙ subst (λ k. node_at new k ≡ Some found) here is)) (λ other. each b found (sym (change.elsewhere b other) ∙ is)) (cases_eq b birth)

-- after an ask
pub in_use_asked : (count actor : ℕ) (mode : Mode) (answer : Ask) (old new : Node) → IsInUse count old → Asks old.lock actor mode answer new.lock → IsInUse count new
in_use_asked count actor mode Granted old new before asks = record { sized = asks.1.actors ∙ before.sized; holder = before.holder; holds = (before.holds.0, (asks.1.holds before.holder before.holds.0).1 (inl before.holds.1)) }
in_use_asked count actor mode (Held holder) old new before asks =
    record { sized = subst (λ lock. actors lock ≡ count) (sym asks.1) before.sized; holder = before.holder; holds = subst (λ lock. HoldsSome lock before.holder) (sym asks.1) before.holds }

-- after an exclusive use has ended
pub in_use_lowered : (count actor : ℕ) (old new : Node) → IsInUse count old → Holds old.lock actor Exclusive → Lowers old.lock new.lock → IsInUse count new
in_use_lowered count actor old new before exclusive lowers =
    record { sized = lowers.actors ∙ before.sized; holder = actor; holds = (Intent, (lowers.holds actor Intent).1 (exclusive.0, λ e. let f : Intent ≡ Exclusive = e in cc)) }

-- the node at a birth, one that is held
pub held_of : (seen : Option Node) (n : Node) (actor : ℕ) (mode : Mode) → seen ≡ Some n → HoldsOf seen actor mode → Holds n.lock actor mode
held_of seen n actor mode is holds = subst (λ (o : Option Node). HoldsOf o actor mode) is holds

-- nodes with the same name and lock are one
same_node : (n m : Node) → n.name ≡ m.name → n.lock ≡ m.lock → n ≡ m
same_node n m names locks = λ i. record { name = names i; lock = locks i }

-- an ask of a node that is held
pub asks_here : (sequence : ℕ) (old new : List (ℕ × Node)) (actor : ℕ) (name : NodeName) (mode : Mode) (answer : Ask) (was now : Node) → node_at old name.birth ≡ Some was → now.name ≡ was.name
    → Changes old name.birth (Some now) new → (now ≡ was → new ≡ old) → Asks was.lock actor mode answer now.lock → AsksNode sequence old actor name mode answer new
asks_here sequence old new actor name mode Granted was now is same_name change unchanged asks = (
  (λ holder way. asks.0 holder (record { held = way.held; is_other = record { other = way.other; holds = held_of _ was holder way.held is way.holds }; clash = way.clash })),
  change.elsewhere,
  record {
    holds = λ a m. subst (λ (o : Option Node). HoldsOf o a m ↔ (HoldsOf (node_at old name.birth) a m ⊎ ((a ≡ actor) × (m ≡ mode)))) (sym change.here)
        (subst (λ (o : Option Node). Holds now.lock a m ↔ (HoldsOf o a m ⊎ ((a ≡ actor) × (m ≡ mode)))) (sym is) (asks.1.holds a m));
    called = ap name_of change.here ∙ ap Some same_name ∙ ap (λ o. Some (unwrap_or (name_of o) name)) (sym is);
    sequence_same = ap (sequence_of sequence) change.here ∙ asks.1.sequence ∙ ap (sequence_of sequence) (sym is);
  },
)
asks_here sequence old new actor name mode (Held holder) was now is same_name change unchanged asks = (
  record { other = asks.0.is_other.other; held = asks.0.held; holds = subst (λ (o : Option Node). HoldsOf o holder asks.0.held) (sym is) asks.0.is_other.holds; clash = asks.0.clash },
  unchanged (same_node now was same_name asks.1),
)

-- an upgrade of a node that is held
pub upgrades_here : (old new : List (ℕ × Node)) (birth actor : ℕ) (answer : Ask) (was now : Node) → node_at old birth ≡ Some was → now.name ≡ was.name
    → Changes old birth (Some now) new → (now ≡ was → new ≡ old) → Asks was.lock actor Exclusive answer now.lock → ((holder : ℕ) → answer ≡ Held holder → IsOther was.lock actor Shared holder)
    → UpgradesNode old birth actor answer new
upgrades_here old new birth actor Granted was now is same_name change unchanged asks reader = (
  (λ holder way. asks.0 holder (record { held = way.held; is_other = record { other = way.other; holds = held_of _ was holder way.held is way.holds }; clash = way.clash })),
  change.elsewhere,
  ap name_of change.here ∙ ap Some same_name ∙ ap name_of (sym is),
  (λ a m. subst (λ (o : Option Node). HoldsOf o a m ↔ (HoldsOf (node_at old birth) a m ⊎ ((a ≡ actor) × (m ≡ Exclusive)))) (sym change.here)
      (subst (λ (o : Option Node). Holds now.lock a m ↔ (HoldsOf o a m ⊎ ((a ≡ actor) × (m ≡ Exclusive)))) (sym is) (asks.1.holds a m))),
  (λ s. ap (sequence_of s) change.here ∙ asks.1.sequence ∙ ap (sequence_of s) (sym is)),
)
upgrades_here old new birth actor (Held holder) was now is same_name change unchanged asks reader =
    let other = reader holder refl in
    (other.other, subst (λ (o : Option Node). HoldsOf o holder Shared) (sym is) other.holds, unchanged (same_node now was same_name asks.1))

-- a node that nobody held, once it was asked for
pub in_use_new : (count actor : ℕ) (mode : Mode) (answer : Ask) (lock : Lock) (new : Node) → IsFree lock → actors lock ≡ count → Asks lock actor mode answer new.lock → IsInUse count new
in_use_new count actor mode Granted lock new free sized asks = record { sized = asks.1.actors ∙ sized; holder = actor; holds = (mode, (asks.1.holds actor mode).1 (inr (refl, refl))) }
in_use_new count actor mode (Held holder) lock new free sized asks = absurd (free holder asks.0.held asks.0.is_other.holds)

-- a node that is changed twice
pub changes_again : (old mid new : List (ℕ × Node)) (birth : ℕ) (first second : Option Node) → Changes old birth first mid → Changes mid birth second new → Changes old birth second new
changes_again old mid new birth first second before after = record { here = after.here; elsewhere = λ b other. after.elsewhere b other ∙ before.elsewhere b other }
