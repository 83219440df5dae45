-- What the calls on a table answer, from what they do to one node.
use Rattle.std.proofs.Common.{◌≡◌, ◌≢◌, ℕ, ◌↔◌, ◌⊎◌, IsTrue, IsSome, is_some, length, Bool, true, false, cond, List, Option, Some, None, slice_set, refl, sym, subst, inl, inr, ⊎_elim, ◌∙◌, ap}
use Rattle.std.specs.Prelude.{◌==◌}
use Rattle.std.specs.Option.{unwrap_or}
use Rattle.std.specs.BTreeMap.Comparable.{le_lt_trans}
use Rattle.std.specs.declared.cmp.Ordering.TheVariants.{Less}
use Rattle.lock_table.specs.Names.{name_cmp}
use Rattle.std.proofs.lemmas.Bool.{cases_eq, eqb-true, eq-eqb}
use Rattle.std.proofs.lemmas.List.{length-set}
use Rattle.std.proofs.lemmas.Option.{none-some as none_some}
use Rattle.six_lock.specs.Modes.{Mode}
use Rattle.six_lock.specs.Modes.Mode.{Intent, Exclusive}
use Rattle.six_lock.specs.Locks.{next_sequence}
use Rattle.six_lock.specs.declared.lock.Ask.{Ask}
use Rattle.six_lock.specs.declared.lock.Ask.TheVariants.{Granted, Held}
use Rattle.lock_table.specs.declared.wait.Waiting.{Waiting}
use Rattle.lock_table.specs.declared.table.Ruling.{Ruling}
use Rattle.lock_table.specs.Tables.{Table, node_at, name_at, sequence_of, sequence_at, HoldsOf, IsHeld, IsInTheWay, StandsAbove}
use Rattle.lock_table.specs.Nodes.{IsInUse, EachInUse, IsSameBut, AsksNode, UpgradesNode, LowersNode, ReleasesAll, name_of}
use Rattle.lock_table.specs.Holdings.{IsHolding, IsOver, IsUpTo, Rules, restart_unless_granted}
use Rattle.lock_table.specs.Calls.{Gains, Grants, Asks, Upgrades, Lowers, Drops, KeepsRest, KeepsSequences, called}
use Rattle.lock_table.specs.declared.name.NodeName.{NodeName}
use Rattle.lock_table.specs.declared.node.Node.{Node}
use Rattle.lock_table.specs.declared.holding.Holding.{Holding}
use Rattle.lock_table.proofs.Order.{name_total}

-- a mode that is gained of a node is gained in the table
pub gained_at : (old new : Table) (birth actor : ℕ) (mode : Mode) → IsSameBut birth old.nodes new.nodes
    → ((a : ℕ) (m : Mode) → HoldsOf (node_at new.nodes birth) a m ↔ (HoldsOf (node_at old.nodes birth) a m ⊎ ((a ≡ actor) × (m ≡ mode)))) → Gains old birth actor mode new
gained_at old new birth actor mode same holds b a m = (
  (λ h. ⊎_elim
      (λ here. ⊎_elim (λ was. inl (subst (λ k. HoldsOf (node_at old.nodes k) a m) (sym here) was)) (λ own. inr (here, own.0, own.1)) ((holds a m).0 (subst (λ k. HoldsOf (node_at new.nodes k) a m) here h)))
      (λ other. inl (subst (λ (o : Option Node). HoldsOf o a m) (same b other) h)) (cases_eq b birth)),
  (λ h. ⊎_elim
      (λ was. ⊎_elim (λ here. subst (λ k. HoldsOf (node_at new.nodes k) a m) (sym here) ((holds a m).1 (inl (subst (λ k. HoldsOf (node_at old.nodes k) a m) here was))))
      (λ other. subst (λ (o : Option Node). HoldsOf o a m) (sym (same b other)) was) (cases_eq b birth))
      (λ own. subst (λ k. HoldsOf (node_at new.nodes k) a m) (sym own.0) ((holds a m).1 (inr (own.1, own.2)))) h),
)

-- where one node has changed and keeps its sequence, each does
sequences_same : (old : Table) (nodes : List (ℕ × Node)) (waits : List (Option Waiting)) (birth : ℕ) → IsSameBut birth old.nodes nodes → sequence_of old.sequence (node_at nodes birth) ≡ sequence_of old.sequence (node_at old.nodes birth)
    → KeepsSequences old (record { nodes = nodes; waits = waits; sequence = old.sequence })
sequences_same old nodes waits birth same here = record {
  each = λ b. ⊎_elim (λ is. subst (λ k. sequence_of old.sequence (node_at nodes k) ≡ sequence_of old.sequence (node_at old.nodes k)) (sym is) here) (λ other. ap (sequence_of old.sequence) (same b other)) (cases_eq b birth);
  unheld = refl;
}

-- an ask that is granted at the node is granted in the table
pub granted_at : (old : Table) (nodes : List (ℕ × Node)) (actor : ℕ) (name : NodeName) (mode : Mode) → AsksNode old.sequence old.nodes actor name mode Granted nodes
    → Grants old actor name mode (record { nodes = nodes; waits = slice_set old.waits actor None; sequence = old.sequence })
granted_at old nodes actor name mode asks = record {
  free = asks.0;
  gains = gained_at old (record { nodes = nodes; waits = slice_set old.waits actor None; sequence = old.sequence }) name.birth actor mode asks.1 asks.2.holds;
  names = λ b. choose b (b == name.birth) (eqb-true b name.birth) (λ here. eq-eqb b name.birth here);
  waits = refl;
  sequences = sequences_same old nodes (slice_set old.waits actor None) name.birth asks.1 asks.2.sequence_same;
}
  where
    choose : (b : ℕ) (test : Bool) → (test ≡ true → b ≡ name.birth) → (b ≡ name.birth → test ≡ true) → name_of (node_at nodes b) ≡ cond test (Some (unwrap_or (name_at old b) name)) (name_at old b)
    choose b true here away = subst (λ k. name_of (node_at nodes k) ≡ Some (unwrap_or (name_at old k) name)) (sym (here refl)) asks.2.called
    choose b false here away = ap name_of (asks.1 b (λ e. let f : false ≡ true = away e in cc))

-- an upgrade that is granted
pub upgraded_at : (old : Table) (nodes : List (ℕ × Node)) (birth actor : ℕ) → UpgradesNode old.nodes birth actor Granted nodes
    → ((holder : ℕ) → IsInTheWay old actor birth Exclusive holder → ⊥) × Gains old birth actor Exclusive (record { nodes = nodes; waits = old.waits; sequence = old.sequence }) × KeepsRest old (record { nodes = nodes; waits = old.waits; sequence = old.sequence })
    × KeepsSequences old (record { nodes = nodes; waits = old.waits; sequence = old.sequence })
upgraded_at old nodes birth actor upgrades = (
  upgrades.0,
  gained_at old (record { nodes = nodes; waits = old.waits; sequence = old.sequence }) birth actor Exclusive upgrades.1 upgrades.3,
  record {
    names = λ b. ⊎_elim (λ here. subst (λ k. name_of (node_at nodes k) ≡ name_at old k) (sym here) upgrades.2) (λ other. ap name_of (upgrades.1 b other)) (cases_eq b birth);
    waits = refl;
  },
  sequences_same old nodes old.waits birth upgrades.1 (upgrades.4 old.sequence),
)

-- what an ask answers, from what it does to the node and what is ruled
pub asks_at : (old : Table) (nodes : List (ℕ × Node)) (waits : List (Option Waiting)) (actor : ℕ) (name : NodeName) (mode : Mode) (above : Bool) (answer : Ask) (ruling : Ruling)
    → (above ≡ true → StandsAbove old actor (called old name)) → (above ≡ false → StandsAbove old actor (called old name) → ⊥) → (called old name).birth ≡ name.birth
    → AsksNode old.sequence old.nodes actor name mode answer nodes → Rules above actor (called old name) answer ruling old.waits waits → Asks old actor name mode ruling (record { nodes = nodes; waits = waits; sequence = old.sequence })
asks_at old nodes waits actor name mode above Granted ruling is_over is_not born asks rules =
    subst (λ (r : Ruling). Asks old actor name mode r (record { nodes = nodes; waits = waits; sequence = old.sequence })) (sym rules.0)
    (subst (λ ws. Grants old actor name mode (record { nodes = nodes; waits = ws; sequence = old.sequence })) (sym rules.1) (granted_at old nodes actor name mode asks))
asks_at old nodes waits actor name mode true (Held holder) ruling is_over is_not born asks rules =
    subst (λ (r : Ruling). Asks old actor name mode r (record { nodes = nodes; waits = waits; sequence = old.sequence })) (sym rules.0)
    (born, record { in_the_way = asks.0; above = is_over refl; left = λ i. record { nodes = asks.1 i; waits = rules.1 i; sequence = old.sequence } })
asks_at old nodes waits actor name mode false (Held holder) ruling is_over is_not born asks rules =
    subst (λ (r : Ruling). Asks old actor name mode r (record { nodes = nodes; waits = waits; sequence = old.sequence })) (sym rules.0)
    (born, record { in_the_way = asks.0; not_above = is_not refl; left = λ i. record { nodes = asks.1 i; waits = rules.1 i; sequence = old.sequence } })

-- the name of a node is of its birth
called_born : (table : Table) (name : NodeName) → ((birth : ℕ) (n : NodeName) → name_at table birth ≡ Some n → n.birth ≡ birth) → (called table name).birth ≡ name.birth
called_born table name born = choose (name_at table name.birth) (λ n is. born name.birth n is)
  where
    choose : (was : Option NodeName) → ((n : NodeName) → was ≡ Some n → n.birth ≡ name.birth) → (unwrap_or was name).birth ≡ name.birth
    choose None means = refl
    choose (Some n) means = means n refl

-- what an upgrade answers
pub upgrades_at : (old : Table) (nodes : List (ℕ × Node)) (birth actor : ℕ) (answer : Ask) → UpgradesNode old.nodes birth actor answer nodes
    → Upgrades old actor birth (restart_unless_granted birth answer) (record { nodes = nodes; waits = old.waits; sequence = old.sequence })
upgrades_at old nodes birth actor Granted upgrades = upgraded_at old nodes birth actor upgrades
upgrades_at old nodes birth actor (Held holder) upgrades = (refl, upgrades.0, upgrades.1, λ i. record { nodes = upgrades.2 i; waits = old.waits; sequence = old.sequence })

-- what the end of an exclusive use leaves
pub lowers_at : (old : Table) (nodes : List (ℕ × Node)) (birth : ℕ) → LowersNode old.nodes birth nodes → Lowers old birth (record { nodes = nodes; waits = old.waits; sequence = old.sequence })
lowers_at old nodes birth lowers = record {
  holds = λ b a m. ⊎_elim
      (λ here. subst (λ k. HoldsOf (node_at nodes k) a m ↔ (HoldsOf (node_at old.nodes k) a m × (k ≡ birth → m ≢ Exclusive))) (sym here)
      ((λ h. (((lowers.holds a m).0 h).0, λ is. ((lowers.holds a m).0 h).1)), (λ h. (lowers.holds a m).1 (h.0, h.1 refl))))
      (λ other. (
        (λ h. (subst (λ (o : Option Node). HoldsOf o a m) (lowers.same b other) h, λ here. absurd (other here))),
        (λ h. subst (λ (o : Option Node). HoldsOf o a m) (sym (lowers.same b other)) h.0),
      ))
      (cases_eq b birth);
  rest = record {
    names = λ b. ⊎_elim (λ here. subst (λ k. name_of (node_at nodes k) ≡ name_at old k) (sym here) lowers.name) (λ other. ap name_of (lowers.same b other)) (cases_eq b birth);
    waits = refl;
  };
  sequences = λ b. choose b (b == birth) (eqb-true b birth) (λ here. eq-eqb b birth here);
  unheld = refl;
}
  where
    choose : (b : ℕ) (test : Bool) → (test ≡ true → b ≡ birth) → (b ≡ birth → test ≡ true) → sequence_of old.sequence (node_at nodes b) ≡ cond test (next_sequence (sequence_at old b)) (sequence_at old b)
    choose b true here away = subst (λ k. sequence_of old.sequence (node_at nodes k) ≡ next_sequence (sequence_at old k)) (sym (here refl)) (lowers.sequence old.sequence)
    choose b false here away = ap (sequence_of old.sequence) (lowers.same b (λ e. let f : false ≡ true = away e in cc))

-- the wait that is noted leaves as many
pub rules_length : (above : Bool) (actor : ℕ) (name : NodeName) (answer : Ask) (ruling : Ruling) (old new : List (Option Waiting)) → Rules above actor name answer ruling old new → length new ≡ length old
rules_length above actor name Granted ruling old new rules = ap length rules.1 ∙ length-set old actor None
rules_length true actor name (Held holder) ruling old new rules = ap length rules.1 ∙ length-set old actor (Some (record { node = name; holder = holder }))
rules_length false actor name (Held holder) ruling old new rules = ap length rules.1 ∙ length-set old actor None

-- what stands over the highest name stands above all that the actor holds
pub stands_above : (table : Table) (actor : ℕ) (holding : Holding) (name : NodeName) → IsHolding table.nodes actor holding → IsOver holding.highest name → StandsAbove table actor name
stands_above table actor holding name is over b m held holds named = through holding.highest (is.up_to b m held holds named) over
  where
    through : (highest : Option NodeName) → IsUpTo held highest → IsOver highest name → name_cmp held name ≡ Less
    through None up_to over_it = absurd up_to
    through (Some top) up_to over_it = le_lt_trans name_total held top name up_to over_it

-- what stands above all that the actor holds stands over the highest name
pub stands_over : (table : Table) (actor : ℕ) (holding : Holding) (name : NodeName) → IsHolding table.nodes actor holding → StandsAbove table actor name → IsOver holding.highest name
stands_over table actor holding name is above = through holding.highest (λ top is_top. let at = is.reached top is_top in above at.0 at.1.0 top at.1.1 at.1.2)
  where
    through : (highest : Option NodeName) → ((top : NodeName) → highest ≡ Some top → name_cmp top name ≡ Less) → IsOver highest name
    through None below = tt
    through (Some top) below = below top refl

-- what an ask answers, by the test of the highest name that the actor holds
pub asked_at : (old : Table) (nodes : List (ℕ × Node)) (waits : List (Option Waiting)) (actor : ℕ) (asked name : NodeName) (mode : Mode) (holding : Holding) (above : Bool) (answer : Ask) (ruling : Ruling)
    → name ≡ called old asked → ((birth : ℕ) (n : NodeName) → name_at old birth ≡ Some n → n.birth ≡ birth) → IsHolding old.nodes actor holding → IsTrue above ↔ IsOver holding.highest name
    → AsksNode old.sequence old.nodes actor asked mode answer nodes → Rules above actor name answer ruling old.waits waits → Asks old actor asked mode ruling (record { nodes = nodes; waits = waits; sequence = old.sequence })
asked_at old nodes waits actor asked name mode holding above answer ruling is_called born is test asks =
    subst (λ n. (IsTrue above ↔ IsOver holding.highest n) → Rules above actor n answer ruling old.waits waits → Asks old actor asked mode ruling (record { nodes = nodes; waits = waits; sequence = old.sequence })) (sym is_called)
    (λ tests rules. asks_at old nodes waits actor asked mode above answer ruling
    (λ yes_above. stands_above old actor holding (called old asked) is (tests.0 yes_above))
    (λ not_above stands. let f : false ≡ true = sym not_above ∙ tests.1 (stands_over old actor holding (called old asked) is stands) in cc)
    (called_born old asked born) asks rules)
    test

-- who holds exclusive holds intent
pub intent_of : (node : Option Node) (actor : ℕ) → HoldsOf node actor Exclusive → HoldsOf node actor Intent
intent_of None actor holds = absurd holds
intent_of (Some node) actor holds = holds.0

-- where each node is held, one that is there is held, and one that is held is there
pub held_in_use : (table : Table) (count b : ℕ) → EachInUse count table.nodes → IsSome (node_at table.nodes b) → IsHeld table b
held_in_use table count b in_use is = choose (node_at table.nodes b) (in_use b) is
  where
    choose : (node : Option Node) → ((n : Node) → node ≡ Some n → IsInUse count n) → IsSome node → (a : ℕ) × ((m : Mode) × HoldsOf node a m)
    choose None held some = let e : false ≡ true = some in cc
    choose (Some node) held some = let by = held node refl in (by.holder, (by.holds.0, by.holds.1))

held_some : (node : Option Node) (actor : ℕ) (mode : Mode) → HoldsOf node actor mode → IsSome node
held_some None actor mode holds = absurd holds
held_some (Some node) actor mode holds = refl

pub free_none : (table : Table) (count b : ℕ) → EachInUse count table.nodes → (IsHeld table b → ⊥) → node_at table.nodes b ≡ None
free_none table count b in_use free = choose (node_at table.nodes b) (λ some. held_in_use table count b in_use some)
  where
    choose : (node : Option Node) → (IsSome node → IsHeld table b) → node ≡ None
    choose None held = refl
    choose (Some node) held = absurd (free (held refl))

none_free : (node : Option Node) → node ≡ None → (a : ℕ) × ((m : Mode) × HoldsOf node a m) → ⊥
none_free None is held = held.1.1
none_free (Some node) is held = none_some node (sym is)

-- what a drop leaves, from what it does to the nodes
pub drops_at : (old new : Table) (count actor : ℕ) → EachInUse count old.nodes → EachInUse count new.nodes → new.waits ≡ slice_set old.waits actor None → ReleasesAll old.sequence old.nodes actor new.sequence new.nodes → Drops old actor new
drops_at old new count actor was_in_use in_use waits releases = record {
  holds = releases.holds;
  names = λ b. names b (node_at new.nodes b) refl (releases.names b);
  waits = waits;
  sequences = record {
    held = λ b held. releases.stays b (held_some (node_at new.nodes b) held.0 held.1.0 held.1.1);
    no_less = releases.no_less;
    left = λ b s leaves ends. releases.leaves b s (held_some (node_at old.nodes b) leaves.held.0 leaves.held.1.0 leaves.held.1.1) (free_none new count b in_use leaves.free) ends;
    reached = ⊎_elim (λ same. inl same) (λ at. inr (at.0, (record { held = held_in_use old count at.0 was_in_use at.1.0; free = none_free (node_at new.nodes at.0) at.1.1 }, at.1.2))) releases.reached;
  };
}
  where
    names : (b : ℕ) (node : Option Node) → node_at new.nodes b ≡ node → (node_at new.nodes b ≡ None) ⊎ (name_at new b ≡ name_at old b) → (IsHeld new b × (name_at new b ≡ name_at old b)) ⊎ ((IsHeld new b → ⊥) × (name_at new b ≡ None))
    names b None is named = inr (none_free (node_at new.nodes b) is, ap name_of is)
    names b (Some node) is named = inl (held_in_use new count b in_use (ap is_some is), ⊎_elim (λ gone. absurd (none_some node (sym gone ∙ is))) (λ same. same) named)
