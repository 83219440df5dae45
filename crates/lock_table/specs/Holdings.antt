-- What a table keeps of each actor beside the nodes, so that no call goes over all nodes.
use Rattle.std.specs.Prelude.{◌≡◌, ℕ, ◌<◌, ◌^◌, Bool, true, false, IsTrue, List, length, max, slice_get, slice_set, Option, Some, None, if◌then◌else◌}
use Rattle.std.specs.Ordering.{is_le, is_lt}
use Rattle.six_lock.specs.Modes.{Mode}
use Rattle.six_lock.specs.declared.lock.Ask.{Ask}
use Rattle.six_lock.specs.declared.lock.Ask.TheVariants.{Granted, Held}
use Rattle.lock_table.specs.declared.table.Ruling.{Ruling}
use Rattle.lock_table.specs.declared.table.Ruling.TheVariants as rulings
use Rattle.lock_table.specs.declared.table.Ruling.TheVariants.{Wait, Restart}
use Rattle.lock_table.specs.Names.{IsBelow, name_cmp}
use Rattle.lock_table.specs.Tables.{HoldsOf, node_at, IsSound}
use Rattle.lock_table.specs.Nodes.{EachInUse, name_of}
use Rattle.lock_table.specs.declared.name.NodeName.{NodeName}
use Rattle.lock_table.specs.declared.node.Node.{Node}
use Rattle.lock_table.specs.declared.wait.Waiting.{Waiting}
use Rattle.lock_table.specs.declared.holding.Holding.{Holding}

-- The birth is one of these.
abbrev pub IsListed : List ℕ → ℕ → Type 0
IsListed births birth = (place : ℕ) × (slice_get births place ≡ Some birth)

-- The name stands no higher than the highest one.
abbrev pub IsUpTo : NodeName → Option NodeName → Type 0
IsUpTo name None = ⊥
IsUpTo name (Some top) = IsTrue (is_le (name_cmp name top))

-- The name stands above the highest one, if there is one.
abbrev pub IsOver : Option NodeName → NodeName → Type 0
IsOver None name = Unit {0}
IsOver (Some top) name = IsBelow top name

-- the highest of the names, and one more
abbrev pub highest_with : Option NodeName → NodeName → Option NodeName
highest_with None name = Some name
highest_with (Some top) name = if is_lt (name_cmp top name) then Some name else Some top

-- the sequence, or the one with which a node is gone where that is greater
abbrev pub raised_by : ℕ → Option ℕ → ℕ
raised_by sequence None = sequence
raised_by sequence (Some last) = max last sequence

-- what is ruled on the answer of a lock, where the node stands above all that the actor holds or doesn't, and what is noted
-- of the actor's wait
abbrev pub Rules : Bool → ℕ → NodeName → Ask → Ruling → List (Option Waiting) → List (Option Waiting) → Type 0
Rules above actor name Granted ruling old new = (ruling ≡ rulings.Granted) × (new ≡ slice_set old actor None)
Rules true actor name (Held holder) ruling old new = (ruling ≡ Wait name.birth holder) × (new ≡ slice_set old actor (Some (record { node = name; holder = holder })))
Rules false actor name (Held holder) ruling old new = (ruling ≡ Restart name.birth holder) × (new ≡ slice_set old actor None)

-- what is ruled on the answer of a lock to an upgrade
abbrev pub restart_unless_granted : ℕ → Ask → Ruling
restart_unless_granted node Granted = rulings.Granted
restart_unless_granted node (Held holder) = Restart node holder

-- Each node that the actor holds is listed, and the highest is the name of one of them, above which none of them stands.
pub record IsHolding (nodes : List (ℕ × Node)) (actor : ℕ) (holding : Holding) : Type 0 where
  pub listed : (b : ℕ) (m : Mode) → HoldsOf (node_at nodes b) actor m → IsListed holding.births.items b
  pub up_to : (b : ℕ) (m : Mode) (name : NodeName) → HoldsOf (node_at nodes b) actor m → name_of (node_at nodes b) ≡ Some name → IsUpTo name holding.highest
  pub reached : (top : NodeName) → holding.highest ≡ Some top → (b : ℕ) × ((m : Mode) × HoldsOf (node_at nodes b) actor m × (name_of (node_at nodes b) ≡ Some top))

-- What a table for so many actors keeps: each node is held by somebody, each holder is one of the actors, and what is kept
-- of each actor is so.
pub record IsKept (nodes : List (ℕ × Node)) (holdings : List Holding) (count : ℕ) : Type 0 where
  pub few : count < 2 ^ 8
  pub counted : length holdings ≡ count
  pub in_use : EachInUse count nodes
  pub known : (b a : ℕ) (m : Mode) → HoldsOf (node_at nodes b) a m → a < count
  pub each : (a : ℕ) (holding : Holding) → slice_get holdings a ≡ Some holding → IsHolding nodes a holding

-- What every table keeps: this, and that it is sound.
pub record IsTable (nodes : List (ℕ × Node)) (holdings : List Holding) (waits : List (Option Waiting)) (sequence : ℕ) : Type 0 where
  pub kept : IsKept nodes holdings (length waits)
  pub sound : IsSound (record { nodes = nodes; waits = waits; sequence = sequence })
