-- What a table of locks says: who holds which mode of which node, and who waits for whom.
use Rattle.std.specs.Prelude.{◌≡◌, ◌≢◌, ℕ, false, List, ◌∷◌, [], length, slice_get, Option, Some, None, IsTrue}
use Rattle.std.specs.Option.{option_map}
use Rattle.std.specs.Ordering.{nat_cmp}
use Rattle.std.specs.Map.{lookup}
use Rattle.std.specs.BTreeMap.{is_at}
use Rattle.six_lock.specs.Modes.{Mode, go_together}
use Rattle.six_lock.specs.Modes.Mode.{Intent, Exclusive}
use Rattle.six_lock.specs.Locks.{Holds}
use Rattle.lock_table.specs.Names.{IsBelow}
use Rattle.lock_table.specs.declared.name.NodeName.{NodeName}
use Rattle.lock_table.specs.declared.node.Node.{Node}
use Rattle.lock_table.specs.declared.wait.Waiting.{Waiting}

-- for each birth of a node that somebody holds, rising, its name and lock; for each actor what its last ask waits for,
-- where it was answered so; and the sequence of each node that nobody holds
pub record Table : Type 0 where
  pub nodes : List (ℕ × Node)
  pub waits : List (Option Waiting)
  pub sequence : ℕ

-- how many actors the table is for
abbrev pub actors : Table → ℕ
actors table = length table.waits

-- the node with this birth, if somebody holds it
abbrev pub node_at : List (ℕ × Node) → ℕ → Option Node
node_at nodes birth = lookup (is_at (nat_cmp birth)) nodes

-- The actor holds the mode of the node.
abbrev pub HoldsOf : Option Node → ℕ → Mode → Type 0
HoldsOf None actor mode = ⊥
HoldsOf (Some node) actor mode = Holds node.lock actor mode

-- The actor holds the mode of the node with this birth.
abbrev pub HoldsAt : Table → ℕ → ℕ → Mode → Type 0
HoldsAt table birth actor mode = HoldsOf (node_at table.nodes birth) actor mode

-- Somebody holds the node with this birth.
abbrev pub IsHeld : Table → ℕ → Type 0
IsHeld table birth = (actor : ℕ) × ((mode : Mode) × HoldsAt table birth actor mode)

-- the name by which the node with this birth is held
abbrev pub name_at : Table → ℕ → Option NodeName
name_at table birth = option_map (λ node. node.name) (node_at table.nodes birth)

-- the sequence of a node, which is this one where nobody holds it
abbrev pub sequence_of : ℕ → Option Node → ℕ
sequence_of sequence None = sequence
sequence_of sequence (Some node) = node.lock.sequence

-- the sequence of the node with this birth, whether it is held or not
abbrev pub sequence_at : Table → ℕ → ℕ
sequence_at table birth = sequence_of table.sequence (node_at table.nodes birth)

-- The holder is in the actor's way to a mode of the node: it is another, and holds a mode that doesn't go with it.
pub record IsInTheWayOf (node : Option Node) (actor : ℕ) (mode : Mode) (holder : ℕ) : Type 0 where
  pub other : holder ≢ actor
  pub held : Mode
  pub holds : HoldsOf node holder held
  pub clash : go_together mode held ≡ false

-- The holder is in the actor's way to a mode of the node with this birth.
abbrev pub IsInTheWay : Table → ℕ → ℕ → Mode → ℕ → Type 0
IsInTheWay table actor birth mode holder = IsInTheWayOf (node_at table.nodes birth) actor mode holder

-- The node stands above all that the actor holds.
abbrev pub StandsAbove : Table → ℕ → NodeName → Type 0
StandsAbove table actor name = (birth : ℕ) (mode : Mode) (held : NodeName) → HoldsAt table birth actor mode → name_at table birth ≡ Some held → IsBelow held name

-- The one actor waits for the other: its last ask was answered so, and the other still holds that node, by that name.
pub record WaitsFor (table : Table) (actor holder : ℕ) : Type 0 where
  pub node : NodeName
  pub asked : slice_get table.waits actor ≡ Some (Some (record { node = node; holder = holder }))
  pub mode : Mode
  pub holds : HoldsAt table node.birth holder mode
  pub named : name_at table node.birth ≡ Some node

-- Each waits for the next, from the first actor over those between to the last.
abbrev pub WaitsAlong : Table → ℕ → List ℕ → ℕ → Type 0
WaitsAlong table first [] last = WaitsFor table first last
WaitsAlong table first (next ∷ between) last = WaitsFor table first next × WaitsAlong table next between last

-- Nobody waits for itself, over no matter how many others.
abbrev pub HasNoCycle : Table → Type 0
HasNoCycle table = (actor : ℕ) (between : List ℕ) → WaitsAlong table actor between actor → ⊥

-- Modes of one node that different actors hold go together, and who holds exclusive holds intent.
pub record IsCompatible (table : Table) : Type 0 where
  pub together : (birth a b : ℕ) (m n : Mode) → a ≢ b → HoldsAt table birth a m → HoldsAt table birth b n → IsTrue (go_together m n)
  pub has_intent : (birth a : ℕ) → HoldsAt table birth a Exclusive → HoldsAt table birth a Intent

-- What holds of every table: modes that are held together are compatible; a node has a name where somebody holds it, and
-- then one of its own birth; and each actor that waits does so for a node above all that it holds.
pub record IsSound (table : Table) : Type 0 where
  pub compatible : IsCompatible table
  pub held : (birth : ℕ) (name : NodeName) → name_at table birth ≡ Some name → IsHeld table birth
  pub born : (birth : ℕ) (name : NodeName) → name_at table birth ≡ Some name → name.birth ≡ birth
  pub upward : (actor : ℕ) (wait : Waiting) → slice_get table.waits actor ≡ Some (Some wait) → StandsAbove table actor wait.node
