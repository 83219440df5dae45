-- A node that somebody holds has a name.
use Rattle.std.proofs.Common.{◌≡◌, ℕ, Option, Some, None, refl, sym, ◌∙◌}
use Rattle.std.specs.Option.{option_map}
use Rattle.std.proofs.lemmas.Option.{none-some as none_some}
use Rattle.six_lock.specs.Modes.{Mode}
use Rattle.lock_table.specs.Tables.{Table, HoldsOf, HoldsAt, node_at, name_at}
use Rattle.lock_table.specs.declared.name.NodeName.{NodeName}
use Rattle.lock_table.specs.declared.node.Node.{Node}

name_of : (node : Option Node) (actor : ℕ) (mode : Mode) → HoldsOf node actor mode → (name : NodeName) × (option_map (λ held. held.name) node ≡ Some name)
name_of None actor mode holds = absurd holds
name_of (Some node) actor mode holds = (node.name, refl)

-- the name by which a node is held
pub held_name : (table : Table) (birth actor : ℕ) (mode : Mode) → HoldsAt table birth actor mode → (name : NodeName) × (name_at table birth ≡ Some name)
held_name table birth actor mode holds = name_of (node_at table.nodes birth) actor mode holds

-- a node without a name is held by nobody
pub not_held : (table : Table) (birth actor : ℕ) (mode : Mode) → name_at table birth ≡ None → HoldsAt table birth actor mode → ⊥
not_held table birth actor mode none holds = let named = held_name table birth actor mode holds in none_some named.0 (sym none ∙ named.1)
