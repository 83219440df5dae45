-- What a leaf has by durable entries alone.
use Rattle.std.specs.Prelude.{◌≡◌, Option, Some, None, List, [], ◌∷◌}
use Rattle.birth_index.specs.Births.{levels_of}
use Rattle.birth_index.specs.Exchanges.{one_node}
use Rattle.btree_map.specs.Trees.{Trees, keys_in}
use Rattle.journal_writer.specs.Queues.{Queue, durable_keys, waiting_entries}
use Rattle.journal_writer.specs.declared.changes.KeyChanges.{KeyChanges}
use Rattle.journal_writer.specs.declared.changes.Pending.{Pending}
use Rattle.node_mem.specs.Nodes.{Node}
use Rattle.tree_nodes.specs.Levels.{Levels}
use Rattle.vol_types.specs.KeyMaps.{Entries, entries_of}
use Rattle.vol_types.specs.Positions.{greatest_pos, least_pos}
use Rattle.vol_types.specs.declared.pointers.NodePtr.{NodePtr}
use Rattle.vol_types.specs.declared.positions.Btree.{Btree}

-- The btree is one node.
abbrev pub IsOneNode : List Levels → Btree → Type 0
IsOneNode nodes btree = (root : NodePtr) × (levels_of nodes btree ≡ one_node root)

-- the entries that aren't durable, the oldest first: the one in flight, if there is one, and those that wait
abbrev pub undurable : Option Pending → Queue → List Pending
undurable None queue = waiting_entries queue
undurable (Some flight) queue = flight ∷ waiting_entries queue

-- what the entry in flight changes, if there is one
abbrev pub changes_in_flight : Option Pending → List KeyChanges
changes_in_flight None = []
changes_in_flight (Some flight) = flight.changes ∷ []

-- what a btree has by durable entries alone
abbrev pub durable_entries : Option Pending → Queue → Trees → Btree → Entries
durable_entries flight queue trees btree = entries_of (durable_keys (changes_in_flight flight) queue (keys_in trees)) btree

-- the only leaf of a btree, with what it has by durable entries alone
abbrev pub durable_leaf : Option Pending → Queue → Trees → Btree → Node
durable_leaf flight queue trees btree = record { least = least_pos; greatest = greatest_pos; entries = durable_entries flight queue trees btree }
