-- What is written of a leaf that is frozen, and where; and when it can't be frozen.
use Rattle.std.specs.Prelude.{◌≡◌, ◌≢◌, ℕ, ◌+◌, ◌*◌, ◌<◌, ◌≤◌, ◌^◌, ⊤, false, Some, List}
use Rattle.birth_index.specs.Births.{birth_of}
use Rattle.birth_index.specs.declared.name.NodeName.{NodeName}
use Rattle.bucket_pool.specs.Space.{Space, have_free, node_places}
use Rattle.dirty_nodes.specs.declared.splits.NeedSplit.{NeedSplit}
use Rattle.node_mem.specs.Nodes.{middle_of, size_of}
use Rattle.record_codec.specs.declared.sets.SetRecord.{SetRecord}
use Rattle.tree_nodes.specs.Levels.{Levels}
use Rattle.vol_types.specs.KeyMaps.{Entries, keys_in}
use Rattle.vol_types.specs.Limits.{node_limit}
use Rattle.vol_types.specs.Positions.{greatest_pos, least_pos}
use Rattle.vol_types.specs.declared.pointers.NodePtr.{NodePtr}
use Rattle.vol_types.specs.declared.positions.Btree.{Btree}
use Rattle.node_writeback.specs.declared.freezing.FreezeFault.{FreezeFault}
use Rattle.node_writeback.specs.declared.freezing.FreezeFault.TheVariants.{NeedSplit as Split, NoMemory, NoSpace, Spent}

-- how many births a session has
abbrev pub session_births : ℕ
session_births = 2 ^ 32

-- the next birth of a session in which so many nodes were born
abbrev pub next_birth : ℕ → ℕ → ℕ
next_birth session born = session * session_births + born

-- A birth is left in the session, and no node has it.
pub record HasBirth (session born : ℕ) (nodes : List Levels) : Type 0 where
  pub session_few : session < 2 ^ 32
  pub few : born < session_births
  pub unused : (name : NodeName) → birth_of nodes name ≢ Some (next_birth session born)

-- the leaf as it is written: in the first free bucket of each metadata device
abbrev pub fresh_leaf : ℕ → ℕ → ℕ → Space → NodePtr
fresh_leaf session born mirrors space = record { birth = next_birth session born; level = 0; places = node_places mirrors space }

-- the set of the only leaf of a btree, which has these entries
abbrev pub leaf_set : ℕ → Btree → Entries → SetRecord
leaf_set birth btree entries = record { birth = birth; btree = btree; level = 0; least = least_pos; greatest = greatest_pos; keys = keys_in entries }

-- The node of this birth, with these entries, is larger than nodes may be, and this is where a split halves it.
pub record IsTooLarge (birth : ℕ) (entries : Entries) (need : NeedSplit) : Type 0 where
  pub over : node_limit < size_of entries
  pub node : need.node ≡ birth
  pub size : need.size ≡ size_of entries
  pub middle : middle_of entries ≡ Some need.at

-- Why the leaf of this birth, with these entries, isn't frozen: no birth is left in the session, or a node has the next one; it is too large, or a metadata device has no
-- free bucket; want of memory has no cause.
abbrev pub IsFreezeFault : (session born birth mirrors : ℕ) → List Levels → Entries → Space → FreezeFault → Type 0
IsFreezeFault session born birth mirrors nodes entries space Spent = ¬ HasBirth session born nodes
IsFreezeFault session born birth mirrors nodes entries space (Split need) = HasBirth session born nodes × IsTooLarge birth entries need
IsFreezeFault session born birth mirrors nodes entries space NoSpace = HasBirth session born nodes × (size_of entries ≤ node_limit) × (have_free mirrors space ≡ false)
IsFreezeFault session born birth mirrors nodes entries space NoMemory = ⊤
