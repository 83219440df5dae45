-- What stays of a session while an operation of a client is planned.
use Rattle.std.specs.Prelude.{◌≡◌, ℕ, if◌then◌else◌, Option, Some, None, List, []}
use Rattle.btree_map.specs.Trees.{keys_in}
use Rattle.dirty_nodes.specs.Ids.{id_trees}
use Rattle.core_state.specs.States.{State, mine}
use Rattle.vol_types.specs.declared.failure.Halt.{Halt}
use Rattle.dev_model.specs.Devices.{DevicesState, no_fault_counts}
use Rattle.forest_ops.specs.History.{History}
use Rattle.forest_ops.specs.declared.acks.Ack.{Ack}
use Rattle.snap_tree.specs.Snaps.{Snaps}
use Rattle.vol_session.specs.Sessions.{SessionState}
use Rattle.vol_session.specs.Shortages.{ShortageState, no_shortage}
use Rattle.vol_types.specs.KeyMaps.{KeyMap}
use Rattle.volume.specs.Serving.{IsUnderWay}

-- what stays: the history, what is to be done about commits that were refused, the keys in memory, whether the session has stopped writing, and what the devices show
pub record Standing : Type 0 where
  pub trace : History
  pub acks : List Ack
  pub commits : ℕ
  pub spare : ℕ
  pub shortages : ShortageState
  pub keys : KeyMap
  pub halted : Option Halt
  pub devices : DevicesState

-- that of a session
abbrev pub standing_in : {D : Type 0} → (D → DevicesState) → SessionState D → Standing
standing_in state session = record {
  trace = session.trace;
  acks = session.acks;
  commits = session.commits;
  spare = session.spare;
  shortages = session.shortages;
  keys = keys_in session.core.memory.volume.trees;
  halted = session.core.memory.volume.halted;
  devices = state session.core.devices;
}

-- that of no session
abbrev pub nothing_standing : Standing
nothing_standing = record {
  trace = [];
  acks = [];
  commits = 0;
  spare = 0;
  shortages = no_shortage;
  keys = record { extents = []; inodes = []; dirents = []; subvols = []; snapshots = []; alloc = []; backptrs = []; deleted = []; counters = [] };
  halted = None;
  devices = record { sizes = []; moment = 0; disks = λ _. []; faults = no_fault_counts };
}

-- The client has an operation under way, and all that stays is as when its planning began.
pub record IsPlanning {D : Type 0} (client : ℕ) (state : D → DevicesState) (begun : Standing) (session : SessionState D) : Type 0 where
  pub under : IsUnderWay session.core.memory client
  pub stands : standing_in state session ≡ begun

-- Who asks is this client, which has its operation under way.
pub record IsAsking {D : Type 0} (asking client : ℕ) (state : D → DevicesState) (begun : Standing) (session : SessionState D) : Type 0 where
  pub client_is : asking ≡ client
  pub planning : IsPlanning client state begun session

-- the trees of snapshot ids that a client was told, if it has looked at them
abbrev pub ids_told : State → ℕ → Option Snaps
ids_told memory client = if (mine memory client).has_ids then Some (id_trees (keys_in memory.volume.trees)) else None
