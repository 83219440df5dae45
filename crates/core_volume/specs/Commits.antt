-- What a commit makes of a volume.
use Rattle.std.specs.Prelude.{◌≡◌, ℕ, ◌+◌, ◌≤◌, Bool, List, All}
use Rattle.btree_map.specs.Trees.{keys_in}
use Rattle.dirty_nodes.specs.Dirty.{changed_nodes, paths_of, with_pins}
use Rattle.journal_writer.specs.Changes.{changes_of}
use Rattle.journal_writer.specs.Queues.{blocks_with, joined}
use Rattle.vol_types.specs.KeyMaps.{with_updates}
use Rattle.vol_types.specs.Standing.{IsUpdate}
use Rattle.vol_types.specs.declared.keys.Update.{Update}
use Rattle.core_volume.specs.Rulings.{entry_of}
use Rattle.core_volume.specs.Volumes.{Volume}

-- The updates may be intended: each is of a leaf and may stand there, and an entry with them alone takes at most 64 blocks.
pub record AreIntended (mirrors : ℕ) (updates : List Update) : Type 0 where
  pub each : All IsUpdate updates
  pub leaves : All (λ (update : Update). update.level ≡ 0) updates
  pub few : blocks_with mirrors updates ≤ 64

-- The commit made all updates: they are in the keys, and joined the open entry with the values from before them; the nodes that they
-- change are dirty, and it is noted that they changed. Nothing else has changed.
pub record IsCommitted (updates : List Update) (counted : Bool) (old new : Volume) : Type 0 where
  pub keys : keys_in new.trees ≡ with_updates updates (keys_in old.trees)
  pub nodes : new.trees.nodes ≡ old.trees.nodes
  pub rest : new ≡ record old {
    trees = new.trees;
    queue = joined (changes_of updates (keys_in old.trees)) counted old.queue;
    pins = with_pins (entry_of old updates) (changed_nodes old.trees.nodes updates) old.pins;
    marks = with_pins (entry_of old updates) (paths_of old.trees.nodes updates) old.marks;
    later = with_pins (entry_of old updates) (changed_nodes old.trees.nodes updates) old.later;
    changes = old.changes + 1;
  }
