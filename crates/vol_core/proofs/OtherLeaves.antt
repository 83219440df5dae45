-- The core stays safe where leaves change in memory alone: what is kept of them holds of the new ones, and no key and no entry changes.
use Rattle.std.proofs.Common.{ℕ, List, refl}
use Rattle.birth_index.specs.Exchanges.{HaveOneNode}
use Rattle.bucket_pool.specs.Space.{Space}
use Rattle.crash_safety.specs.KeptLeaves.{KeepsLeaves}
use Rattle.core_volume.specs.Volumes.{Volume}
use Rattle.dev_model.specs.Devices.{DevicesState}
use Rattle.image_view.specs.Found.{Found}
use Rattle.node_writeback.specs.NodeWork.{NodeWork}
use Rattle.tree_nodes.specs.Levels.{Levels}
use Rattle.vol_core.specs.Safety.{IsCoreSafe}
use Rattle.vol_core.specs.VolumeLeaves.{leaves_in}
use Rattle.vol_core.proofs.KnownParts.{flies_also, known_also}

-- what a volume knows of nodes, and how many commits of updates and of nodes there were
pub record NodesKnown : Type 0 where
  pub nodes : List Levels
  pub pins : List (ℕ × ℕ)
  pub marks : List (ℕ × ℕ)
  pub later : List (ℕ × ℕ)
  pub space : Space
  pub work : NodeWork
  pub emptied : ℕ
  pub changes : ℕ

-- a volume that knows this of nodes
abbrev pub with_known : NodesKnown → Volume → Volume
with_known known volume = record volume {
  trees = record { keys = volume.trees.keys; nodes = known.nodes };
  pins = known.pins;
  marks = known.marks;
  later = known.later;
  space = known.space;
  work = known.work;
  emptied = known.emptied;
  changes = known.changes;
}

-- The core stays safe.
pub other_leaves_on : (begun : Found) (start state : DevicesState) (old : Volume) (kept : IsCoreSafe begun start state old) (known : NodesKnown) → HaveOneNode known.nodes → KeepsLeaves kept.f kept.writing state (leaves_in (with_known known old))
    → IsCoreSafe begun start state (with_known known old)
other_leaves_on begun start state old kept known one leaves =
    let new = with_known known old in
    record {
      f = kept.f;
      image = kept.image;
      writing = kept.writing;
      asked = kept.asked;
      written = kept.written;
      bases = kept.bases;
      durable = kept.durable;
      safe = kept.safe;
      begins = kept.begins;
      chain = kept.chain;
      past = kept.past;
      flushed = kept.flushed;
      flags = kept.flags;
      known = known_also kept.f old new kept.known refl refl refl;
      starts = kept.starts;
      first = kept.first;
      lead = kept.lead;
      leaves = kept.leaves;
      one = one;
      kept = leaves;
      flying = flies_also kept.f old.writer.flight kept.writing kept.asked kept.written old new kept.flying refl refl;
    }
