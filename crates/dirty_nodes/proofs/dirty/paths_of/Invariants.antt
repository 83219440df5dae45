use Rattle.std.proofs.Common.{◌≡◌, ◌++◌, drop}
use Rattle.dirty_nodes.specs.Dirty.{changed_nodes, paths_of}
use Rattle.dirty_nodes.proofs.dirty.paths_of.Given as goal

abbrev pub invariant-loop-update : goal.invariant-loop-update
invariant-loop-update l = record {
  changed : l.paths.changed.items ++ changed_nodes l.map.nodes (drop l.update-index l.updates) ≡ changed_nodes l.map.nodes l.updates;
  over : l.paths.over.items ++ paths_of l.map.nodes (drop l.update-index l.updates) ≡ paths_of l.map.nodes l.updates;
}
