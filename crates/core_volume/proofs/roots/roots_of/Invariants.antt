use Rattle.std.proofs.Common.{◌≡◌, map, take}
use Rattle.std.specs.Prelude.{All}
use Rattle.node_writeback.specs.Due.{root_of}
use Rattle.vol_types.specs.Ranges.{IsNode}
use Rattle.core_volume.proofs.roots.roots_of.Given as goal

abbrev pub invariant-loop-code : goal.invariant-loop-code
invariant-loop-code l = record {
  roots : l.roots ≡ map root_of (take l.code l.map.nodes);
  in_range : All IsNode l.roots;
}
