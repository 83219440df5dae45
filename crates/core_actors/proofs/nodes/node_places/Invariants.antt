use Rattle.std.proofs.Common.{◌≡◌, ◌<◌, ◌++◌, drop, length}
use Rattle.core_actors.specs.Nodes.{places_in}
use Rattle.core_actors.proofs.nodes.node_places.Given as goal

abbrev pub invariant-loop-code : goal.invariant-loop-code
invariant-loop-code l = (l.places ++ places_in (drop l.code l.map.nodes) ≡ places_in l.map.nodes) × (0 < l.code → length l.map.nodes ≡ 9)
