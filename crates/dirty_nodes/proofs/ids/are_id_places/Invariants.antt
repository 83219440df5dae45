use Rattle.std.proofs.Common.{◌≡◌}
use Rattle.dirty_nodes.specs.Ids.{are_id_places}
use Rattle.dirty_nodes.proofs.ids.are_id_places.Given as goal

abbrev pub invariant-loop-pos : goal.invariant-loop-pos
invariant-loop-pos l = are_id_places l.pos-iterator ≡ are_id_places l.values.entries
