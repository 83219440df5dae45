use Rattle.std.proofs.Common.{◌≡◌, ◌++◌, drop}
use Rattle.std.specs.List.{flat_map}
use Rattle.std.specs.Option.{option_to_list}
use Rattle.birth_index.specs.Births.{levels_of}
use Rattle.dirty_nodes.specs.Dirty.{birth_in, path_of}
use Rattle.dirty_nodes.proofs.dirty.add_path.Given as goal

abbrev pub invariant-loop-level : goal.invariant-loop-level
invariant-loop-level l =
    l.births.items ++ flat_map (λ nodes. option_to_list (birth_in l.update.pos nodes)) (drop l.level (levels_of l.map.nodes l.update.btree)) ≡ l.initial.births.items ++ path_of l.map.nodes l.update
