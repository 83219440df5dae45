use Rattle.std.proofs.Common.{◌≡◌, ◌-◌, ◌++◌}
use Rattle.std.specs.Prelude.{option_map}
use Rattle.node_store.specs.StoredSets.{parts_from}
use Rattle.node_store.proofs.sets.with_parts.Given as goal

abbrev pub invariant-loop-part : goal.invariant-loop-part
invariant-loop-part l =
    option_map (λ rest. l.joined ++ rest) (parts_from l.copies l.first l.n (l.first.parts - l.part) l.part)
    ≡ option_map (λ rest. l.fn.joined ++ rest) (parts_from l.copies l.first l.n (l.first.parts - 1) 1)
