use Rattle.std.proofs.Common.{◌≡◌, ℕ, ◌-◌}
use Rattle.forest_ops.specs.Tallies.{counted}
use Rattle.forest_ops.specs.Names.{links_in}
use Rattle.forest_ops.proofs.directories.forget.Given as goal

abbrev pub invariant-loop-number : goal.invariant-loop-number
invariant-loop-number l = (other : ℕ) → counted other l.links - links_in other l.number-iterator ≡ counted other l.fn.links - links_in other l.gone
