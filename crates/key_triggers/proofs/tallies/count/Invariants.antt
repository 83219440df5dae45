use Rattle.std.proofs.Common.{◌≡◌, drop}
use Rattle.key_triggers.specs.Tallies.{counted}
use Rattle.key_triggers.proofs.tallies.count.Given as goal

abbrev pub invariant-loop-pointer : goal.invariant-loop-pointer
invariant-loop-pointer l = counted l.gives l.blocks (drop l.pointer-index l.pointers) l.tallies.entries ≡ counted l.gives l.blocks l.pointers l.fn.tallies.entries
