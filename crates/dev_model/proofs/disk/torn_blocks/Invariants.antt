use Rattle.std.proofs.Common.{◌≡◌, take}
use Rattle.dev_model.proofs.LeftBlocks.{all_torn}
use Rattle.dev_model.proofs.disk.torn_blocks.Given as goal

abbrev pub invariant-loop-i : goal.invariant-loop-i
invariant-loop-i l = l.halves.items ≡ take l.i (all_torn l.first l.second)
