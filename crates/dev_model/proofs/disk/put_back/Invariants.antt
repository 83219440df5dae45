use Rattle.std.proofs.Common.{◌≡◌, ◌-◌, length, drop}
use Rattle.dev_model.specs.MemDisks.{restored}
use Rattle.dev_model.proofs.disk.put_back.Given as goal

abbrev pub invariant-loop-i : goal.invariant-loop-i
invariant-loop-i l = l.blocks ≡ restored (drop (length l.overwritten - l.i) l.overwritten) l.fn.blocks
