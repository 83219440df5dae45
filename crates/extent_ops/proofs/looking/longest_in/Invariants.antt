use Rattle.std.proofs.Common.{map, take}
use Rattle.vol_types.specs.declared.keys.Update.{Update}
use Rattle.extent_ops.specs.Looking.{IsLongest}
use Rattle.extent_ops.proofs.looking.longest_in.Given as goal

abbrev pub invariant-loop-update : goal.invariant-loop-update
invariant-loop-update l = IsLongest l.so_far (map (λ (u : Update). u.value) (take l.update-index l.updates)) l.longest
