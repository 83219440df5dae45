use Rattle.std.proofs.Common.{◌≡◌, ◌≤◌, ◌*◌, sum_by, take}
use Rattle.vol_types.specs.Lengths.{sub_length}
use Rattle.vol_types.proofs.keys.subs_length.Given as goal

abbrev pub invariant-loop-sub : goal.invariant-loop-sub
invariant-loop-sub l = (l.total ≡ sum_by sub_length (take l.sub-index l.sub-items)) × (l.total ≤ l.sub-index * 269)
