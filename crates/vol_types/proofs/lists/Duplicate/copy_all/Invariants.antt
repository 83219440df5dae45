use Rattle.std.proofs.Common.{◌≡◌, take}
use Rattle.vol_types.proofs.lists.Duplicate.copy_all.Given as goal

abbrev pub invariant-loop-member : goal.invariant-loop-member
invariant-loop-member g l = l.list ≡ take l.member-index l.members
