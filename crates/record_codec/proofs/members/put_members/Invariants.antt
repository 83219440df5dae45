use Rattle.std.proofs.Common.{◌≡◌, ◌++◌, All, take}
use Rattle.std.specs.List.{flat_map}
use Rattle.record_codec.proofs.members.put_members.Given as goal

abbrev pub invariant-loop-member : goal.invariant-loop-member
invariant-loop-member g l = record {
  written : l.into ≡ l.fn.into ++ flat_map g.T.Written.encode (take l.member-index l.members);
  width : All g.T.Written.Fits (take l.member-index l.members);
}
