use Rattle.std.proofs.Common.{◌≡◌, ◌++◌, All, None, take}
use Rattle.std.specs.List.{flat_map}
use Rattle.key_codec.proofs.items.put_items.Given as goal

abbrev pub invariant-loop-member : goal.invariant-loop-member
invariant-loop-member g l = record {
  written : l.into ≡ l.fn.into ++ flat_map (g.T.Item.format None).encode (take l.member-index l.members);
  width : All g.T.Item.Fits (take l.member-index l.members);
}
