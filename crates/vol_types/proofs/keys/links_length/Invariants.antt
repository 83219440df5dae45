use Rattle.std.proofs.Common.{◌≡◌, ◌≤◌, ◌*◌, sum_by, take}
use Rattle.vol_types.specs.Lengths.{link_length}
use Rattle.vol_types.proofs.keys.links_length.Given as goal

abbrev pub invariant-loop-link : goal.invariant-loop-link
invariant-loop-link l = (l.total ≡ sum_by link_length (take l.link-index l.link-items)) × (l.total ≤ l.link-index * 265)
