use Rattle.std.proofs.Common.{◌≡◌, ◌≤◌, [], get_or, take}
use Rattle.std.specs.Prelude.{count_by}
use Rattle.vol_info.specs.Facts.{is_used}
use Rattle.vol_info.proofs.space.used_on.Given as goal

abbrev pub invariant-loop-at : goal.invariant-loop-at
invariant-loop-at l = (l.used ≡ count_by is_used (take l.at (get_or l.pool l.dev []))) × (l.used ≤ l.at)
