use Rattle.std.proofs.Common.{◌≡◌, drop}
use Rattle.replay.specs.Roots.{listed_end}
use Rattle.replay.proofs.roots.listed_end.Given as goal

abbrev pub invariant-loop-end : goal.invariant-loop-end
invariant-loop-end l = listed_end (drop l.end-index l.ends) l.birth ≡ listed_end l.ends l.birth
