use Rattle.std.proofs.Common.{◌≡◌, Global, drop, map}
use Rattle.std.specs.List.{position_from}
use Rattle.std.specs.Rc.{rc_str_bytes}
use Rattle.bvol.specs.Arguments.{is_dashes, first_dashes}
use Rattle.bvol.proofs.arguments.first_dashes.Given as goal

abbrev pub invariant-loop-place : goal.invariant-loop-place
invariant-loop-place l = position_from is_dashes l.place (drop l.place (map (rc_str_bytes {Z = Global}) l.args)) ≡ first_dashes (map (rc_str_bytes {Z = Global}) l.args)
