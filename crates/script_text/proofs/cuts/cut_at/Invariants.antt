use Rattle.std.proofs.Common.{◌≡◌, take, true}
use Rattle.script_text.proofs.TextCuts.{is_unbroken}
use Rattle.script_text.proofs.cuts.cut_at.Given as goal

abbrev pub invariant-loop-at : goal.invariant-loop-at
invariant-loop-at l = is_unbroken l.byte (take l.at l.text) ≡ true
