use Rattle.std.proofs.Common.{length}
use Rattle.script_text.proofs.NameReading.{IsNameTo}
use Rattle.script_text.proofs.names.read_name.Given as goal

abbrev pub invariant-loop-rest : goal.invariant-loop-rest
invariant-loop-rest l = IsNameTo l.word l.rest l.name

abbrev pub decreases-loop-rest : goal.decreases-loop-rest
decreases-loop-rest l = length l.rest
