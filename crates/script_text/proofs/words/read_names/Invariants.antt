use Rattle.std.proofs.Common.{length}
use Rattle.script_text.proofs.NameReading.{AreNamesTo}
use Rattle.script_text.proofs.words.read_names.Given as goal

abbrev pub invariant-loop-names : goal.invariant-loop-names
invariant-loop-names l = AreNamesTo l.text l.rest l.names

abbrev pub decreases-loop-names : goal.decreases-loop-names
decreases-loop-names l = length l.rest
