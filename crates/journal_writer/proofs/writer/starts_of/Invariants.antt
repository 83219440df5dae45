use Rattle.std.proofs.Common.{◌≡◌, take}
use Rattle.journal_writer.specs.Writers.{starts_of}
use Rattle.journal_writer.proofs.writer.starts_of.Given as goal

abbrev pub invariant-loop-found : goal.invariant-loop-found
invariant-loop-found l = l.starts.items ≡ starts_of l.end (take l.found-index l.needed)
