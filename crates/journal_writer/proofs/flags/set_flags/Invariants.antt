use Rattle.std.proofs.Common.{◌≡◌}
use Rattle.journal_writer.specs.Writers.{with_flags}
use Rattle.journal_writer.proofs.flags.set_flags.Given as goal

abbrev pub invariant-loop-flag : goal.invariant-loop-flag
invariant-loop-flag l = l.flags ≡ with_flags l.flag l.initial.flags
