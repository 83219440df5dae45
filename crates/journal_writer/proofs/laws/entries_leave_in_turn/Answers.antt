use Rattle.std.proofs.Common.{arith}
use Rattle.journal_writer.proofs.Joining.{oldest-taken, same-taken, taken_out}
use Rattle.journal_writer.proofs.laws.entries_leave_in_turn.Goals as goal

pub returns : goal.returns
returns c = record {
  sound = λ queue is numbers. (taken_out queue 0 1 is numbers (λ some. omega arith)).1;
  mirrors = λ queue. (same-taken queue).0;
  commits = λ queue. (same-taken queue).1;
  sequence = λ queue is. (oldest-taken queue is).0;
  blocks = λ queue is. (oldest-taken queue is).1;
  last = λ queue is. (oldest-taken queue is).2;
}
