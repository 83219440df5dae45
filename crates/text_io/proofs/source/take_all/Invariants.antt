use Rattle.std.proofs.Common.{length, ◌+◌, ◌-◌, ◌≡◌, ◌<◌, ◌≤◌}
use Rattle.text_io.proofs.Lists.{Splits}
use Rattle.text_io.proofs.source.take_all.Given as goal

abbrev pub invariant-loop-bytes : goal.invariant-loop-bytes
invariant-loop-bytes g l = record {
  size : length l.bytes ≤ l.limit + 1;
  piece : 0 < length l.piece.items;
  split : g.S.Source.tells → Splits (g.S.Source.left l.fn.source) l.bytes (g.S.Source.left l.source);
  still : g.S.Source.faults l.source ≡ g.S.Source.faults l.fn.source;
}

abbrev pub decreases-loop-bytes : goal.decreases-loop-bytes
decreases-loop-bytes g l = l.limit + 1 - length l.bytes
