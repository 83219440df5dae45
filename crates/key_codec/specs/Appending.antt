-- The lemmas for what several appends leave.
use Rattle.std.proofs.Common.{append_assoc, append-nil}
use Rattle.std.proofs.Math.Seq.{drop-append_seam, drop-length}

-- Appends regroup, and after a prefix stands what was appended to it.
pub ruleset appending = (append_assoc, append-nil, drop-append_seam, drop-length)
