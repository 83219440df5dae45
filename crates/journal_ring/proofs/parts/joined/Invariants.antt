use Rattle.std.proofs.Common.{◌≡◌, Some}
use Rattle.journal_ring.specs.Parts.{area_in, joined}
use Rattle.journal_ring.proofs.parts.joined.Given as goal

abbrev pub invariant-loop-part : goal.invariant-loop-part
invariant-loop-part l = joined l.layout (area_in l.areas) l.dev l.first l.part ≡ Some l.bytes
