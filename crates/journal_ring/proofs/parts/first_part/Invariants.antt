use Rattle.std.proofs.Common.{◌≡◌, None}
use Rattle.journal_ring.specs.Parts.{area_in, first_on, part_on}
use Rattle.journal_ring.proofs.parts.first_part.Given as goal

abbrev pub invariant-loop-dev : goal.invariant-loop-dev
invariant-loop-dev l = first_on (part_on l.layout (area_in l.areas) l.first l.part) l.dev ≡ None
