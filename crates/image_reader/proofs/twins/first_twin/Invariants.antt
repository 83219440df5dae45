use Rattle.std.proofs.Common.{length}
use Rattle.image_reader.proofs.TwinsTold.{IsSeen}
use Rattle.image_reader.proofs.twins.first_twin.Given as goal

abbrev pub invariant-loop-rest : goal.invariant-loop-rest
invariant-loop-rest l = IsSeen l.nodes l.rest l.seen.keys l.twin

abbrev pub decreases-loop-rest : goal.decreases-loop-rest
decreases-loop-rest l = length l.rest
