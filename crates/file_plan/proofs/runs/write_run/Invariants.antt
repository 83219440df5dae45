use Rattle.std.proofs.Common.{length}
use Rattle.file_plan.proofs.Written.{RunSoFar}
use Rattle.file_plan.proofs.runs.write_run.Given as goal

abbrev pub invariant-loop-rest : goal.invariant-loop-rest
invariant-loop-rest g l =
    RunSoFar l.number l.id l.first l.fn.blocks l.keys l.at l.rest (g.V.Contents.io l.fn.view) (g.V.Contents.io l.view) (g.V.View.made l.fn.view) (g.V.View.made l.view) (g.V.View.told l.fn.view) (g.V.View.told l.view) (g.V.Contents.most l.fn.view) (g.V.Contents.most l.view)

abbrev pub decreases-loop-rest : goal.decreases-loop-rest
decreases-loop-rest g l = length l.rest
