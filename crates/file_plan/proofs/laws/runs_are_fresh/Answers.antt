use Rattle.file_plan.proofs.Giving.{run_content, run_fresh, run_within}
use Rattle.file_plan.proofs.laws.runs_are_fresh.Goals as goal

pub returns-clause-fresh : goal.returns-clause-fresh
returns-clause-fresh c = run_fresh

pub returns-clause-within : goal.returns-clause-within
returns-clause-within c = λ number id first end keys run. (run_within number id first end keys run).1

pub returns-clause-content : goal.returns-clause-content
returns-clause-content c = run_content
