-- A directory has names where it isn't bare.
use Rattle.name_plan.proofs.Emptied.{bare_is}
use Rattle.name_plan.proofs.removing.has_names.Goals as goal

pub returns-clause-has : goal.returns-clause-has
returns-clause-has g c = λ keys seen. bare_is keys c.args.id c.args.directory c.in_ok-bare.bare (c.in_ok-bare.ensures.bare keys seen)
