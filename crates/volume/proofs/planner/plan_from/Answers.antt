use Rattle.volume.proofs.Seen.{plan_shown}
use Rattle.volume.proofs.planner.plan_from.Goals as goal

pub returns-in-Ok-clause-now : goal.returns-in-Ok-clause-now
returns-in-Ok-clause-now g c = plan_shown c.memory.result.now c.planner.inside.session c.plan-planned.new.view c.args.asked.client g.B.Begun.client c.in-Ok.plan c.requires.client c.memory.ensures.memory c.see_kept.ensures.kept c.planner.view_is c.in-Ok.ensures.plan
