use Rattle.volume.specs.Planning.{standing_in}
use Rattle.volume.proofs.planner.plan_in.Given as goal

abbrev pub ghosts-plan_from : goal.ghosts-plan_from
ghosts-plan_from g a = record { begun = standing_in g.D.Devices.state a.session; client = a.asked.client }
