use Rattle.std.proofs.Common.{ap}
use Rattle.volume.specs.Planning.{Standing}
use Rattle.volume.proofs.Served.{standing_moves}
use Rattle.volume.proofs.planner.plan_in.Goals as goal

pub returns-clause-moved : goal.returns-clause-moved
returns-clause-moved g c = standing_moves g.O.Opening.found g.D.Devices.state c.args.asked.client c.args.session c.plan_from.result.0 c.plan_from.ensures.begun.stands

pub returns-clause-shortages : goal.returns-clause-shortages
returns-clause-shortages g c = ap (λ (s : Standing). s.shortages) c.plan_from.ensures.begun.stands
