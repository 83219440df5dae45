use Rattle.replay.proofs.Made.{found_made}
use Rattle.replay.proofs.reading.with_map.Goals as goal

pub returns-in-Ok-clause-found : goal.returns-in-Ok-clause-found
returns-in-Ok-clause-found c = found_made c.args.read c.in-Ok.made.map c.in-Ok.made.ends c.in-Ok.ensures.map c.in-Ok.ensures.ends
