use Rattle.geometry.specs.SessionLaws.{session_remains, session_is_there}
use Rattle.geometry.proofs.laws.sessions_stay.Goals as goal

pub returns : goal.returns
returns c = record { remains = session_remains; is_there = session_is_there }
