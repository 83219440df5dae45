use Rattle.id_steps.proofs.Joined.{dead_chains, dead_joined}
use Rattle.id_steps.proofs.ids.dead_leaves_stay.Goals as goal

pub returns : goal.returns
returns c = record {
  joined = λ snaps id leaf joined found live. dead_joined snaps id leaf found live joined;
  chains = λ snaps id other leaf rises found. dead_chains snaps id leaf found rises other;
}
