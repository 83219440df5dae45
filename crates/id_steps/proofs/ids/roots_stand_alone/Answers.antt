use Rattle.id_steps.proofs.Joined.{root_chain, root_joined, root_others}
use Rattle.id_steps.proofs.ids.roots_stand_alone.Goals as goal

pub returns : goal.returns
returns c = record {
  joined = λ snaps id joined some above. root_joined snaps id some above joined;
  chain = λ snaps id some above. root_chain snaps id some above;
  others = λ snaps id other some above apart. root_others snaps id some above other apart;
}
