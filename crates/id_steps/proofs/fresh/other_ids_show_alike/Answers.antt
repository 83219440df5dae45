use Rattle.id_steps.proofs.Growing.{grown_alike}
use Rattle.id_steps.proofs.Origins.{dead_grows, root_grows}
use Rattle.id_steps.proofs.fresh.other_ids_show_alike.Goals as goal

pub returns : goal.returns
returns c = record {
  root = λ keys new drawn apart left files are id. grown_alike keys new (λ x. x) (root_grows keys new files drawn left are) apart id;
  dead = λ keys new id leaf apart found files are other. grown_alike keys new (λ x. x) (dead_grows keys new files id leaf found are) apart other;
}
