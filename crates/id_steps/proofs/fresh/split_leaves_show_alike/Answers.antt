use Rattle.id_steps.proofs.Origins.{split_copy, split_other, split_source}
use Rattle.id_steps.proofs.fresh.split_leaves_show_alike.Goals as goal

pub returns : goal.returns
returns c = record {
  source = λ keys new id leaf drawn apart found left files are. split_source keys new files drawn id leaf found left are apart;
  copy = λ keys new id leaf drawn apart found left files are. split_copy keys new files drawn id leaf found left are apart;
  others = λ keys new id other leaf drawn apart found left files are differ also. split_other keys new files drawn id leaf found left are apart other differ also;
}
