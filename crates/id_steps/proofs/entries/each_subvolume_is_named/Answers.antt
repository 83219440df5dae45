use Rattle.id_steps.proofs.Common.{subvolumes_put}
use Rattle.id_steps.proofs.Slots.{each_found}
use Rattle.id_steps.proofs.entries.each_subvolume_is_named.Goals as goal

pub returns : goal.returns
returns c = record {
  found = λ keys sub is drawn good among. each_found keys is drawn good sub among;
  forest = λ keys new read name same. subvolumes_put keys new read name same;
}
