use Rattle.key_steps.proofs.Showing.{shown_is_drawn}
use Rattle.key_steps.proofs.Staying.{leaf_is_small}
use Rattle.key_steps.proofs.kept.shown_numbers_are_drawn.Goals as goal

pub returns : goal.returns
returns c = record {
  drawn = λ keys nodes layout id number kind kept is. shown_is_drawn keys id number kind kept.drawn is;
  small = λ keys nodes layout id kept leaf. leaf_is_small keys id kept.drawn leaf;
}
