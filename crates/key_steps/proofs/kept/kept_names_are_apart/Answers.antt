use Rattle.key_steps.proofs.Apart.{kept_apart}
use Rattle.key_steps.proofs.kept.kept_names_are_apart.Goals as goal

pub returns : goal.returns
returns c = kept_apart
