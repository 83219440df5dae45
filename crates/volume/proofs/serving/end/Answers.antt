use Rattle.std.proofs.Common.{subst}
use Rattle.core_state.specs.States.{IsState}
use Rattle.volume.proofs.Acting.{has_ended}
use Rattle.volume.proofs.serving.end.Goals as goal

pub returns-clause-rest : goal.returns-clause-rest
returns-clause-rest g c =
    (has_ended c.args.client c.args.session.now.core.memory c.step.new.self.core.memory (subst IsState c.memory.ensures.memory c.see_kept.ensures.kept) c.requires c.step.result c.step.ensures.gives.0).rest
