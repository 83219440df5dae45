use Rattle.std.proofs.Common.{refl, subst, sym}
use Rattle.forest_ops.specs.declared.operation.Reply.{Reply}
use Rattle.forest_ops.specs.declared.operation.Reply.TheVariants.{NoSpace}
use Rattle.vol_session.specs.Sessions.{IsFailureNow}
use Rattle.volume.proofs.Replying.{change_fails}
use Rattle.volume.proofs.serving.lack.Goals as goal

pub fail-requires-clause-failure : goal.fail-requires-clause-failure
fail-requires-clause-failure g c =
    subst (λ (reply : Reply). IsFailureNow c.args.session.now.core.memory c.args.client c.args.op reply) (sym c.in-Ok.ensures)
    (change_fails c.args.session.now.core.memory c.args.client c.args.op (NoSpace c.args.short) c.requires.changes refl c.requires.done)
