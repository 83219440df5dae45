use Rattle.std.proofs.Common.{refl}
use Rattle.forest_ops.specs.declared.operation.Reply.TheVariants.{Halted}
use Rattle.volume.proofs.Replying.{change_fails}
use Rattle.volume.proofs.committing.fail_halted.Goals as goal

pub fail-requires-clause-failure : goal.fail-requires-clause-failure
fail-requires-clause-failure g c = change_fails c.args.session.now.core.memory c.args.client c.args.op (Halted c.args.halt.dev c.args.halt.tick) c.requires.changes refl c.requires.done
