-- The answer is that of what stands at the path.
use Rattle.std.proofs.Common.{◌∙◌}
use Rattle.fs_plan.proofs.Told.{sync_alike}
use Rattle.fs_plan.proofs.syncing.sync_in.Goals as goal

pub returns-clause-reply : goal.returns-clause-reply
returns-clause-reply g c = λ keys read seen.
    c.sync_reply.ensures ∙ sync_alike keys read c.args.path.now c.as_slice.result.now c.as_slice.ensures c.in_ok-reached.reached (c.in_ok-reached.ensures.found keys seen)
