use Rattle.std.proofs.Common.{◌∙◌}
use Rattle.file_plan.proofs.Overlaying.{overlaid_is}
use Rattle.file_plan.proofs.overlays.block_after.Goals as goal

pub returns-clause-after : goal.returns-clause-after
returns-clause-after g c = λ keys read seen holds had. c.in_ok-overlaid.ensures
    ∙ overlaid_is keys read c.args.id c.args.number c.args.size c.args.block c.args.offset c.args.bytes.now c.as_slice.result.now
    (λ left. c.as_slice.ensures ∙ c.in_ok-base.ensures.shown keys read seen holds had.in_range left)
