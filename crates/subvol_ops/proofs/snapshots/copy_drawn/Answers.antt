-- A snapshot is made where two ids are left.
use Rattle.std.proofs.Common.{sym, ap, ◌∙◌}
use Rattle.std.specs.Prelude.{Ok}
use Rattle.std.specs.Option.{ok_or}
use Rattle.forest_ops.specs.Refusals.{◌>>=◌}
use Rattle.forest_ops.specs.declared.operation.Cause.TheVariants.{IdsSpent}
use Rattle.subvol_ops.specs.Plans.{updates_to_copy}
use Rattle.subvol_ops.specs.Slots.{next_id}
use Rattle.subvol_ops.proofs.snapshots.copy_drawn.Goals as goal

pub returns : goal.returns
returns c = λ keys sub snap subs_is others_is led next_is.
    let source = c.args.source.now in
    let copy = c.args.copy.now in
    ap (λ us. Ok us) (c.in_ok-updates_to_copy.ensures keys sub snap subs_is others_is led (next_is ∙ sym c.in-Some.ensures.stands))
    ∙ ap (λ o. ok_or o IdsSpent >>= (λ _. Ok (updates_to_copy keys sub snap source copy c.args.locked))) (sym c.in-Some.is ∙ c.next_id.ensures.is ∙ ap (next_id 2) (sym next_is))
