-- The subvolume of both paths, and then the rename in it.
use Rattle.std.proofs.Common.{◌∙◌, ap, sym}
use Rattle.forest_ops.specs.Refusals.{◌>>=◌}
use Rattle.name_plan.proofs.MovedKeys.{carried_updates}
use Rattle.name_plan.specs.Moved.{renamed_in}
use Rattle.path_plan.specs.LookLaws.{carried, gave_before}
use Rattle.path_plan.specs.PathLaws.{sub_is_shared}
use Rattle.name_plan.proofs.renaming.rename_shared.Goals as goal

pub returns-in-Err-clause-moved : goal.returns-in-Err-clause-moved
returns-in-Err-clause-moved g c = λ keys seen. ap (λ r. r >>= renamed_in keys c.args.from.now c.args.to.now) (sym c.in-Err.is ∙ c.in_ok-sub.ensures.found keys seen.gives)

pub returns-clause-moved : goal.returns-clause-moved
returns-clause-moved g c = carried c.rename_in.result _ _
    (λ result is keys seen.
    let before = gave_before keys (g.V.View.made c.shared_subvolume.new.view) (g.V.View.made c.rename_in.new.view) c.rename_in.ensures.looks seen.gives in
    is keys seen ∙ ap (λ r. r >>= renamed_in keys c.args.from.now c.args.to.now) (sym c.in-Ok.is ∙ c.in_ok-sub.ensures.found keys before))
    c.rename_in.ensures.moved

pub returns-clause-fits : goal.returns-clause-fits
returns-clause-fits g c = carried_updates c.rename_in.result _ _
    (λ updates has keys seen tidy.
    let before = gave_before keys (g.V.View.made c.shared_subvolume.new.view) (g.V.View.made c.rename_in.new.view) c.rename_in.ensures.looks seen.gives in
    let shared = sub_is_shared keys c.args.from.now c.args.to.now c.in-Ok.sub (sym (sym c.in-Ok.is ∙ c.in_ok-sub.ensures.found keys before)) in
    has shared.to_good keys seen tidy.drawn)
    c.rename_in.ensures.fits
