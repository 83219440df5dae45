-- The subvolume of both paths, and then the link in it.
use Rattle.std.proofs.Common.{◌∙◌, ap, sym}
use Rattle.forest_ops.specs.Refusals.{◌>>=◌}
use Rattle.name_plan.proofs.Results.{carried_made}
use Rattle.name_plan.specs.New.{linked_in}
use Rattle.path_plan.specs.LookLaws.{carried, gave_before}
use Rattle.path_plan.specs.PathLaws.{sub_is_shared}
use Rattle.name_plan.proofs.linking.link_shared.Goals as goal

pub returns-in-Err-clause-made : goal.returns-in-Err-clause-made
returns-in-Err-clause-made g c = λ keys seen. ap (λ r. r >>= linked_in keys c.args.from.now c.args.to.now) (sym c.in-Err.is ∙ c.in_ok-sub.ensures.found keys seen.gives)

pub returns-clause-made : goal.returns-clause-made
returns-clause-made g c = carried c.link_in.result _ _
    (λ result is keys seen.
    let before = gave_before keys (g.V.View.made c.shared_subvolume.new.view) (g.V.View.made c.link_in.new.view) c.link_in.ensures.looks seen.gives in
    is keys seen ∙ ap (λ r. r >>= linked_in keys c.args.from.now c.args.to.now) (sym c.in-Ok.is ∙ c.in_ok-sub.ensures.found keys before))
    c.link_in.ensures.made

pub returns-clause-fits : goal.returns-clause-fits
returns-clause-fits g c = carried_made c.link_in.result _ _
    (λ updates has keys seen tidy.
    let before = gave_before keys (g.V.View.made c.shared_subvolume.new.view) (g.V.View.made c.link_in.new.view) c.link_in.ensures.looks seen.gives in
    let shared = sub_is_shared keys c.args.from.now c.args.to.now c.in-Ok.sub (sym (sym c.in-Ok.is ∙ c.in_ok-sub.ensures.found keys before)) in
    has shared.to_good keys seen tidy.drawn)
    c.link_in.ensures.fits
