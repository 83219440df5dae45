-- What stands at the first path, and then where it goes.
use Rattle.std.proofs.Common.{◌∙◌, ap, sym}
use Rattle.forest_ops.specs.Refusals.{◌>>=◌}
use Rattle.name_plan.specs.Moved.{source_renamed}
use Rattle.path_plan.specs.LookLaws.{carried, seen_before}
use Rattle.name_plan.proofs.renaming.rename_in.Goals as goal

pub returns-in-Err-clause-moved : goal.returns-in-Err-clause-moved
returns-in-Err-clause-moved g c = λ keys seen. ap (λ r. r >>= source_renamed keys c.args.from.now c.args.to.now c.args.sub.now) (sym c.in-Err.is ∙ c.in_ok-source.ensures.source keys seen)

pub returns-clause-moved : goal.returns-clause-moved
returns-clause-moved g c = carried c.rename_source.result _ _
    (λ result is keys seen.
    let before = seen_before keys (g.V.View.made c.source_of.new.view) (g.V.View.made c.rename_source.new.view) c.args.tree.now c.rename_source.ensures.looks seen in
    is keys seen ∙ ap (λ r. r >>= source_renamed keys c.args.from.now c.args.to.now c.args.sub.now) (sym c.in-Ok.is ∙ c.in_ok-source.ensures.source keys before))
    c.rename_source.ensures.moved
