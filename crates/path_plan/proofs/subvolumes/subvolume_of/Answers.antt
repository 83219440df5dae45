-- The subvolume that shows under the path's name, where the path is good.
use Rattle.std.proofs.Common.{◌∙◌, ap, sym}
use Rattle.std.specs.Option.{ok_or}
use Rattle.std.specs.Prelude.{not}
use Rattle.forest_ops.specs.Refusals.{◌>>=◌, refused_if}
use Rattle.forest_ops.specs.declared.operation.Cause.TheVariants.{BadPath, NoSubvolume}
use Rattle.key_meaning.specs.Forest.{sub_named}
use Rattle.path_plan.proofs.subvolumes.subvolume_of.Goals as goal

pub returns-clause-found : goal.returns-clause-found
returns-clause-found g c = λ keys gives.
    c.ok_or.ensures.value ∙ ap (λ o. ok_or o NoSubvolume) (c.in_ok-found.ensures.found keys gives)
    ∙ ap (λ b. refused_if (not b) BadPath >>= (λ _. ok_or (sub_named keys c.args.path.now.sub) NoSubvolume)) (sym c.if-not-is_good.false ∙ c.is_good.ensures)
