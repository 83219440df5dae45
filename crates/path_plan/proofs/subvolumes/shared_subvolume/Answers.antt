-- The subvolume that shows under the name of both paths, where they are good.
use Rattle.std.proofs.Common.{◌∙◌, ap, sym}
use Rattle.std.specs.Option.{ok_or}
use Rattle.std.specs.Prelude.{not}
use Rattle.forest_ops.specs.Refusals.{◌>>=◌, refused_if}
use Rattle.forest_ops.specs.Walking.{same_name}
use Rattle.forest_ops.specs.declared.operation.Cause.TheVariants.{BadPath, Cross, NoSubvolume}
use Rattle.key_meaning.specs.Forest.{sub_named}
use Rattle.plain_forest.specs.Names.{is_good_path}
use Rattle.path_plan.proofs.subvolumes.shared_subvolume.Goals as goal

pub returns-clause-found : goal.returns-clause-found
returns-clause-found g c = λ keys gives.
    let from = c.args.from.now in
    let to = c.args.to.now in
    c.ok_or.ensures.value ∙ ap (λ o. ok_or o NoSubvolume) (c.in_ok-found.ensures.found keys gives)
    ∙ ap (λ b. refused_if (not b) Cross >>= (λ _. ok_or (sub_named keys from.sub) NoSubvolume)) (sym c.if-not-is_same_name.false ∙ c.is_same_name.ensures)
    ∙ ap (λ b. refused_if (not b) BadPath >>= (λ _. refused_if (not (same_name from.sub to.sub)) Cross >>= (λ _. ok_or (sub_named keys from.sub) NoSubvolume))) (sym c.if-not-is_good-2.false ∙ c.is_good-2.ensures)
    ∙ ap (λ b. refused_if (not b) BadPath >>= (λ _. refused_if (not (is_good_path to)) BadPath >>= (λ _. refused_if (not (same_name from.sub to.sub)) Cross >>= (λ _. ok_or (sub_named keys from.sub) NoSubvolume)))) (sym c.if-not-is_good.false ∙ c.is_good.ensures)
