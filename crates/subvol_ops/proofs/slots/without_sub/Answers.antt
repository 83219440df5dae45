use Rattle.std.proofs.Common.{rules, ap, ◌∙◌}
use Rattle.std.specs.Prelude.{not}
use Rattle.std.specs.Ordering.{is_eq}
use Rattle.std.proofs.lemmas.Fn.{filter_same}
use Rattle.id_steps.specs.SlotLists.{without_sub}
use Rattle.vol_types.specs.Ranges.{name_cmp}
use Rattle.vol_types.specs.declared.values.Sub.{Sub}
use Rattle.subvol_ops.proofs.slots.without_sub.Goals as goal

pub returns : goal.returns
returns c =
    c.from.ensures
    ∙ filter_same _ (λ (sub : Sub). not (is_eq (name_cmp c.args.name.now sub.name))) _ (λ x b f' k. search rules) _ _ c.retain.ensures.filtered
    ∙ ap (without_sub c.args.name.now) c.from-members.ensures
