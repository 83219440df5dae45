use Rattle.std.proofs.Common.{rules, ap, ◌∙◌}
use Rattle.std.specs.Prelude.{not}
use Rattle.std.specs.Ordering.{is_eq}
use Rattle.std.proofs.lemmas.Fn.{filter_same}
use Rattle.dirent_keys.specs.Links.{without_name}
use Rattle.vol_types.specs.Ranges.{name_cmp}
use Rattle.vol_types.specs.declared.values.Link.{Link}
use Rattle.dirent_keys.proofs.links.without_name.Goals as goal

pub returns : goal.returns
returns c =
    c.from.ensures
    ∙ filter_same _ (λ (link : Link). not (is_eq (name_cmp c.args.name.now link.name))) _ (λ x b f' k. search rules) _ _ c.retain.ensures.filtered
    ∙ ap (without_name c.args.name.now) c.from-members.ensures
