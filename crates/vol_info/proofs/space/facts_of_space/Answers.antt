use Rattle.std.proofs.Common.{◌++◌, ◌∙◌, [], ◌∷◌, map, ap, sym, arith}
use Rattle.std.specs.List.{range_with_len}
use Rattle.std.proofs.lemmas.List.FromFn.{map-range_with_len_more}
use Rattle.vol_types.specs.LayoutLaws.{layout_found}
use Rattle.vol_info.specs.Facts.{device_facts}
use Rattle.vol_info.proofs.space.facts_of_space.Goals as goal

pub count_of-dev-end-requires : goal.count_of-dev-end-requires
count_of-dev-end-requires c = (layout_found c.args.layout.now c.requires.layout).devices.1

pub loop-dev-preserved : goal.loop-dev-preserved
loop-dev-preserved c =
    let facts = device_facts c.args.pool.now in
    c.in_ok-push.ensures.ok ∙ ap (λ list. list ++ c.facts_of_device.result ∷ []) c.loop-dev.invariant ∙ ap (λ one. map facts (range_with_len 0 c.loop-dev.dev) ++ one ∷ []) c.facts_of_device.ensures
    ∙ sym (map-range_with_len_more facts 0 c.loop-dev.dev c.loop-dev.dev (omega arith))
