use Rattle.std.proofs.Common.{◌≡◌, ◌+◌, ◌-◌, ◌^◌, ◌<◌, sym, ap, ◌∙◌, arith, get_or, length, refl, get_or-set_other, get_or-set_same, below_more}
use Rattle.std.specs.Prelude.{◌≢◌}
use Rattle.std.proofs.Math.ListN.{length-set}
use Rattle.snap_tree.specs.Snaps.{chain_of}
use Rattle.snap_tree.proofs.Linking.{twice, first_link, next_link}
use Rattle.snap_tree.proofs.links.links_of.Goals as goal

pub loop-level-init : goal.loop-level-init
loop-level-init c =
    ((λ j lt. let none : j ≡ 0 = omega (arith, lt) in rw none (sym (first_link c.args.snaps.now.entries c.args.id c.parent_or_zero.result c.parent_or_zero.ensures.chain c.parent_or_zero.ensures.above))), refl)

pub loop-level-preserved : goal.loop-level-preserved
loop-level-preserved c =
    let snaps = c.args.snaps.now.entries in
    let lower = c.loop-level.level - 1 in
    let chain = chain_of snaps c.args.id in
    let lt : c.loop-level.level < length c.loop-level.above = omega arith in
    let doubled : 2 ^ c.loop-level.level ≡ 2 ^ lower + 2 ^ lower = let e : c.loop-level.level ≡ lower + 1 = omega arith in ap (λ n. 2 ^ n) e ∙ twice lower in
    let half : get_or c.loop-level.above lower 0 ≡ get_or chain (2 ^ lower) 0 = c.loop-level.invariant.0 lower (omega arith) in (
      below_more _ _
          (λ j lt. let ne : j ≢ c.loop-level.level = omega arith in rw get_or-set_other (c.loop-level.invariant.0 j lt))
          (rw get_or-set_same (next_link snaps c.args.links.now.entries c.args.id lower (get_or c.loop-level.above lower 0) c.link_above.result c.requires.tree.rises c.requires.above c.requires.there (omega arith) half c.link_above.ensures ∙ ap (λ n. get_or chain n 0) (sym doubled))),
      rw length-set c.loop-level.invariant.1,
    )
