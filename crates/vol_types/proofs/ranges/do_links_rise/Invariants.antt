use Rattle.std.proofs.Common.{map, drop, ◌↔◌}
use Rattle.std.specs.Prelude.{option_copied, option_map}
use Rattle.vol_types.specs.Ranges.{Rise, RiseFrom, name_cmp}
use Rattle.vol_types.proofs.ranges.do_links_rise.Given as goal

abbrev pub invariant-loop-link : goal.invariant-loop-link
invariant-loop-link l = Rise name_cmp (map (λ x. x.name) l.links) ↔ RiseFrom name_cmp (option_map (λ x. x.name) (option_copied l.before)) (map (λ x. x.name) (drop l.link-index l.links))
