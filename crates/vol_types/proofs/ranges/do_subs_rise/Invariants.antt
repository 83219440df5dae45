use Rattle.std.proofs.Common.{map, drop, ◌↔◌}
use Rattle.std.specs.Prelude.{option_copied, option_map}
use Rattle.vol_types.specs.Ranges.{Rise, RiseFrom, name_cmp}
use Rattle.vol_types.proofs.ranges.do_subs_rise.Given as goal

abbrev pub invariant-loop-sub : goal.invariant-loop-sub
invariant-loop-sub l = Rise name_cmp (map (λ x. x.name) l.subs) ↔ RiseFrom name_cmp (option_map (λ x. x.name) (option_copied l.before)) (map (λ x. x.name) (drop l.sub-index l.subs))
