use Rattle.std.proofs.Common.{map, drop, ◌↔◌}
use Rattle.std.specs.Prelude.{option_copied, option_map}
use Rattle.std.specs.Ordering.{nat_cmp}
use Rattle.vol_types.specs.Ranges.{Rise, RiseFrom}
use Rattle.vol_types.proofs.ranges.do_devices_rise.Given as goal

abbrev pub invariant-loop-pointer : goal.invariant-loop-pointer
invariant-loop-pointer l = Rise nat_cmp (map (λ x. x.place.dev) l.pointers) ↔ RiseFrom nat_cmp (option_map (λ x. x.place.dev) (option_copied l.before)) (map (λ x. x.place.dev) (drop l.pointer-index l.pointers))
