-- There are none, and there is room for none.
use Rattle.std.proofs.Common.{ℕ, List, sym, subst, rules}
use Rattle.vol_types.specs.Maps.{IsMap}
use Rattle.std.specs.Ordering.{nat_cmp}
use Rattle.pin_list.proofs.Around.{none_rise}
use Rattle.pin_list.proofs.PinList.new.Goals as goal

pub invariant_of-result : goal.invariant_of-result
invariant_of-result c = record { rises = subst (λ (d : List (ℕ × ℕ) × ℕ). IsMap nat_cmp d.0) (sym c.new.ensures) none_rise; counts = search rules; fits = search rules }
