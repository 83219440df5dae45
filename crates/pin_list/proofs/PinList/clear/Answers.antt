-- There are none, and the room is what was spare.
use Rattle.std.proofs.Common.{ℕ, List, length, sym, ap, subst, arith}
use Rattle.std.specs.Ordering.{nat_cmp}
use Rattle.vol_types.specs.Maps.{IsMap}
use Rattle.pin_list.proofs.Around.{none_rise}
use Rattle.pin_list.proofs.PinList.clear.Goals as goal

pub invariant_of-self : goal.invariant_of-self
invariant_of-self c = record {
  rises = subst (λ (d : List (ℕ × ℕ) × ℕ). IsMap nat_cmp d.0) (sym c.new.ensures) none_rise;
  counts = sym (ap (λ (d : List (ℕ × ℕ) × ℕ). length d.0) c.new.ensures);
  fits = let fits = c.self.invariant.fits in omega (arith, fits);
}
