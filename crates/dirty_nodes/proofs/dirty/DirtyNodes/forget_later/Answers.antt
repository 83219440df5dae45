use Rattle.std.proofs.Common.{ℕ, List, sym, subst}
use Rattle.std.specs.Ordering.{nat_cmp}
use Rattle.dirty_nodes.proofs.Pinning.{none_rise}
use Rattle.vol_types.specs.Maps.{IsMap}
use Rattle.dirty_nodes.proofs.dirty.DirtyNodes.forget_later.Goals as goal

pub invariant_of-self : goal.invariant_of-self
invariant_of-self c = record {
  pinned = c.self.invariant.pinned;
  marked = c.self.invariant.marked;
  changed = subst (λ (numbers : List (ℕ × ℕ)). IsMap nat_cmp numbers) (sym c.clear.ensures.numbers) none_rise;
}
