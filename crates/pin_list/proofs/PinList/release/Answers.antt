-- A release keeps what a list of pins keeps.
use Rattle.std.proofs.Common.{ℕ, List, is_some, if◌then◌else◌, ◌+◌, vec_len, ap, ◌∙◌}
use Rattle.std.specs.Ordering.{nat_cmp}
use Rattle.vol_types.specs.Maps.{value_at, without}
use Rattle.pin_list.proofs.Kept.{kept_released}
use Rattle.pin_list.proofs.PinList.release.Goals as goal

pub invariant_of-self : goal.invariant_of-self
invariant_of-self c =
    let took = c.take.ensures.value in
    kept_released c.len-spare.result c.len.result c.args.node c.self.invariant c.len-spare.ensures c.len.ensures c.released.ensures.capacity
    (c.released.ensures.pins ∙ ap (λ (d : List (ℕ × ℕ) × ℕ). without nat_cmp c.args.node d.0) took)
    (c.released.ensures.spares ∙ ap (λ (d : List (ℕ × ℕ) × ℕ). if is_some (value_at nat_cmp c.args.node d.0) then vec_len c.self.inside.spares + 1 else vec_len c.self.inside.spares) took)
