-- A pin keeps what a list of pins keeps.
use Rattle.std.proofs.Common.{ℕ, List, ◌<◌, ◌⊎◌, IsSome, is_some, if◌then◌else◌, ◌-◌, vec_len, subst, sym, ap, ◌∙◌}
use Rattle.std.specs.Ordering.{nat_cmp}
use Rattle.vol_types.specs.Maps.{value_at}
use Rattle.pin_list.specs.Pins.{with_pin}
use Rattle.pin_list.proofs.Kept.{kept_pinned}
use Rattle.pin_list.proofs.PinList.pin.Goals as goal

pub invariant_of-self : goal.invariant_of-self
invariant_of-self c =
    let took = c.take.ensures.value in
    kept_pinned c.len-spare.result c.len.result c.args.node c.self.invariant c.len-spare.ensures c.len.ensures c.pinned.ensures.capacity c.args.seq
    (subst (λ p. IsSome (value_at nat_cmp c.args.node p.numbers) ⊎ (0 < p.spare)) (sym c.self.view_is) c.requires)
    (c.pinned.ensures.pins ∙ ap (λ (d : List (ℕ × ℕ) × ℕ). with_pin c.args.node c.args.seq d.0) took)
    (c.pinned.ensures.spares ∙ ap (λ (d : List (ℕ × ℕ) × ℕ). if is_some (value_at nat_cmp c.args.node d.0) then vec_len c.self.inside.spares else vec_len c.self.inside.spares - 1) took)
