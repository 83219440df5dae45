-- A birth is pinned once it is.
use Rattle.std.proofs.Common.{◌≡◌, ℕ, Bool, cond, Some, List, ap, ◌∙◌}
use Rattle.std.specs.Prelude.{IsSome, is_some}
use Rattle.std.specs.Ordering.{nat_cmp}
use Rattle.std.proofs.lemmas.Cmp.{nat_cmp_total}
use Rattle.birth_index.specs.NameLaws.{birth_itself}
use Rattle.pin_list.specs.Pins.{smaller, with_pin}
use Rattle.vol_types.specs.MapLaws.{value_at-with_value}
use Rattle.vol_types.specs.Maps.{value_at}

pub pinned : (birth seq : ℕ) (pins : List (ℕ × ℕ)) → IsSome (value_at nat_cmp birth (with_pin birth seq pins))
pinned birth seq pins =
    let least = smaller seq (value_at nat_cmp birth pins) in
    ap is_some (value_at-with_value nat_cmp_total birth least birth pins
    ∙ ap (λ (is_it : Bool). cond is_it (Some least) (value_at nat_cmp birth pins)) (birth_itself birth))
