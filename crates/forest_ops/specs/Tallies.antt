-- How often numbers were counted.
use Rattle.std.specs.Prelude.{ℕ, List, unwrap_or}
use Rattle.std.specs.Ordering.{nat_cmp}
use Rattle.plain_forest.specs.Maps.{value_at}

-- how often a number was counted
abbrev pub counted : ℕ → List (ℕ × ℕ) → ℕ
counted number tally = unwrap_or (value_at nat_cmp number tally) 0
