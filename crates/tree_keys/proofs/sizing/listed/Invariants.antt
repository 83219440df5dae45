use Rattle.std.proofs.Common.{◌≡◌, ◌-◌, ◌^◌, ◌++◌, ℕ, map}
use Rattle.std.specs.Prelude.{min}
use Rattle.vol_types.specs.declared.positions.Pos.{Pos}
use Rattle.tree_keys.proofs.sizing.listed.Given as goal

abbrev pub invariant-loop-end : goal.invariant-loop-end
invariant-loop-end l =
    ◌≡◌ (l.list ++ map (λ (entry : Pos × ℕ). record { end = entry.0; size = min entry.1 (2 ^ 32 - 1) }) l.end-iterator) (map (λ (entry : Pos × ℕ). record { end = entry.0; size = min entry.1 (2 ^ 32 - 1) }) l.sizes.entries)
