-- The roots as an entry names them, and the oldest entry that it needs, beside what nodes pin.
use Rattle.std.proofs.Common.{◌≡◌, ◌≤◌, ℕ, List, [], ◌∷◌, length, map, min, Option, Some, None, refl, sym, arith}
use Rattle.std.proofs.lemmas.Option.{none-some, same_Some}
use Rattle.std.specs.Ordering.{nat_cmp}
use Rattle.btree_map.specs.Sizes.{all_btrees}
use Rattle.core_volume.specs.HoldLaws.{least-found}
use Rattle.node_writeback.specs.Due.{root_in, root_of}
use Rattle.pin_list.specs.Pins.{least_pin, smaller}
use Rattle.tree_nodes.specs.Levels.{Levels}
use Rattle.vol_types.specs.Maps.{value_at}

-- The roots in the order of the btrees' numbers are those of the nine btrees.
pub nine_roots : (nodes : List Levels) → length nodes ≡ 9 → map root_of nodes ≡ map (root_in nodes) all_btrees
nine_roots [] nine = absurd (omega (arith, nine))
nine_roots (a ∷ []) nine = absurd (omega (arith, nine))
nine_roots (a ∷ b ∷ []) nine = absurd (omega (arith, nine))
nine_roots (a ∷ b ∷ c ∷ []) nine = absurd (omega (arith, nine))
nine_roots (a ∷ b ∷ c ∷ d ∷ []) nine = absurd (omega (arith, nine))
nine_roots (a ∷ b ∷ c ∷ d ∷ e ∷ []) nine = absurd (omega (arith, nine))
nine_roots (a ∷ b ∷ c ∷ d ∷ e ∷ f ∷ []) nine = absurd (omega (arith, nine))
nine_roots (a ∷ b ∷ c ∷ d ∷ e ∷ f ∷ g ∷ []) nine = absurd (omega (arith, nine))
nine_roots (a ∷ b ∷ c ∷ d ∷ e ∷ f ∷ g ∷ h ∷ []) nine = absurd (omega (arith, nine))
nine_roots (a ∷ b ∷ c ∷ d ∷ e ∷ f ∷ g ∷ h ∷ i ∷ []) nine = refl
nine_roots (a ∷ b ∷ c ∷ d ∷ e ∷ f ∷ g ∷ h ∷ i ∷ j ∷ more) nine = absurd (omega (arith, nine))

-- The smaller of a number and the least pin isn't above what a node pins.
pub needed_within : (number birth pin : ℕ) (pins : List (ℕ × ℕ)) → value_at nat_cmp birth pins ≡ Some pin → smaller number (least_pin pins) ≤ pin
needed_within number birth pin pins pinned = by (least_pin pins) (least-found birth pin pins pinned)
  where
    by : (o : Option ℕ) → Some (smaller pin o) ≡ o → smaller number o ≤ pin
    by None is = absurd (none-some _ (sym is))
    by (Some least) is = let low : min pin least ≡ least = same_Some _ _ is in omega (arith, low)
