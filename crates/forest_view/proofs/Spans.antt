-- No key of a btree lies outside all positions.
use Rattle.std.proofs.Common.{◌≡◌, true, [], ◌∷◌, refl, ap, ◌∙◌}
use Rattle.std.specs.Prelude.{◌&&◌, All}
use Rattle.std.specs.List.{filter}
use Rattle.std.specs.Map.{keys_of}
use Rattle.std.specs.Ordering.{is_le}
use Rattle.btree_map.specs.Trees.{IsTrees, Trees, entries_in}
use Rattle.node_mem.specs.RangeLaws.{same_part}
use Rattle.tree_keys.specs.OrderLaws.{least_le, le_greatest}
use Rattle.vol_types.specs.KeyMaps.{Entries, entries_within}
use Rattle.vol_types.specs.Positions.{greatest_pos, is_within, least_pos, pos_cmp}
use Rattle.vol_types.specs.Widths.{PosFits}
use Rattle.vol_types.specs.declared.positions.Btree.{Btree}

all_pass : (entries : Entries) → filter (λ e. true) entries ≡ entries
all_pass [] = refl
all_pass (e ∷ es) = ap (λ (xs : Entries). e ∷ xs) (all_pass es)

whole_range : (entries : Entries) → All PosFits (keys_of entries) → entries_within least_pos greatest_pos entries ≡ entries
whole_range entries fit =
    same_part (is_within least_pos greatest_pos) (λ p. true) (λ p fits. ap (λ b. b && is_le (pos_cmp p greatest_pos)) (least_le p fits) ∙ le_greatest p fits) entries fit ∙ all_pass entries

-- The keys from the least position to the greatest are all keys.
pub all_within : (trees : Trees) (btree : Btree) → IsTrees trees → entries_within least_pos greatest_pos (entries_in trees btree) ≡ entries_in trees btree
all_within trees btree sound = whole_range (entries_in trees btree) (sound.each btree).keys.fit
