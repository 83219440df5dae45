-- What the keys of a btree in memory mean: a finite map from positions to values, cut into leaves, each of which covers a
-- range of positions.
use Rattle.std.specs.Prelude.{Bool, Option, Some, None, List, [], ◌∷◌, All, IsTrue, unwrap_or, if◌then◌else◌}
use Rattle.std.specs.BTreeMap.{is_at}
use Rattle.std.specs.BTreeSet.{insert_key}
use Rattle.std.specs.List.{list_any}
use Rattle.std.specs.List.Sorted.{IsStrictlySortedBy}
use Rattle.std.specs.Map.{keys_of, values_of}
use Rattle.std.specs.Option.{option_and_then, option_or}
use Rattle.std.specs.Ordering.{is_le, is_lt}
use Rattle.std.specs.Set.{remove_key}
use Rattle.vol_types.specs.KeyMaps.{Entries, entries_within}
use Rattle.vol_types.specs.Maps.{IsMap}
use Rattle.vol_types.specs.Positions.{pos_cmp, next_pos, least_pos, greatest_pos}
use Rattle.vol_types.specs.Ranges.{IsValue}
use Rattle.vol_types.specs.Widths.{PosFits}
use Rattle.vol_types.specs.declared.positions.Pos.{Pos}

-- the values of a btree, each at its position, and the end of each leaf, which is the greatest position that it covers
pub record Cut : Type 0 where
  pub entries : Entries
  pub ends : List Pos

-- whether a leaf ends at a position
abbrev pub is_end : Pos → List Pos → Bool
is_end pos ends = list_any (is_at (pos_cmp pos)) ends

-- The ends of leaves rise to the greatest position, so that each position is covered by one leaf.
pub record AreEnds (ends : List Pos) : Type 0 where
  pub rise : IsStrictlySortedBy pos_cmp ends
  pub fit : All PosFits ends
  pub whole : IsTrue (is_end greatest_pos ends)

-- The values are a finite map and in range, and the ends are those of leaves.
pub record IsCut (cut : Cut) : Type 0 where
  pub rises : IsMap pos_cmp cut.entries
  pub fit : All PosFits (keys_of cut.entries)
  pub in_range : All IsValue (values_of cut.entries)
  pub ends : AreEnds cut.ends

-- the end of the leaf that covers a position: the first end that isn't before it
abbrev pub end_of : Pos → List Pos → Pos
end_of pos [] = greatest_pos
end_of pos (end ∷ ends) = if is_le (pos_cmp pos end) then end else end_of pos ends

-- the last end before a position, if there is one
abbrev pub end_before : Pos → List Pos → Option Pos
end_before pos [] = None
end_before pos (end ∷ ends) = if is_lt (pos_cmp end pos) then option_or (end_before pos ends) (Some end) else end_before pos ends

-- the first position that a leaf covers: the one that follows the end before it, or the least position
abbrev pub start_of : Pos → List Pos → Pos
start_of end ends = unwrap_or (option_and_then next_pos (end_before end ends)) least_pos

-- the entries of a leaf, which are those in the range that it covers
abbrev pub leaf_entries : Pos → Cut → Entries
leaf_entries end cut = entries_within (start_of end cut.ends) end cut.entries

-- the same leaves over other entries
abbrev pub with_entries : Cut → Entries → Cut
with_entries cut entries = record { entries = entries; ends = cut.ends }

-- the same entries, with the leaf that covers a position cut there
abbrev pub cut_at : Pos → Cut → Cut
cut_at pos cut = record { entries = cut.entries; ends = insert_key pos_cmp cut.ends pos }

-- the same entries, with the leaf that ends at a position joined with the next one
abbrev pub joined_at : Pos → Cut → Cut
joined_at pos cut = record { entries = cut.entries; ends = remove_key (is_at (pos_cmp pos)) cut.ends }
