-- What sound and tidy key maps have.
use Rattle.std.proofs.Common.{ℕ, ◌<◌, ◌≤◌, List, length, get_or, inl, inr, arith}
use Rattle.std.specs.Prelude.{◌⊎◌, All, slice_index}
use Rattle.std.proofs.lemmas.List.{get_or_past}
use Rattle.vol_types.specs.KeyMaps.{KeyMap}
use Rattle.vol_types.specs.Layouts.{IsLayout}
use Rattle.vol_types.specs.Ranges.{IsValue}
use Rattle.vol_types.specs.Widths.{PosFits}
use Rattle.vol_types.specs.declared.layout.Layout.{Layout}
use Rattle.vol_types.specs.declared.pointers.Place.{Place}
use Rattle.vol_types.specs.declared.positions.Btree.TheVariants.{Extents}
use Rattle.vol_types.specs.declared.positions.Pos.{Pos}
use Rattle.vol_types.specs.declared.values.Value.{Value}
use Rattle.vol_types.specs.declared.values.Value.TheVariants as values
use Rattle.key_meaning.specs.Blocks.{blocks_of}
use Rattle.key_meaning.specs.Checks.{HasWellPlaced, pointers_of}
use Rattle.key_meaning.specs.Tidy.{IsKeyOf}
use Rattle.extent_ops.specs.Content.{HavePlaces, IsInRange}
use Rattle.file_plan.proofs.Fresh.{lt_or_le}

-- Values in range cover few blocks.
pub few_blocks : (value : Value) → IsValue value → blocks_of value ≤ 4096
few_blocks (values.Extent e) is = omega (arith, is.blocks.1)
few_blocks (values.Hole blocks) is = is.1
few_blocks (values.Inode x) is = omega arith
few_blocks (values.Names x) is = omega arith
few_blocks values.White is = omega arith
few_blocks (values.Subs x) is = omega arith
few_blocks (values.Snap x) is = omega arith
few_blocks (values.Live x) is = omega arith
few_blocks (values.Back x) is = omega arith
few_blocks values.Gone is = omega arith
few_blocks (values.Counter x) is = omega arith
few_blocks (values.Node x) is = omega arith

-- No device has more blocks than it may.
pub few_on_device : (layout : Layout) (dev : ℕ) → IsLayout layout → slice_index layout.blocks dev ≤ 1048576
few_on_device layout dev is = by (lt_or_le dev (length layout.blocks))
  where
    by : (dev < length layout.blocks) ⊎ (length layout.blocks ≤ dev) → slice_index layout.blocks dev ≤ 1048576
    by (inl lt) = (is.sizes dev 0 lt).blocks_range.1
    by (inr le) = let none = get_or_past layout.blocks dev 0 le in omega (arith, none)

-- Well placed values in range have the numbers of their places.
pub have_places : (nodes : List Place) (layout : Layout) (entry : Pos × Value) → IsLayout layout → IsValue entry.1 → HasWellPlaced nodes layout entry → HavePlaces entry.1
have_places nodes layout entry is value placed = record {
  blocks = let few = few_blocks entry.1 value in omega (arith, few);
  places = λ k d lt. let on = (placed k d lt).on_device in let few = few_on_device layout (get_or (pointers_of entry.1) k d).place.dev is in omega (arith, on, few);
}

-- The entries are in range.
pub in_range : (keys : KeyMap) (entries : List (Pos × Value)) → All (IsKeyOf keys Extents) entries → All (λ (entry : Pos × Value). PosFits entry.0) entries → All (λ (entry : Pos × Value). IsInRange entry) entries
in_range keys entries are fit = λ k d lt. record { fits = fit k d lt; few = few_blocks (get_or entries k d).1 (are k d lt).in_range }
