-- A part of an extent or a hole covers the blocks of its stretch, and shows of each what the whole shows.
use Rattle.std.proofs.Common.{◌≡◌, ℕ, ◌+◌, ◌-◌, ◌<◌, ◌≤◌, true, Option, Some, List, [], ◌∷◌, length, take, drop, map, min, refl, ap, ◌∙◌, arith}
use Rattle.std.specs.Prelude.{◌&&◌, nat_le, nat_lt, All}
use Rattle.std.proofs.lemmas.Bool.{and_parts, le-leb, leb-true, lt-ltb, ltb-true}
use Rattle.std.proofs.lemmas.List.{get_or-take, get_or-drop, length-take, length-drop}
use Rattle.std.proofs.lemmas.List.Elements.{All-head, All-tail}
use Rattle.vol_types.specs.declared.pointers.Pointer.{Pointer}
use Rattle.vol_types.specs.declared.positions.Pos.{Pos}
use Rattle.vol_types.specs.declared.values.Extent.{Extent}
use Rattle.vol_types.specs.declared.values.Value.{Value}
use Rattle.vol_types.specs.declared.values.Value.TheVariants as values
use Rattle.key_meaning.specs.Blocks.{Block, block_of, blocks_of, covers, place_at, shown_of}
use Rattle.extent_ops.specs.Content.{HavePlaces}
use Rattle.extent_ops.specs.Cutting.{part_of, pointer_behind}

-- A value covers the blocks of its range.
pub covers-range : (end : ℕ) (value : Value) (block : ℕ) → covers end value block ≡ true → (end - blocks_of value ≤ block) × (block < end) × (0 < blocks_of value)
covers-range end value block is = let parts = and_parts (nat_lt block end) (nat_le end (block + blocks_of value)) is in
    let lt = ltb-true block end parts.0 in let le = leb-true end (block + blocks_of value) parts.1 in
    (omega (arith, lt, le), lt, omega (arith, lt, le))

pub range-covers : (end : ℕ) (value : Value) (block : ℕ) → end - blocks_of value ≤ block → block < end → covers end value block ≡ true
range-covers end value block le lt = λ i. lt-ltb block end lt i && le-leb end (block + blocks_of value) (omega (arith, le, lt)) i

-- What shows depends on the end alone.
pub shown_at_end : (block : ℕ) (pos : Pos) (value : Value) → shown_of block (pos, value) ≡ shown_of block (record { inode = 0; offset = pos.offset; snapshot = 0 }, value)
shown_at_end block pos (values.Inode x) = refl
shown_at_end block pos (values.Names x) = refl
shown_at_end block pos (values.Extent x) = refl
shown_at_end block pos (values.Hole x) = refl
shown_at_end block pos values.White = refl
shown_at_end block pos (values.Subs x) = refl
shown_at_end block pos (values.Snap x) = refl
shown_at_end block pos (values.Live x) = refl
shown_at_end block pos (values.Back x) = refl
shown_at_end block pos values.Gone = refl
shown_at_end block pos (values.Counter x) = refl
shown_at_end block pos (values.Node x) = refl

-- what a value with this end shows of a block
abbrev pub shown_by : ℕ → ℕ → Value → Option Block
shown_by block end value = shown_of block (record { inode = 0; offset = end; snapshot = 0 }, value)

-- So many blocks from one on, of those that there are.
pub blocks_of-part_of : (skip count : ℕ) (value : Value) → skip + count ≤ blocks_of value → blocks_of (part_of skip count value) ≡ count
blocks_of-part_of skip count (values.Extent e) le = length-take count (drop skip e.digests) ∙ (let long = length-drop skip e.digests in omega (arith, long, le))
blocks_of-part_of skip count (values.Hole blocks) le = omega (arith, le)
blocks_of-part_of skip count (values.Inode x) le = omega (arith, le)
blocks_of-part_of skip count (values.Names x) le = omega (arith, le)
blocks_of-part_of skip count values.White le = omega (arith, le)
blocks_of-part_of skip count (values.Subs x) le = omega (arith, le)
blocks_of-part_of skip count (values.Snap x) le = omega (arith, le)
blocks_of-part_of skip count (values.Live x) le = omega (arith, le)
blocks_of-part_of skip count (values.Back x) le = omega (arith, le)
blocks_of-part_of skip count values.Gone le = omega (arith, le)
blocks_of-part_of skip count (values.Counter x) le = omega (arith, le)
blocks_of-part_of skip count (values.Node x) le = omega (arith, le)

-- places further on, counted from pointers that are
places-behind : (skip index all : ℕ) (pointers : List Pointer) → skip + index < all → All (λ (p : Pointer). p.place.block + all ≤ 4294967295) pointers → map (place_at index) (map (pointer_behind skip) pointers) ≡ map (place_at (skip + index)) pointers
places-behind skip index all [] lt fit = refl
places-behind skip index all (p ∷ ps) lt fit =
    let here = All-head (λ (p : Pointer). p.place.block + all ≤ 4294967295) p ps fit in
    let same : min (p.place.block + skip) 4294967295 + index ≡ p.place.block + (skip + index) = omega (arith, here, lt) in
    λ i. record { dev = p.place.dev; block = same i } ∷ places-behind skip index all ps lt (All-tail (λ (p : Pointer). p.place.block + all ≤ 4294967295) p ps fit) i

-- A part shows of a block what the whole shows.
block_of-part : (skip count index : ℕ) (e : Extent) → index < count → skip + count ≤ length e.digests → All (λ (p : Pointer). p.place.block + length e.digests ≤ 4294967295) e.pointers
    → block_of (record { pointers = map (pointer_behind skip) e.pointers; digests = take count (drop skip e.digests) }) index ≡ block_of e (skip + index)
block_of-part skip count index e lt le fit = λ i. record {
  places = places-behind skip index (length e.digests) e.pointers (omega (arith, lt, le)) fit i;
  digest = (get_or-take count (drop skip e.digests) index 0 lt ∙ get_or-drop skip e.digests index 0) i;
}

pub shown_by-part_of : (block first end low high : ℕ) (value : Value) → HavePlaces value → first ≡ end - blocks_of value → first ≤ low → low ≤ block → block < high → high ≤ end
    → shown_by block high (part_of (low - first) (high - low) value) ≡ shown_by block end value
shown_by-part_of block first end low high (values.Extent e) fit is a b c d =
    let long : length (take (high - low) (drop (low - first) e.digests)) ≡ high - low = blocks_of-part_of (low - first) (high - low) (values.Extent e) (omega (arith, is, a, b, c, d)) in
    let index : block - (high - length (take (high - low) (drop (low - first) e.digests))) ≡ block - low = omega (arith, long, b, c) in
    let whole : (low - first) + (block - low) ≡ block - (end - length e.digests) = omega (arith, is, a, b) in
    ap Some (ap (block_of (record { pointers = map (pointer_behind (low - first)) e.pointers; digests = take (high - low) (drop (low - first) e.digests) })) index
    ∙ block_of-part (low - first) (high - low) (block - low) e (omega (arith, b, c)) (omega (arith, is, a, b, c, d)) fit.places ∙ ap (block_of e) whole)
shown_by-part_of block first end low high (values.Hole blocks) fit is a b c d = refl
shown_by-part_of block first end low high (values.Inode x) fit is a b c d = refl
shown_by-part_of block first end low high (values.Names x) fit is a b c d = refl
shown_by-part_of block first end low high values.White fit is a b c d = refl
shown_by-part_of block first end low high (values.Subs x) fit is a b c d = refl
shown_by-part_of block first end low high (values.Snap x) fit is a b c d = refl
shown_by-part_of block first end low high (values.Live x) fit is a b c d = refl
shown_by-part_of block first end low high (values.Back x) fit is a b c d = refl
shown_by-part_of block first end low high values.Gone fit is a b c d = refl
shown_by-part_of block first end low high (values.Counter x) fit is a b c d = refl
shown_by-part_of block first end low high (values.Node x) fit is a b c d = refl
