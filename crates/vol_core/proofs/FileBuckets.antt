-- Where what was found is sound, a bucket that has blocks of files lies behind the superblocks and the journal area, on its device, and no node lies in it.
use Rattle.std.proofs.Common.{◌≡◌, ◌≤◌, ◌<◌, ◌+◌, ◌*◌, ◌/◌, ◌%◌, ℕ, true, slice_index, sym, subst, ◌∙◌, arith}
use Rattle.std.proofs.lemmas.Bool.{and_parts, eqb-true}
use Rattle.std.proofs.lemmas.List.Elements.{All-map, All-weaker}
use Rattle.std.proofs.lemmas.List.FromFn.{get_or-range_with_len, length-range_with_len}
use Rattle.std.specs.List.{range_with_len}
use Rattle.std.specs.Prelude.{◌==◌, All}
use Rattle.image_view.specs.Found.{Found, node_places}
use Rattle.key_meaning.specs.Blocks.{blocks_of, place_at}
use Rattle.key_meaning.specs.Checks.{HasWellPlaced, IsWellPlaced, count_in_bucket, is_in_bucket, kept_buckets, places_behind, places_of, pointers_of, used_places}
use Rattle.vol_types.specs.Limits.{bucket_blocks}
use Rattle.vol_types.specs.declared.pointers.Place.{Place}
use Rattle.vol_types.specs.declared.pointers.Pointer.{Pointer}
use Rattle.vol_types.specs.declared.positions.Pos.{Pos}
use Rattle.vol_types.specs.declared.values.Value.{Value}
use Rattle.vol_core.specs.Left.{HasFiles, IsSoundFound}
use Rattle.vol_core.proofs.JoinedLists.{counted_there, joined_of_each}

-- The bucket lies behind those for the superblock and the journal, it begins on its device, and no node lies in it.
pub record IsFileBucket (f : Found) (dev bucket : ℕ) : Type 0 where
  pub behind : kept_buckets f.layout dev ≤ bucket
  pub begins : bucket * bucket_blocks < slice_index f.layout.blocks dev
  pub no_node : count_in_bucket (node_places f) dev bucket ≡ 0

module _ (f : Found) (dev bucket : ℕ) where
  -- A place that lies in the bucket shows that it is one of files.
  abbrev ShowsFiles : Place → Type 0
  ShowsFiles place = is_in_bucket dev bucket place ≡ true → IsFileBucket f dev bucket

  -- So does each block behind a pointer that is well placed.
  block_shows : (blocks index : ℕ) (pointer : Pointer) → IsWellPlaced (node_places f) f.layout blocks pointer → index < blocks → ShowsFiles (place_at index pointer)
  block_shows blocks index pointer well within lies =
      let place : Place = place_at index pointer in
      let parts = and_parts (place.dev == dev) (place.block / bucket_blocks == bucket) lies in
      let device : pointer.place.dev ≡ dev = eqb-true place.dev dev parts.0 in
      let found : (pointer.place.block + index) / 16 ≡ bucket = eqb-true (place.block / bucket_blocks) bucket parts.1 in
      let one : pointer.place.block % 16 + blocks ≤ 16 = well.one_bucket in
      let end : pointer.place.block + blocks ≤ slice_index f.layout.blocks pointer.place.dev = well.on_device in
      let here : pointer.place.block / 16 ≡ bucket = omega (arith, one, within, found) in
      subst (λ (d : ℕ). IsFileBucket f d bucket) device (subst (IsFileBucket f pointer.place.dev) here (record {
        behind = well.for_users;
        begins = omega (arith, end, within);
        no_node = well.for_no_node;
      }))

  pointer_shows : (blocks : ℕ) (pointer : Pointer) → IsWellPlaced (node_places f) f.layout blocks pointer → All ShowsFiles (places_behind blocks pointer)
  pointer_shows blocks pointer well = All-map ShowsFiles (λ (index : ℕ). place_at index pointer) (range_with_len 0 blocks) each
    where
      each : All (λ (index : ℕ). ShowsFiles (place_at index pointer)) (range_with_len 0 blocks)
      each k d lower =
          let within : k < blocks = subst (λ (n : ℕ). k < n) (length-range_with_len 0 blocks) lower in
          let same : k ≡ 0 + k = omega arith in
          subst (λ (index : ℕ). ShowsFiles (place_at index pointer)) (same ∙ sym (get_or-range_with_len 0 blocks k d within)) (block_shows blocks k pointer well within)

  value_shows : (value : Value) → All (IsWellPlaced (node_places f) f.layout (blocks_of value)) (pointers_of value) → All ShowsFiles (places_of value)
  value_shows value well = joined_of_each ShowsFiles (places_behind (blocks_of value)) (pointers_of value)
      (All-weaker (IsWellPlaced (node_places f) f.layout (blocks_of value)) (λ (pointer : Pointer). All ShowsFiles (places_behind (blocks_of value) pointer)) (pointer_shows (blocks_of value)) (pointers_of value) well)

  -- A bucket that has blocks of files is one of files.
  pub file_bucket : IsSoundFound f → HasFiles f dev bucket → IsFileBucket f dev bucket
  file_bucket sound has =
      counted_there (is_in_bucket dev bucket) (IsFileBucket f dev bucket) (used_places f.trees.keys)
      (joined_of_each ShowsFiles (λ (entry : Pos × Value). places_of entry.1) f.trees.keys.extents
      (All-weaker (HasWellPlaced (node_places f) f.layout) (λ (entry : Pos × Value). All ShowsFiles (places_of entry.1)) (λ entry well. value_shows entry.1 well) f.trees.keys.extents sound.blocks.placed))
      (λ none. has (sound.space.blocks dev bucket ∙ none))
