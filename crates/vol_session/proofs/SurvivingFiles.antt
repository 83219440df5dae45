-- What a crash may leave holds the blocks of each extent as they were read when the session began, and no node lies among them: keys with these extents mean the same
-- forest, and are as sound.
use Rattle.std.proofs.Common.{◌≡◌, ◌<◌, ◌+◌, ◌/◌, ℕ, List, [], ◌∷◌, get_or, length, map, refl, sym, subst, ◌∙◌, arith}
use Rattle.std.proofs.lemmas.List.Elements.{All-head, All-nil, All-tail, All-weaker}
use Rattle.std.specs.Option.{option_or}
use Rattle.std.specs.Prelude.{◌≢◌, All}
use Rattle.dev_model.specs.Devices.{DevicesState, now}
use Rattle.dev_model.specs.Disk.{Image, as_read, block_at}
use Rattle.image_view.specs.Found.{Found, node_places, read_in, with_digest}
use Rattle.key_meaning.specs.Blocks.{blocks_of, place_at}
use Rattle.key_meaning.specs.Checks.{AreNodesPlaced, IsSound, IsWellPlaced, count_in_bucket, places_behind, places_of, pointers_of, used_places}
use Rattle.key_meaning.specs.Forest.{forest_in}
use Rattle.key_meaning.specs.ReadLaws.{forest_in-agree}
use Rattle.key_meaning.specs.Reads.{AgreeOnEntry}
use Rattle.key_meaning.specs.Tidy.{IsKeyOf, IsTidy}
use Rattle.vol_core.specs.Left.{HasFiles, HoldsFiles, IsSoundFound, LieApartFromFiles}
use Rattle.vol_types.specs.KeyMaps.{KeyMap}
use Rattle.vol_types.specs.Limits.{bucket_blocks}
use Rattle.vol_types.specs.Ranges.{IsValue}
use Rattle.vol_types.specs.declared.layout.Layout.{Layout}
use Rattle.vol_types.specs.declared.pointers.Place.{Place}
use Rattle.vol_types.specs.declared.pointers.Pointer.{Pointer}
use Rattle.vol_types.specs.declared.positions.Btree.TheVariants.{Extents}
use Rattle.vol_types.specs.declared.positions.Pos.{Pos}
use Rattle.vol_types.specs.declared.values.Value.{Value}
use Rattle.vol_types.specs.declared.values.Value.TheVariants as values
use Rattle.vol_session.proofs.JoinedPlaces.{at_index, counted_itself, each_joined}

-- ---- places of extents

-- The place lies in a bucket that has blocks of files.
abbrev LiesInFiles : Found → Place → Type 0
LiesInFiles begun place = HasFiles begun place.dev (place.block / bucket_blocks)

-- Each place that an extent uses lies in such a bucket.
used_lie : (begun : Found) → IsSoundFound begun → All (λ (entry : Pos × Value). All (LiesInFiles begun) (places_of entry.1)) begun.trees.keys.extents
used_lie begun sound =
    each_joined (LiesInFiles begun) (λ (entry : Pos × Value). places_of entry.1) begun.trees.keys.extents
    (All-weaker (λ (place : Place). count_in_bucket (used_places begun.trees.keys) place.dev (place.block / bucket_blocks) ≢ 0) (LiesInFiles begun)
    (λ place some none. some (sym (sound.space.blocks place.dev (place.block / bucket_blocks)) ∙ none)) (used_places begun.trees.keys) (counted_itself (used_places begun.trees.keys)))

-- So does each block behind a pointer.
behind_lies : (begun : Found) (blocks : ℕ) (pointers : List Pointer) (index : ℕ) → All (λ (pointer : Pointer). All (LiesInFiles begun) (places_behind blocks pointer)) pointers → index < blocks → All (λ (pointer : Pointer). LiesInFiles begun (place_at index pointer)) pointers
behind_lies begun blocks pointers index all lt k d within = at_index (LiesInFiles begun) (λ (n : ℕ). place_at n (get_or pointers k d)) blocks index (all k d within) lt

-- ---- the same is read

module _ (one other : Image) where
  -- Both images hold the same at the place.
  abbrev HoldSame : Place → Type 0
  HoldSame place = block_at one place.dev place.block ≡ block_at other place.dev place.block

  read_same : (pointers : List Pointer) (index digest : ℕ) → All (λ (pointer : Pointer). HoldSame (place_at index pointer)) pointers → read_in one (map (place_at index) pointers) digest ≡ read_in other (map (place_at index) pointers) digest
  read_same [] index digest all = refl
  read_same (pointer ∷ pointers) index digest all =
      let here : HoldSame (place_at index pointer) = All-head (λ (p : Pointer). HoldSame (place_at index p)) pointer pointers all in
      let later = read_same pointers index digest (All-tail (λ (p : Pointer). HoldSame (place_at index p)) pointer pointers all) in
      λ i. option_or (with_digest digest (here i)) (later i)

module _ (begun : Found) (start : DevicesState) (image : Image) (sound : IsSoundFound begun) (holds : HoldsFiles begun start image) where
  agree_on_entry : (entry : Pos × Value) → All (LiesInFiles begun) (places_of entry.1) → AgreeOnEntry (read_in image) (read_in (as_read (now start))) entry
  agree_on_entry entry lie extent is =
      let behind : All (λ (pointer : Pointer). All (LiesInFiles begun) (places_behind (length extent.digests) pointer)) extent.pointers =
      each_joined (LiesInFiles begun) (places_behind (length extent.digests)) extent.pointers (subst (λ (value : Value). All (LiesInFiles begun) (places_of value)) is lie) in
      record {
        each = λ index lt.
            read_same image (as_read (now start)) extent.pointers index _
            (All-weaker (λ (pointer : Pointer). LiesInFiles begun (place_at index pointer)) (λ (pointer : Pointer). HoldSame image (as_read (now start)) (place_at index pointer))
            (λ pointer lies. holds pointer.place.dev (pointer.place.block + index) lies) extent.pointers (behind_lies begun (length extent.digests) extent.pointers index behind lt));
      }

  -- The forest of keys with these extents is what it was.
  pub same_forest : (keys : KeyMap) → keys.extents ≡ begun.trees.keys.extents → forest_in keys (read_in image) ≡ forest_in keys (read_in (as_read (now start)))
  same_forest keys same =
      forest_in-agree keys (read_in image) (read_in (as_read (now start)))
      (record {
        each = All-weaker (λ (entry : Pos × Value). All (LiesInFiles begun) (places_of entry.1)) (AgreeOnEntry (read_in image) (read_in (as_read (now start)))) agree_on_entry keys.extents
            (subst (All (λ (entry : Pos × Value). All (LiesInFiles begun) (places_of entry.1))) (sym same) (used_lie begun sound));
      })

-- ---- nodes

module _ (begun base : Found) (sound : IsSoundFound begun) (apart : LieApartFromFiles begun base) where
  -- The pointers of a value in range are well placed with the nodes that are left, as they were with those that were found.
  placed_as : (layout : Layout) (value : Value) → IsValue value → All (LiesInFiles begun) (places_of value) → All (IsWellPlaced (node_places begun) layout (blocks_of value)) (pointers_of value)
      → All (IsWellPlaced (node_places base) layout (blocks_of value)) (pointers_of value)
  placed_as layout (values.Extent extent) in_range lie placed k d within =
      let some = in_range.blocks.0 in
      let was : IsWellPlaced (node_places begun) layout (length extent.digests) (get_or extent.pointers k d) = placed k d within in
      let first : LiesInFiles begun (place_at 0 (get_or extent.pointers k d)) =
      behind_lies begun (length extent.digests) extent.pointers 0 (each_joined (LiesInFiles begun) (places_behind (length extent.digests)) extent.pointers lie) (omega (arith, some)) k d within in
      record {
        one_bucket = was.one_bucket;
        on_device = was.on_device;
        for_users = was.for_users;
        for_no_node = apart (get_or extent.pointers k d).place.dev ((get_or extent.pointers k d).place.block / bucket_blocks)
            (subst (λ (block : ℕ). HasFiles begun (get_or extent.pointers k d).place.dev (block / bucket_blocks)) (omega arith) first);
      }
  placed_as layout other in_range lie placed k d within = All-nil (IsWellPlaced (node_places base) layout (blocks_of other)) k d within

  -- Sound keys with these extents are sound with the nodes that are left.
  pub same_sound : (keys : KeyMap) (layout : Layout) → keys.extents ≡ begun.trees.keys.extents → IsTidy keys → IsSound keys (node_places begun) layout → AreNodesPlaced (node_places base) layout → IsSound keys (node_places base) layout
  same_sound keys layout same tidy was placed =
      let lie : All (λ (entry : Pos × Value). All (LiesInFiles begun) (places_of entry.1)) keys.extents = subst (All (λ (entry : Pos × Value). All (LiesInFiles begun) (places_of entry.1))) (sym same) (used_lie begun sound) in
      let drawn : All (IsKeyOf keys Extents) keys.extents = tidy.drawn.each Extents in
      record {
        trees = was.trees;
        leaves = was.leaves;
        extents = was.extents;
        names = was.names;
        links = was.links;
        directories = was.directories;
        blocks = record {
          placed = λ k d within. placed_as layout (get_or keys.extents k d).1 (drawn k d within).in_range (lie k d within) (was.blocks.placed k d within);
          blocks = was.blocks.blocks;
          nodes_placed = placed;
        };
        space = was.space;
      }
