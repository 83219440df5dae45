-- How many devices and buckets a layout has.
use Rattle.std.proofs.Common.{◌≡◌, ℕ, ◌/◌, ◌≤◌, List, length, map, take, drop, true, sym, ap, ◌∙◌, subst, arith}
use Rattle.std.specs.List.{All, range_with_len}
use Rattle.std.proofs.lemmas.List.{length-append, length-drop, length-map, length-take}
use Rattle.std.proofs.lemmas.List.Elements.{All-drop, All-take}
use Rattle.std.proofs.lemmas.List.FromFn.{length-map-range_with_len}
use Rattle.vol_types.specs.declared.layout.Layout.{Layout}
use Rattle.vol_types.specs.Layouts.{is_layout}
use Rattle.vol_types.specs.LayoutLaws.{layout_found}
use Rattle.bucket_pool.specs.declared.bucket.Bucket.{Bucket}
use Rattle.bucket_pool.specs.Opening.{blank, blank_bucket, blank_device, first_bucket}

module _ (layout : Layout) (is : is_layout layout ≡ true) where
  sizes_fit : All (λ size. size ≤ 1048576) layout.blocks
  sizes_fit k d lt = ((layout_found layout is).sizes k d lt).blocks_range.1

  -- the first devices and the others are no longer than a device may be
  pub first_fit : (count : ℕ) (blocks : List ℕ) → blocks ≡ take count layout.blocks → All (λ size. size ≤ 1048576) blocks
  first_fit count blocks same = subst (λ (list : List ℕ). All (λ size. size ≤ 1048576) list) (sym same) (All-take (λ size. size ≤ 1048576) count layout.blocks sizes_fit)

  pub others_fit : (count : ℕ) (blocks : List ℕ) → blocks ≡ drop count layout.blocks → All (λ size. size ≤ 1048576) blocks
  others_fit count blocks same = subst (λ (list : List ℕ). All (λ size. size ≤ 1048576) list) (sym same) (All-drop (λ size. size ≤ 1048576) count layout.blocks sizes_fit)

  -- copies of metadata lie on as many devices
  pub enough : layout.metadata_replicas ≤ length layout.blocks
  enough = omega (arith, (layout_found layout is).metadata.1)

  -- there are at most eight devices
  pub few_devices : (devices : List (List Bucket)) → devices ≡ blank layout → length devices ≤ 8
  few_devices devices made =
      let m = layout.metadata_replicas in
      let most = (layout_found layout is).devices.1 in
      let first = map (blank_device (first_bucket layout.journal)) (take m layout.blocks) in
      let others = map (blank_device 1) (drop m layout.blocks) in
      omega (arith, most, enough, ap length made, length-append first others, length-map (take m layout.blocks) (blank_device (first_bucket layout.journal)), length-map (drop m layout.blocks) (blank_device 1), length-take m layout.blocks, length-drop m layout.blocks)

pub few_buckets : (first count size : ℕ) (buckets : List Bucket) → buckets ≡ map (blank_bucket first) (range_with_len 0 count) → count ≡ size / 16 → size ≤ 1048576 → length buckets ≤ 65536
few_buckets first count size buckets made parts most =
    let many = ap length made ∙ length-map-range_with_len (blank_bucket first) 0 count in
    omega (arith, many, parts, most)
