-- How many buckets are used, bucket by bucket.
use Rattle.std.proofs.Common.{◌≡◌, ◌+◌, ◌<◌, ℕ, Bool, true, false, List, [], length, take, map, ◌/◌, get_or, ap, ◌∙◌, sym, arith}
use Rattle.std.specs.Prelude.{count_by, option_and_then, slice_get}
use Rattle.std.specs.Option.{option_map_or}
use Rattle.std.proofs.lemmas.List.Sums.{count_by_more_no, count_by_more_yes}
use Rattle.std.proofs.lemmas.Option.{slice_get-get_or}
use Rattle.std.proofs.lemmas.List.{get_or-map, length-map}
use Rattle.bucket_pool.specs.Space.{Space, free_count}
use Rattle.bucket_pool.specs.declared.bucket.Bucket.{Bucket}
use Rattle.bucket_pool.specs.declared.bucket.State.TheVariants.{Free}
use Rattle.vol_types.specs.Limits.{bucket_blocks}
use Rattle.vol_info.specs.Facts.{facts_of_buckets, is_used}
use Rattle.vol_info.specs.declared.facts.DeviceFacts.{DeviceFacts}

any_bucket : Bucket
any_bucket = record { generation = 0; state = Free }

module _ (space : Space) (dev at : ℕ) (here : dev < length space) (there : at < length (get_or space dev [])) where
  -- whether the bucket there is used
  test_is : option_map_or is_used (option_and_then (λ (buckets : List Bucket). slice_get buckets at) (slice_get space dev)) false ≡ is_used (get_or (get_or space dev []) at any_bucket)
  test_is =
      ap (λ found. option_map_or is_used (option_and_then (λ (buckets : List Bucket). slice_get buckets at) found) false) (slice_get-get_or space dev [] here)
      ∙ ap (λ found. option_map_or is_used found false) (slice_get-get_or (get_or space dev []) at any_bucket there)

  pub one_more : (test : Bool) → test ≡ option_map_or is_used (option_and_then (λ (buckets : List Bucket). slice_get buckets at) (slice_get space dev)) false → test ≡ true
      → count_by is_used (take (at + 1) (get_or space dev [])) ≡ count_by is_used (take at (get_or space dev [])) + 1
  one_more test is used = count_by_more_yes is_used (get_or space dev []) at any_bucket there (sym test_is ∙ sym is ∙ used)

  pub no_more : (test : Bool) → test ≡ option_map_or is_used (option_and_then (λ (buckets : List Bucket). slice_get buckets at) (slice_get space dev)) false → test ≡ false
      → count_by is_used (take (at + 1) (get_or space dev [])) ≡ count_by is_used (take at (get_or space dev []))
  no_more test is unused = count_by_more_no is_used (get_or space dev []) at any_bucket there (sym test_is ∙ sym is ∙ unused)

-- each device has the buckets of its blocks
pub buckets_are : (blocks : List ℕ) (space : Space) → map length space ≡ map (λ n. n / bucket_blocks) blocks → (dev : ℕ) → dev < length blocks → length (get_or space dev []) ≡ get_or blocks dev 0 / 16
buckets_are blocks space sizes dev there =
    sym (get_or-map length space dev [] 0 here) ∙ ap (λ list. get_or list dev 0) sizes ∙ get_or-map (λ n. n / bucket_blocks) blocks dev 0 0 there
  where
    here : dev < length space
    here = let many = ap length sizes in omega (arith, there, many, length-map space length, length-map blocks (λ n. n / bucket_blocks))

abbrev device_of : ℕ → ℕ → ℕ → ℕ → DeviceFacts
device_of d b f u = record { dev = d; buckets = b; free = f; used = u }

-- the facts of a device, one by one
pub facts_made : (dev : ℕ) (buckets : List Bucket) (d b f u : ℕ) → d ≡ dev → b ≡ length buckets → f ≡ free_count buckets → u ≡ count_by is_used buckets → device_of d b f u ≡ facts_of_buckets dev buckets
facts_made dev buckets d b f u p q r s = λ i. device_of (p i) (q i) (r i) (s i)
