-- What is reserved on a device, as the code does it step by step.
use Rattle.std.proofs.Common.{◌≡◌, ℕ, ◌+◌, ◌*◌, ◌<◌, ◌||◌, if◌then◌else◌, None, Some, option_map, List, length, get_or, set, IsTrue, refl, sym, ap, ◌∙◌, subst}
use Rattle.std.specs.List.{list_any, position, position_or_len}
use Rattle.std.proofs.lemmas.Option.{slice_get_read}
use Rattle.vol_types.specs.Limits.{bucket_blocks}
use Rattle.bucket_pool.specs.declared.bucket.Bucket.{Bucket}
use Rattle.bucket_pool.specs.Buckets.{has_room, in_state, is_free, marked_state}
use Rattle.bucket_pool.specs.Places.{changed}
use Rattle.bucket_pool.specs.Space.{first_free, has_open_room, marked, pointer_to, readied, reopened, reserved_at, run_of, spot}
use Rattle.bucket_pool.proofs.Changed.{changed_at}
use Rattle.bucket_pool.proofs.First.{none_any, position_some, some_any}

pub readied_open : (count actor at : ℕ) (buckets : List Bucket) → position (has_room count actor) buckets ≡ Some at → (buckets ≡ readied count actor buckets) × (at ≡ spot count actor buckets) × (at < length buckets)
readied_open count actor at buckets is =
    let any = some_any (has_room count actor) buckets at is in
    let found = position_some (has_room count actor) buckets at is in (
      ap (λ b. if b then buckets else reopened actor buckets) (sym any),
      found.0 ∙ ap (λ b. if b then position_or_len (has_room count actor) buckets else first_free buckets) (sym any),
      found.1,
    )

pub readied_new : (count actor : ℕ) (buckets : List Bucket) → position (has_room count actor) buckets ≡ None → (reopened actor buckets ≡ readied count actor buckets) × (first_free buckets ≡ spot count actor buckets)
readied_new count actor buckets is =
    let none = none_any (has_room count actor) buckets is in (
      ap (λ b. if b then buckets else reopened actor buckets) (sym none),
      ap (λ b. if b then position_or_len (has_room count actor) buckets else first_free buckets) (sym none),
    )

pub free_left : (count actor : ℕ) (buckets : List Bucket) → position (has_room count actor) buckets ≡ None → IsTrue (has_open_room count actor buckets || list_any is_free buckets) → IsTrue (list_any is_free buckets)
free_left count actor buckets is can = subst (λ b. IsTrue (b || list_any is_free buckets)) (none_any (has_room count actor) buckets is) can

pub reserved_is : (count dev at first : ℕ) (mid after : List Bucket) (bucket changed_one : Bucket) → at < length mid → bucket ≡ get_or mid at bucket → first ≡ run_of count bucket
    → changed_one ≡ in_state bucket (marked_state first count bucket.state) → after ≡ set mid at changed_one
    → reserved_at count dev at mid ≡ Some (record { place = record { dev = dev; block = bucket_blocks * at + first }; generation = bucket.generation }, after)
reserved_is count dev at first mid after bucket changed_one lt read run made put =
    ap (option_map (λ b. (pointer_to count dev at b, changed (marked count) at mid))) (slice_get_read mid (length mid) at bucket refl lt read)
    ∙ ap (λ list. Some (pointer_to count dev at bucket, list)) (sym (put ∙ changed_at (marked count) at mid bucket changed_one lt read (made ∙ ap (λ (n : ℕ). in_state bucket (marked_state n count bucket.state)) run)))
    ∙ ap (λ (n : ℕ). Some (record { place = record { dev = dev; block = bucket_blocks * at + n }; generation = bucket.generation }, after)) (sym run)
