-- The counts of a device after one of its buckets was changed.
use Rattle.std.proofs.Common.{◌≡◌, ℕ, ◌+◌, ◌-◌, ◌*◌, ◌/◌, ◌<◌, ◌≤◌, Bool, true, cond, List, length, get_or, set, refl, ap, ◌∙◌, arith, length-set}
use Rattle.std.specs.List.{count_by}
use Rattle.std.proofs.lemmas.List.Sums.{sum_by-set}
use Rattle.bucket_pool.specs.declared.bucket.Bucket.{Bucket}
use Rattle.bucket_pool.specs.declared.groups.Group.{Group}
use Rattle.bucket_pool.specs.Buckets.{is_free}
use Rattle.bucket_pool.specs.Groups.{AreCounted, IsCounted, is_busy}
use Rattle.bucket_pool.proofs.Grouping.{count_most, counted_put, was_counted}

sum_up : (after was is free count new old there now : ℕ) → after + was ≡ free + is → free ≡ count → new + there ≡ count + now → old ≡ there → was ≡ old → is ≡ now → after ≡ new
sum_up after was is free count new old there now a b e f g h = omega arith

module _ (buckets : List Bucket) (groups : List Group) (at : ℕ) (old : Bucket) (counts : Group) where
  there : AreCounted buckets groups → at < length buckets → at / 256 < length groups
  there counted within = let all = counted.covers in omega (arith, all, within)

  split : at ≡ 256 * (at / 256) + (at - 256 * (at / 256))
  split = omega arith

  small : at - 256 * (at / 256) < 256
  small = omega arith

  pub free_counted : AreCounted buckets groups → at < length buckets → old ≡ get_or buckets at old → counts ≡ get_or groups (at / 256) counts → is_free old ≡ true → 0 < counts.free
  free_counted counted within read got is =
      was_counted is_free (at / 256) (at - 256 * (at / 256)) at counts.free buckets old split small within read (ap (λ (g : Group). g.free) got ∙ counted.free_ones (at / 256) counts (there counted within)) is

  pub busy_counted : AreCounted buckets groups → at < length buckets → old ≡ get_or buckets at old → counts ≡ get_or groups (at / 256) counts → is_busy old ≡ true → 0 < counts.busy
  busy_counted counted within read got is =
      was_counted is_busy (at / 256) (at - 256 * (at / 256)) at counts.busy buckets old split small within read (ap (λ (g : Group). g.busy) got ∙ counted.busy_ones (at / 256) counts (there counted within)) is

  pub few_free : AreCounted buckets groups → at < length buckets → counts ≡ get_or groups (at / 256) counts → counts.free ≤ 65536
  few_free counted within got =
      let lt = count_most is_free (at / 256) counts.free buckets (ap (λ (g : Group). g.free) got ∙ counted.free_ones (at / 256) counts (there counted within)) in omega (arith, lt)

  pub few_busy : AreCounted buckets groups → at < length buckets → counts ≡ get_or groups (at / 256) counts → counts.busy ≤ 65536
  few_busy counted within got =
      let lt = count_most is_busy (at / 256) counts.busy buckets (ap (λ (g : Group). g.busy) got ∙ counted.busy_ones (at / 256) counts (there counted within)) in omega (arith, lt)

  pub put_counted : (new : Bucket) (after : Group) (free free_after : ℕ) (was is : Bool) → IsCounted buckets groups free → at < length buckets → old ≡ get_or buckets at old → counts ≡ get_or groups (at / 256) counts
      → was ≡ is_free old → is ≡ is_free new → free_after + cond was 1 0 ≡ free + cond is 1 0
      → after.free + cond (is_free old) 1 0 ≡ counts.free + cond (is_free new) 1 0 → after.busy + cond (is_busy old) 1 0 ≡ counts.busy + cond (is_busy new) 1 0
      → IsCounted (set buckets at new) (set groups (at / 256) after) free_after
  put_counted new after free free_after was is counted within read got before now once frees busies =
      let sum = sum_by-set (λ b. cond (is_free b) 1 0) buckets at new old within in
      let here = ap (λ b. cond {A = ℕ} (is_free b) 1 0) read in
      let first = ap (λ b. cond {A = ℕ} b 1 0) before in
      let second = ap (λ b. cond {A = ℕ} b 1 0) now in
      record {
        free_ones = sum_up free_after (cond was 1 0) (cond is 1 0) free (count_by is_free buckets) (count_by is_free (set buckets at new)) (cond (is_free old) 1 0) (cond (is_free (get_or buckets at old)) 1 0) (cond (is_free new) 1 0)
            once counted.free_ones sum here first second;
        few = let few = counted.few in let size = length-set buckets at new in omega (arith, few, size);
        by_groups = counted_put buckets groups at (at / 256) old new counts after counted.by_groups within refl read got frees busies;
        few_groups = let few = counted.few_groups in let size = length-set groups (at / 256) after in omega (arith, few, size);
      }
