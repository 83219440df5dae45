-- A list of pins still knows how many there are, and has room for all, after a pin and after a release.
use Rattle.std.proofs.Common.{◌≡◌, ℕ, ◌+◌, ◌-◌, ◌<◌, ◌≤◌, ◌⊎◌, ⊎_elim, Bool, true, false, cond, if◌then◌else◌, IsSome, is_some, List, length, sym, ap, ◌∙◌, subst, arith}
use Rattle.std.specs.Ordering.{nat_cmp}
use Rattle.std.proofs.lemmas.Bool.{true≢false}
use Rattle.std.proofs.lemmas.Cmp.{nat_cmp_total}
use Rattle.vol_types.specs.MapLaws.{IsMap-with_value, IsMap-without}
use Rattle.vol_types.specs.Maps.{IsMap, value_at, without}
use Rattle.pin_list.specs.Pins.{IsKept, smaller, with_pin}
use Rattle.pin_list.proofs.Around.{count-pin, count-release}

-- before and after, the spare places are counted in the code
module _ {numbers new : List (ℕ × ℕ)} {len spare room left new_room : ℕ} (was now node : ℕ) (kept : IsKept numbers len spare room) (spare_is : was ≡ spare) (left_is : now ≡ left) (room_is : new_room ≡ room) where
  pub kept_pinned : (seq : ℕ) → IsSome (value_at nat_cmp node numbers) ⊎ (0 < spare) → new ≡ with_pin node seq numbers → left ≡ (if is_some (value_at nat_cmp node numbers) then spare else spare - 1)
      → IsKept new (len + (was - now)) left new_room
  kept_pinned seq can made took =
      let grown : (length new ≡ length numbers + (was - now)) × (len + (was - now) + left ≤ room) = by (is_some (value_at nat_cmp node numbers)) can took (ap length made ∙ count-pin node seq numbers kept.rises) in
      record {
        rises = subst (IsMap nat_cmp) (sym made) (IsMap-with_value nat_cmp_total node (smaller seq (value_at nat_cmp node numbers)) numbers kept.rises);
        counts = omega (arith, grown, kept.counts);
        fits = omega (arith, grown, room_is);
      }
    where
      by : (found : Bool) → (found ≡ true) ⊎ (0 < spare) → left ≡ (if found then spare else spare - 1) → length new ≡ cond found (length numbers) (length numbers + 1) → (length new ≡ length numbers + (was - now)) × (len + (was - now) + left ≤ room)
      by true can took count = let f = kept.fits in (omega (arith, count, took, spare_is, left_is), omega (arith, took, spare_is, left_is, f))
      by false can took count = let f = kept.fits in let some : 0 < spare = ⊎_elim (λ is. absurd (true≢false (sym is))) (λ lt. lt) can in (omega (arith, count, took, spare_is, left_is, some), omega (arith, took, spare_is, left_is, f, some))

  pub kept_released : new ≡ without nat_cmp node numbers → left ≡ (if is_some (value_at nat_cmp node numbers) then spare + 1 else spare) → IsKept new (len - (now - was)) left new_room
  kept_released made took =
      let fewer : (length numbers ≡ length new + (now - was)) × (len - (now - was) + left ≤ room) = by (is_some (value_at nat_cmp node numbers)) took (count-release node numbers ∙ ap (λ (xs : List (ℕ × ℕ)). cond (is_some (value_at nat_cmp node numbers)) (length xs + 1) (length xs)) (sym made)) in
      record {
        rises = subst (IsMap nat_cmp) (sym made) (IsMap-without nat_cmp_total node numbers kept.rises);
        counts = omega (arith, fewer, kept.counts);
        fits = omega (arith, fewer, room_is);
      }
    where
      by : (found : Bool) → left ≡ (if found then spare + 1 else spare) → length numbers ≡ cond found (length new + 1) (length new) → (length numbers ≡ length new + (now - was)) × (len - (now - was) + left ≤ room)
      by true took count = let f = kept.fits in let k = kept.counts in (omega (arith, count, took, spare_is, left_is), omega (arith, took, spare_is, left_is, f, count, k))
      by false took count = let f = kept.fits in (omega (arith, count, took, spare_is, left_is), omega (arith, took, spare_is, left_is, f))
