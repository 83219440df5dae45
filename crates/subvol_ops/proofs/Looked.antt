-- What is found among the subvolumes of a slot, by its id, its root and the record of the id.
use Rattle.std.proofs.Common.{◌≡◌, Option, Some, None, List, ℕ, [], ◌∷◌, refl, ap}
use Rattle.std.specs.Prelude.{option_and_then, option_map, Result, Ok, Err, is_ok}
use Rattle.std.specs.Option.{ok_or}
use Rattle.std.specs.Ordering.{nat_cmp}
use Rattle.std.proofs.lemmas.Bool.{false≢true, true≢false}
use Rattle.forest_ops.specs.Refusals.{◌>>=◌, result_map}
use Rattle.forest_ops.specs.declared.operation.Cause.{Cause}
use Rattle.forest_ops.specs.declared.operation.Cause.TheVariants.{NoSubvolume}
use Rattle.id_steps.specs.Entries.{sub_of, subs_value}
use Rattle.key_meaning.specs.Forest.{subs_of}
use Rattle.snap_tree.specs.Snaps.{Snaps}
use Rattle.subvol_ops.specs.Plans.{found_among}
use Rattle.subvol_ops.specs.Slots.{leaf_among, leaf_of}
use Rattle.vol_types.specs.Maps.{value_at}
use Rattle.vol_types.specs.Ranges.{IsKeyValue}
use Rattle.vol_types.specs.declared.values.Snap.{Snap}
use Rattle.vol_types.specs.declared.values.Sub.{Sub}
use Rattle.vol_types.specs.declared.values.Value.{Value}
use Rattle.vol_types.specs.declared.values.Value.TheVariants as values

-- The leaf is that of what is found, or neither is there.
pub leaf_is_found : (snaps : Snaps) (name : List ℕ) (subs : List Sub) → ok_or (leaf_among snaps name subs) NoSubvolume ≡ result_map (λ (found : Sub × Snap). leaf_of found.0 found.1) (found_among snaps name subs)
leaf_is_found snaps name subs = by (sub_of name subs)
  where
    at : (sub : Sub) (o : Option Snap) → ok_or (option_map (leaf_of sub) o) NoSubvolume ≡ result_map (λ (found : Sub × Snap). leaf_of found.0 found.1) (ok_or o NoSubvolume >>= (λ s. Ok (sub, s)))
    at sub None = refl
    at sub (Some snap) = refl

    by : (o : Option Sub) → ok_or (option_and_then (λ (sub : Sub). option_map (leaf_of sub) (value_at nat_cmp sub.id snaps)) o) NoSubvolume
        ≡ result_map (λ (found : Sub × Snap). leaf_of found.0 found.1) (ok_or o NoSubvolume >>= (λ sub. ok_or (value_at nat_cmp sub.id snaps) NoSubvolume >>= (λ s. Ok (sub, s))))
    by None = refl
    by (Some sub) = at sub (value_at nat_cmp sub.id snaps)

-- What comes after a value of which this is seen comes of it,
pub then_of : {A B C : Type 0} (see : A → B) (r : Result A Cause) (b : B) (f : A → Result C Cause) (result : Result C Cause) → ◌≡◌ {A = Result B Cause} (Ok b) (result_map see r) → ((x : A) → r ≡ Ok x → b ≡ see x → result ≡ f x) → result ≡ (r >>= f)
then_of {B = B} see (Ok x) b f result is has = has x refl (ap value_or is)
  where
    value_or : Result B Cause → B
    value_or (Ok y) = y
    value_or (Err cause) = b
then_of {B = B} see (Err cause) b f result is has = absurd (true≢false (ap (λ (r : Result B Cause). is_ok r) is))

-- and where a refusal is seen there is one.
pub refused_of : {A B C : Type 0} (see : A → B) (r : Result A Cause) (cause : Cause) (f : A → Result C Cause) → ◌≡◌ {A = Result B Cause} (Err cause) (result_map see r) → ◌≡◌ {A = Result C Cause} (Err cause) (r >>= f)
refused_of {B = B} {C = C} see (Err other) cause f is = ap as_refusal is
  where
    as_refusal : Result B Cause → Result C Cause
    as_refusal (Ok x) = Err cause
    as_refusal (Err c) = Err c
refused_of {B = B} see (Ok x) cause f is = absurd (false≢true (ap (λ (r : Result B Cause). is_ok r) is))

-- Subvolumes that a value in range holds stand in range.
pub held_in_range : (value : Option Value) → IsKeyValue value → IsKeyValue (subs_value (subs_of value))
held_in_range None fits = tt
held_in_range (Some (values.Subs (sub ∷ subs))) fits = fits
held_in_range (Some (values.Subs [])) fits = tt
held_in_range (Some other) fits = tt
