-- What is counted for a bucket: as many blocks as values use there, up to the end of the count's type.
use Rattle.std.proofs.Common.{◌≡◌, ℕ, ◌+◌, ◌-◌, ◌^◌, Bool, true, false, cond, not, min, List, [], ◌∷◌, Option, Some, None, refl, ap, ◌∙◌, arith}
use Rattle.std.specs.Prelude.{unwrap_or}
use Rattle.std.specs.BTreeMap.{is_at}
use Rattle.key_meaning.specs.Blocks.{blocks_of}
use Rattle.key_meaning.specs.Checks.{pointers_of}
use Rattle.key_meaning.specs.TableLaws.{same_key}
use Rattle.key_triggers.specs.declared.tallies.Tally.{Tally}
use Rattle.key_triggers.specs.Changes.{Values, blocks_in, pointers_in}
use Rattle.key_triggers.specs.Positions.{bucket_pos}
use Rattle.key_triggers.specs.Tallies.{Tallies, capped, counted, counted_values, tally_at, tally_more}
use Rattle.key_triggers.proofs.Sums.{of_maybe, sum_of}
use Rattle.vol_types.specs.MapLaws.{IsMap-with_value, value_at-with_value}
use Rattle.vol_types.specs.Maps.{IsMap, value_at, with_value}
use Rattle.vol_types.specs.PositionLaws.{pos_exact, pos_total}
use Rattle.vol_types.specs.Positions.{pos_cmp}
use Rattle.vol_types.specs.declared.pointers.Pointer.{Pointer}
use Rattle.vol_types.specs.declared.positions.Pos.{Pos}
use Rattle.vol_types.specs.declared.values.Value.{Value}

-- how many blocks behind these pointers lie in a bucket, where so many lie behind each, all in the bucket of the first one
abbrev pub used_by : Pos → ℕ → List Pointer → ℕ
used_by bucket blocks [] = 0
used_by bucket blocks (pointer ∷ pointers) = cond {A = ℕ} (is_at (pos_cmp (bucket_pos pointer.place)) bucket) blocks 0 + used_by bucket blocks pointers

-- how many blocks of a bucket a value uses
abbrev pub used : Pos → Value → ℕ
used bucket value = used_by bucket (blocks_of value) (pointers_of value)

-- what was given, or taken
abbrev pub side : Bool → Tally → ℕ
side gives tally = cond {A = ℕ} gives tally.given tally.taken

-- the end of a count
abbrev pub last : ℕ
last = 2 ^ 64 - 1

-- Positions that are one are equal.
pub same_pos : (p q : Pos) → is_at (pos_cmp p) q ≡ true → p ≡ q
same_pos = same_key pos_exact

cap_once : (sum blocks end : ℕ) → min (min sum end + blocks) end ≡ min (sum + blocks) end
cap_once sum blocks end = omega arith

more_of_side : (gives : Bool) (blocks : ℕ) (tally : Tally) → side gives (tally_more gives blocks tally) ≡ capped (side gives tally) blocks
more_of_side true blocks tally = refl
more_of_side false blocks tally = refl

more_of_other : (gives : Bool) (blocks : ℕ) (tally : Tally) → side (not gives) (tally_more gives blocks tally) ≡ side (not gives) tally
more_of_other true blocks tally = refl
more_of_other false blocks tally = refl

-- What was counted for a bucket after one tally was put.
tally_put : (bucket pos : Pos) (tally : Tally) (tallies : Tallies) → tally_at bucket (with_value pos_cmp pos tally tallies) ≡ cond (is_at (pos_cmp pos) bucket) tally (tally_at bucket tallies)
tally_put bucket pos tally tallies = ap (λ (o : Option Tally). unwrap_or o (record { taken = 0; given = 0 })) (value_at-with_value pos_total pos tally bucket tallies) ∙ by (is_at (pos_cmp pos) bucket)
  where
    by : (b : Bool) → unwrap_or (cond b (Some tally) (value_at pos_cmp bucket tallies)) (record { taken = 0; given = 0 }) ≡ cond b tally (tally_at bucket tallies)
    by true = refl
    by false = refl

-- So many blocks behind pointers are counted,
pub counted_side : (gives : Bool) (blocks : ℕ) (pointers : List Pointer) (tallies : Tallies) (bucket : Pos) (sum : ℕ) → side gives (tally_at bucket tallies) ≡ min sum last
    → side gives (tally_at bucket (counted gives blocks pointers tallies)) ≡ min (sum + used_by bucket blocks pointers) last
counted_side gives blocks [] tallies bucket sum is = is ∙ ap (λ n. min n last) (let e : sum ≡ sum + 0 = omega arith in e)
counted_side gives blocks (pointer ∷ pointers) tallies bucket sum is =
    counted_side gives blocks pointers (with_value pos_cmp pos (tally_more gives blocks (tally_at pos tallies)) tallies) bucket (sum + here (is_at (pos_cmp pos) bucket)) (ap (side gives) (tally_put bucket pos (tally_more gives blocks (tally_at pos tallies)) tallies) ∙ by (is_at (pos_cmp pos) bucket) refl)
    ∙ ap (λ n. min n last) (let e : sum + here (is_at (pos_cmp pos) bucket) + used_by bucket blocks pointers ≡ sum + (here (is_at (pos_cmp pos) bucket) + used_by bucket blocks pointers) = omega arith in e)
  where
    pos : Pos
    pos = bucket_pos pointer.place

    here : Bool → ℕ
    here b = cond {A = ℕ} b blocks 0

    by : (b : Bool) → is_at (pos_cmp (bucket_pos pointer.place)) bucket ≡ b
        → side gives (cond b (tally_more gives blocks (tally_at (bucket_pos pointer.place) tallies)) (tally_at bucket tallies)) ≡ min (sum + cond {A = ℕ} b blocks 0) last
    by true same =
        more_of_side gives blocks (tally_at (bucket_pos pointer.place) tallies)
        ∙ ap (λ (p : Pos). capped (side gives (tally_at p tallies)) blocks) (same_pos (bucket_pos pointer.place) bucket same)
        ∙ ap (λ n. capped n blocks) is ∙ cap_once sum blocks last
    by false apart = is ∙ ap (λ n. min n last) (let e : sum ≡ sum + 0 = omega arith in e)

-- and nothing on the other side.
pub counted_other : (gives : Bool) (blocks : ℕ) (pointers : List Pointer) (tallies : Tallies) (bucket : Pos)
    → side (not gives) (tally_at bucket (counted gives blocks pointers tallies)) ≡ side (not gives) (tally_at bucket tallies)
counted_other gives blocks [] tallies bucket = refl
counted_other gives blocks (pointer ∷ pointers) tallies bucket =
    counted_other gives blocks pointers (with_value pos_cmp (bucket_pos pointer.place) (tally_more gives blocks (tally_at (bucket_pos pointer.place) tallies)) tallies) bucket
    ∙ ap (side (not gives)) (tally_put bucket (bucket_pos pointer.place) (tally_more gives blocks (tally_at (bucket_pos pointer.place) tallies)) tallies)
    ∙ by (is_at (pos_cmp (bucket_pos pointer.place)) bucket) refl
  where
    by : (b : Bool) → is_at (pos_cmp (bucket_pos pointer.place)) bucket ≡ b
        → side (not gives) (cond b (tally_more gives blocks (tally_at (bucket_pos pointer.place) tallies)) (tally_at bucket tallies)) ≡ side (not gives) (tally_at bucket tallies)
    by true same = more_of_other gives blocks (tally_at (bucket_pos pointer.place) tallies) ∙ ap (λ (p : Pos). side (not gives) (tally_at p tallies)) (same_pos (bucket_pos pointer.place) bucket same)
    by false apart = refl

-- The tallies stay a map.
pub counted_is_map : (gives : Bool) (blocks : ℕ) (pointers : List Pointer) (tallies : Tallies) → IsMap pos_cmp tallies → IsMap pos_cmp (counted gives blocks pointers tallies)
counted_is_map gives blocks [] tallies is = is
counted_is_map gives blocks (pointer ∷ pointers) tallies is = counted_is_map gives blocks pointers _ (IsMap-with_value pos_total (bucket_pos pointer.place) (tally_more gives blocks (tally_at (bucket_pos pointer.place) tallies)) tallies is)

used_maybe : (bucket : Pos) (value : Option Value) → used_by bucket (blocks_in value) (pointers_in value) ≡ of_maybe (used bucket) value
used_maybe bucket None = refl
used_maybe bucket (Some value) = refl

-- What values use is counted,
pub values_side : (gives : Bool) (values : Values) (tallies : Tallies) (bucket : Pos) (sum : ℕ) → side gives (tally_at bucket tallies) ≡ min sum last
    → side gives (tally_at bucket (counted_values gives values tallies)) ≡ min (sum + sum_of (used bucket) values) last
values_side gives [] tallies bucket sum is = is ∙ ap (λ n. min n last) (let e : sum ≡ sum + 0 = omega arith in e)
values_side gives (entry ∷ values) tallies bucket sum is =
    let here = used_by bucket (blocks_in entry.1) (pointers_in entry.1) in
    values_side gives values (counted gives (blocks_in entry.1) (pointers_in entry.1) tallies) bucket (sum + here) (counted_side gives (blocks_in entry.1) (pointers_in entry.1) tallies bucket sum is)
    ∙ ap (λ n. min n last) (let e : sum + here + sum_of (used bucket) values ≡ sum + (of_maybe (used bucket) entry.1 + sum_of (used bucket) values) = omega (arith, used_maybe bucket entry.1) in e)

-- and nothing on the other side.
pub values_other : (gives : Bool) (values : Values) (tallies : Tallies) (bucket : Pos) → side (not gives) (tally_at bucket (counted_values gives values tallies)) ≡ side (not gives) (tally_at bucket tallies)
values_other gives [] tallies bucket = refl
values_other gives (entry ∷ values) tallies bucket = values_other gives values (counted gives (blocks_in entry.1) (pointers_in entry.1) tallies) bucket ∙ counted_other gives (blocks_in entry.1) (pointers_in entry.1) tallies bucket

-- The tallies stay a map.
pub values_are_map : (gives : Bool) (values : Values) (tallies : Tallies) → IsMap pos_cmp tallies → IsMap pos_cmp (counted_values gives values tallies)
values_are_map gives [] tallies is = is
values_are_map gives (entry ∷ values) tallies is = values_are_map gives values (counted gives (blocks_in entry.1) (pointers_in entry.1) tallies) (counted_is_map gives (blocks_in entry.1) (pointers_in entry.1) tallies is)
