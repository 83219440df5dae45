-- A split at the middle position halves the number of entries.
use Rattle.std.proofs.Common.{◌≡◌, ℕ, zero, suc, ◌+◌, ◌-◌, ◌/◌, ◌<◌, ◌≤◌, Bool, true, false, cond, not, Option, Some, None, List, [], ◌∷◌, length, refl, ap, ◌∙◌, subst, arith}
use Rattle.std.specs.Prelude.{IsSome, IfSome, slice_get, nat_lt}
use Rattle.std.specs.List.{AllByRecursion}
use Rattle.std.specs.Map.{keys_of}
use Rattle.std.specs.Ordering.{is_le, is_lt, ordering_reverse}
use Rattle.std.specs.declared.cmp.Ordering.{Ordering}
use Rattle.std.specs.declared.cmp.Ordering.TheVariants.{Less, Equal, Greater}
use Rattle.std.proofs.lemmas.Bool.{ltb-true, lt-ltb, false≢true}
use Rattle.std.proofs.lemmas.Cmp.{tied_itself}
use Rattle.std.proofs.lemmas.List.Filters.{length-filter_both}
use Rattle.std.proofs.lemmas.Map.Entries.{length-keys_of}
use Rattle.std.proofs.lemmas.Map.Keys.{sorted_head, sorted_tail}
use Rattle.std.proofs.lemmas.Option.{same_Some, none-some as none_some}
use Rattle.vol_types.specs.KeyMaps.{Entries}
use Rattle.vol_types.specs.Maps.{IsMap}
use Rattle.vol_types.specs.PositionLaws.{pos_total}
use Rattle.vol_types.specs.Positions.{pos_cmp}
use Rattle.vol_types.specs.declared.positions.Pos.{Pos}
use Rattle.vol_types.specs.declared.values.Value.{Value}
use Rattle.node_mem.specs.Nodes.{entries_after, entries_up_to, middle_of}

-- what is above a position isn't up to it
none_up_to : (at : Pos) (entries : Entries) → AllByRecursion (λ p. pos_cmp at p ≡ Less) (keys_of entries) → entries_up_to at entries ≡ []
none_up_to at [] all = refl
none_up_to at (e ∷ entries) all =
    ap (λ o. cond (is_le o) (e ∷ entries_up_to at entries) (entries_up_to at entries)) (pos_total.antisymm e.0 at ∙ ap ordering_reverse all.0) ∙ none_up_to at entries all.1

-- what stands at a place is among those that a fact holds of
reached : (P : Pos → Type 0) (ps : List Pos) (i : ℕ) (at : Pos) → AllByRecursion P ps → slice_get ps i ≡ Some at → P at
reached P [] i at all none = absurd (none_some at none)
reached P (p ∷ ps) zero at all is = subst P (same_Some p at is) all.0
reached P (p ∷ ps) (suc i) at all is = reached P ps i at all.1 is

-- up to the position at a place stand the entries up to that place
up_to_place : (entries : Entries) (i : ℕ) (at : Pos) → IsMap pos_cmp entries → slice_get (keys_of entries) i ≡ Some at → length (entries_up_to at entries) ≡ suc i
up_to_place [] i at rises none = absurd (none_some at none)
up_to_place (e ∷ entries) zero at rises is =
    let here : e.0 ≡ at = same_Some e.0 at is in
    let above = subst (λ p. AllByRecursion (λ q. pos_cmp p q ≡ Less) (keys_of entries)) here (sorted_head pos_cmp e.0 (keys_of entries) rises) in
    ap (λ o. length (cond (is_le o) (e ∷ entries_up_to at entries) (entries_up_to at entries))) (ap (λ p. pos_cmp p at) here ∙ tied_itself pos_total at)
    ∙ ap (λ es. length (e ∷ es)) (none_up_to at entries above)
up_to_place (e ∷ entries) (suc i) at rises is =
    let below : pos_cmp e.0 at ≡ Less = reached (λ q. pos_cmp e.0 q ≡ Less) (keys_of entries) i at (sorted_head pos_cmp e.0 (keys_of entries) rises) is in
    ap (λ o. length (cond (is_le o) (e ∷ entries_up_to at entries) (entries_up_to at entries))) below
    ∙ ap suc (up_to_place entries i at (sorted_tail pos_cmp e.0 (keys_of entries) rises) is)

turned : (o : Ordering) → is_lt (ordering_reverse o) ≡ not (is_le o)
turned Less = refl
turned Equal = refl
turned Greater = refl

-- each entry is up to a position or after it
pub both_parts : (at : Pos) (entries : Entries) → length (entries_up_to at entries) + length (entries_after at entries) ≡ length entries
both_parts at entries =
    length-filter_both (λ (e : Pos × Value). is_le (pos_cmp e.0 at)) (λ e. is_lt (pos_cmp at e.0)) (λ e. ap is_lt (pos_total.antisymm at e.0) ∙ turned (pos_cmp e.0 at)) entries

module _ (entries : Entries) (rises : IsMap pos_cmp entries) where
  stay_by : (o : Option Pos) → slice_get (keys_of entries) ((length entries - 1) / 2) ≡ o → 1 < length entries → IfSome o (λ at. length (entries_up_to at entries) ≡ (length entries + 1) / 2)
  stay_by None is many = tt
  stay_by (Some at) is many = omega (arith, up_to_place entries ((length entries - 1) / 2) at rises is)

  middle_by : (b : Bool) → nat_lt 1 (length entries) ≡ b → IfSome (cond b (slice_get (keys_of entries) ((length entries - 1) / 2)) None) (λ at. length (entries_up_to at entries) ≡ (length entries + 1) / 2)
  middle_by true is = stay_by (slice_get (keys_of entries) ((length entries - 1) / 2)) refl (ltb-true 1 (length entries) is)
  middle_by false is = tt

  -- half of the entries stay, or half and one more
  pub middle-stay : IfSome (middle_of entries) (λ at. length (entries_up_to at entries) ≡ (length entries + 1) / 2)
  middle-stay = middle_by (nat_lt 1 (length entries)) refl

  leave_by : (o : Option Pos) → IfSome o (λ at. length (entries_up_to at entries) ≡ (length entries + 1) / 2) → IfSome o (λ at. length (entries_after at entries) ≡ length entries / 2)
  leave_by None stay = tt
  leave_by (Some at) stay = omega (arith, stay, both_parts at entries)

  -- and half of them leave
  pub middle-leave : IfSome (middle_of entries) (λ at. length (entries_after at entries) ≡ length entries / 2)
  middle-leave = leave_by (middle_of entries) middle-stay

-- two entries have a middle position
pub has_middle : (entries : Entries) → 2 ≤ length entries → IsSome (middle_of entries)
has_middle entries two = by (nat_lt 1 (length entries)) (lt-ltb 1 (length entries) two)
  where
    at_place : (ps : List Pos) (i : ℕ) → i < length ps → IsSome (slice_get ps i)
    at_place [] i lt = absurd (omega (arith, lt))
    at_place (p ∷ ps) zero lt = refl
    at_place (p ∷ ps) (suc i) lt = at_place ps i (omega (arith, lt))

    by : (b : Bool) → b ≡ true → IsSome (cond b (slice_get (keys_of entries) ((length entries - 1) / 2)) None)
    by true is = at_place (keys_of entries) ((length entries - 1) / 2) (omega (arith, two, length-keys_of entries))
    by false is = absurd (false≢true is)
