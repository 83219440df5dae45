-- The parts of entries, by what `BTreeMap` says of its ranges.
use Rattle.std.proofs.Common.{◌≡◌, ◌-◌, Bool, true, false, cond, not, ◌&&◌, Option, Some, None, List, [], ◌∷◌, ◌++◌, length, refl, sym, ap, ◌∙◌, arith}
use Rattle.std.specs.Prelude.{All, map, option_map, slice_get}
use Rattle.std.specs.List.{filter}
use Rattle.std.specs.Map.{keys_of}
use Rattle.std.specs.Map.Iter.{TakesLast}
use Rattle.std.specs.Ordering.{is_le, is_lt, is_gt, ordering_reverse}
use Rattle.std.specs.declared.cmp.Ordering.{Ordering}
use Rattle.std.specs.declared.cmp.Ordering.TheVariants.{Less, Equal, Greater}
use Rattle.std.proofs.Math.Seq.{get_or-append_seam}
use Rattle.std.proofs.lemmas.Bool.{false≢true}
use Rattle.std.proofs.lemmas.Cmp.{upto}
use Rattle.std.proofs.lemmas.List.{length-append}
use Rattle.std.proofs.lemmas.Option.{slice_get_read}
use Rattle.std.proofs.lemmas.List.Elements.{All-nil, All-cons, All-head, All-tail, filter_agree}
use Rattle.vol_types.specs.Positions.{pos_cmp}
use Rattle.vol_types.specs.declared.positions.Pos.{Pos}
use Rattle.vol_types.specs.declared.values.Value.{Value}
use Rattle.vol_types.specs.PositionLaws.{pos_total}
use Rattle.vol_types.specs.KeyMaps.{Entries, entries_within}
use Rattle.vol_types.specs.Widths.{PosFits}
use Rattle.node_mem.specs.Nodes.{entries_up_to}

-- an order turned round
turned : (o : Ordering) → not (is_lt (ordering_reverse o)) ≡ is_le o
turned Less = refl
turned Equal = refl
turned Greater = refl

-- A position is at or before another exactly where that one isn't before it.
pub le_turned : (p q : Pos) → not (is_lt (pos_cmp p q)) ≡ is_le (pos_cmp q p)
le_turned p q = ap (λ o. not (is_lt o)) (pos_total.antisymm p q) ∙ turned (pos_cmp q p)

-- The values that aren't after a position are those up to it.
pub up_to-range : (pos : Pos) (values : List (Pos × Value)) → filter (λ entry. not (is_lt (pos_cmp pos entry.0))) values ≡ entries_up_to pos values
up_to-range pos values = filter_agree (λ entry. not (is_lt (pos_cmp pos entry.0))) (λ entry. is_le (pos_cmp entry.0 pos)) (λ entry. le_turned pos entry.0) values

-- And those between two positions are those within them.
pub within-range : (first last : Pos) (values : List (Pos × Value)) → filter (λ entry. is_le (pos_cmp first entry.0) && not (is_lt (pos_cmp last entry.0))) values ≡ entries_within first last values
within-range first last values =
    filter_agree (λ entry. is_le (pos_cmp first entry.0) && not (is_lt (pos_cmp last entry.0))) (λ entry. is_le (pos_cmp first entry.0) && is_le (pos_cmp entry.0 last))
    (λ entry. ap (λ b. is_le (pos_cmp first entry.0) && b) (le_turned last entry.0)) values

-- Two tests that agree at positions with their widths leave the same entries.
pub same_part : (p q : Pos → Bool) → ((x : Pos) → PosFits x → p x ≡ q x) → (entries : Entries) → All PosFits (keys_of entries) → filter (λ e. p e.0) entries ≡ filter (λ e. q e.0) entries
same_part p q same [] fits = refl
same_part p q same (e ∷ es) fits =
    ap (λ b. cond b (e ∷ filter (λ x. p x.0) es) (filter (λ x. p x.0) es)) (same e.0 (All-head PosFits e.0 (keys_of es) fits))
    ∙ ap (λ rest. cond (q e.0) (e ∷ rest) rest) (same_part p q same es (All-tail PosFits e.0 (keys_of es) fits))

module _ {X Y : Type 0} (f : X → Y) (P Q : Y → Type 0) (p : X → Bool) (passes : (x : X) → p x ≡ true → P (f x) → Q (f x)) where
  -- What holds of each member that passes a test holds of the part that does.
  pub All-part : (xs : List X) → All P (map f xs) → All Q (map f (filter p xs))
  All-part [] all = All-nil Q
  All-part (x ∷ xs) all = by (p x) refl (All-part xs (All-tail P (f x) (map f xs) all))
    where
      by : (b : Bool) → p x ≡ b → All Q (map f (filter p xs)) → All Q (map f (cond b (x ∷ filter p xs) (filter p xs)))
      by true is later = All-cons Q (f x) (map f (filter p xs)) (passes x is (All-head P (f x) (map f xs) all)) later
      by false is later = later

-- nothing is both after one bound and before another that is before the first
crossed : (a b : Ordering) → (is_gt a ≡ false → is_gt b ≡ false → ⊥) → (is_le a && not (is_le a)) ≡ (is_le a && is_le b)
crossed Greater b apart = refl
crossed Less Greater apart = refl
crossed Equal Greater apart = refl
crossed Less Less apart = absurd (apart refl refl)
crossed Less Equal apart = absurd (apart refl refl)
crossed Equal Less apart = absurd (apart refl refl)
crossed Equal Equal apart = absurd (apart refl refl)

-- Where the first position is after the last one, there are no values between them.
pub crossed-range : (first last : Pos) (values : List (Pos × Value)) → is_gt (pos_cmp first last) ≡ true
    → filter (λ entry. is_le (pos_cmp first entry.0) && not (is_le (pos_cmp first entry.0))) values ≡ entries_within first last values
crossed-range first last values after =
    filter_agree (λ entry. is_le (pos_cmp first entry.0) && not (is_le (pos_cmp first entry.0))) (λ entry. is_le (pos_cmp first entry.0) && is_le (pos_cmp entry.0 last))
    (λ entry. crossed (pos_cmp first entry.0) (pos_cmp entry.0 last) (λ le up. false≢true (sym (upto pos_total first entry.0 last le up) ∙ after))) values
