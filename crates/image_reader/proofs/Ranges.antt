-- What a map gives between two positions, whatever its values are.
use Rattle.std.proofs.Common.{◌≡◌, true, false, not, ◌&&◌, List, refl, sym, ap, ◌∙◌}
use Rattle.std.specs.List.{filter}
use Rattle.std.specs.Ordering.{is_gt, is_le, is_lt, ordering_reverse}
use Rattle.std.specs.declared.cmp.Ordering.{Ordering}
use Rattle.std.specs.declared.cmp.Ordering.TheVariants.{Less, Equal, Greater}
use Rattle.std.proofs.lemmas.Bool.{false≢true}
use Rattle.std.proofs.lemmas.Cmp.{upto}
use Rattle.std.proofs.lemmas.List.Elements.{filter_agree}
use Rattle.vol_types.specs.PositionLaws.{pos_total}
use Rattle.vol_types.specs.Positions.{is_within, pos_cmp}
use Rattle.vol_types.specs.declared.positions.Pos.{Pos}

-- an order turned round
turned : (o : Ordering) → not (is_lt (ordering_reverse o)) ≡ is_le o
turned Less = refl
turned Equal = refl
turned Greater = refl

not_after : (p q : Pos) → not (is_lt (pos_cmp p q)) ≡ is_le (pos_cmp q p)
not_after p q = ap (λ o. not (is_lt o)) (pos_total.antisymm p q) ∙ turned (pos_cmp q p)

crosses : (a b : Ordering) → (is_gt a ≡ false → is_gt b ≡ false → ⊥) → (is_le a && not (is_le a)) ≡ (is_le a && is_le b)
crosses Greater b apart = refl
crosses Less Greater apart = refl
crosses Equal Greater apart = refl
crosses Less Less apart = absurd (apart refl refl)
crosses Less Equal apart = absurd (apart refl refl)
crosses Equal Less apart = absurd (apart refl refl)
crosses Equal Equal apart = absurd (apart refl refl)

module _ {X : Type 0} (first last : Pos) (entries : List (Pos × X)) where
  -- Those between two positions are those within them.
  pub between-within : filter (λ entry. is_le (pos_cmp first entry.0) && not (is_lt (pos_cmp last entry.0))) entries ≡ filter (λ entry. is_within first last entry.0) entries
  between-within =
      filter_agree (λ entry. is_le (pos_cmp first entry.0) && not (is_lt (pos_cmp last entry.0))) (λ entry. is_within first last entry.0)
      (λ entry. ap (λ b. is_le (pos_cmp first entry.0) && b) (not_after last entry.0)) entries

  -- Where the first position is after the last one, there are none.
  pub crossed-within : is_gt (pos_cmp first last) ≡ true → filter (λ entry. is_le (pos_cmp first entry.0) && not (is_le (pos_cmp first entry.0))) entries ≡ filter (λ entry. is_within first last entry.0) entries
  crossed-within after =
      filter_agree (λ entry. is_le (pos_cmp first entry.0) && not (is_le (pos_cmp first entry.0))) (λ entry. is_within first last entry.0)
      (λ entry. crosses (pos_cmp first entry.0) (pos_cmp entry.0 last) (λ le up. false≢true (sym (upto pos_total first entry.0 last le up) ∙ after))) entries
