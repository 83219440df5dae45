-- What a map's ranges give first and last, and how the map of leaves is asked.
use Rattle.std.proofs.Common.{◌≡◌, ℕ, Bool, true, false, cond, not, ◌&&◌, ◌||◌, Option, Some, None, List, [], ◌∷◌, ◌++◌, refl, sym, ap, ◌∙◌}
use Rattle.std.specs.Prelude.{is_some, option_map, slice_get}
use Rattle.std.specs.BTreeMap.{is_at}
use Rattle.std.specs.List.{filter}
use Rattle.std.specs.Map.{keys_of}
use Rattle.std.specs.Map.Iter.{TakesFirst}
use Rattle.std.specs.Option.{option_or}
use Rattle.std.specs.Ordering.{is_le, is_lt, ordering_reverse}
use Rattle.std.specs.declared.cmp.Ordering.{Ordering}
use Rattle.std.specs.declared.cmp.Ordering.TheVariants.{Less, Equal, Greater}
use Rattle.std.proofs.lemmas.Bool.{false≢true}
use Rattle.std.proofs.lemmas.List.Elements.{filter_agree}
use Rattle.std.proofs.lemmas.Option.{same_Some}
use Rattle.tree_keys.specs.Cuts.{end_before, end_of, is_end}
use Rattle.tree_keys.specs.OrderLaws
use Rattle.vol_types.specs.Maps.{value_at}
use Rattle.vol_types.specs.PositionLaws.{pos_total}
use Rattle.vol_types.specs.Positions.{greatest_pos, pos_cmp}
use Rattle.vol_types.specs.declared.positions.Pos.{Pos}

-- the item that is taken from the front is the first one
pub first_taken : {A X : Type 0} (shows : A → X) (values rest : List X) (taken : Option A) → TakesFirst shows values taken rest → option_map shows taken ≡ slice_get values 0
first_taken shows values rest None none = sym (ap (λ xs. slice_get xs 0) none.0)
first_taken shows values rest (Some x) some = sym (ap (λ xs. slice_get xs 0) some)

and_true : (b : Bool) → (b && true) ≡ b
and_true true = refl
and_true false = refl

-- entries from a position on
pub from-range : {X : Type 0} (pos : Pos) (entries : List (Pos × X)) → filter (λ e. is_le (pos_cmp pos e.0) && true) entries ≡ filter (λ e. is_le (pos_cmp pos e.0)) entries
from-range pos entries = filter_agree (λ e. is_le (pos_cmp pos e.0) && true) (λ e. is_le (pos_cmp pos e.0)) (λ e. and_true (is_le (pos_cmp pos e.0))) entries

-- and after it
pub after-range : {X : Type 0} (pos : Pos) (entries : List (Pos × X)) → filter (λ e. is_lt (pos_cmp pos e.0) && true) entries ≡ filter (λ e. is_lt (pos_cmp pos e.0)) entries
after-range pos entries = filter_agree (λ e. is_lt (pos_cmp pos e.0) && true) (λ e. is_lt (pos_cmp pos e.0)) (λ e. and_true (is_lt (pos_cmp pos e.0))) entries

module _ (pos : Pos) where
  -- the first leaf whose end isn't before a position is the one that covers it
  pub first_leaf : (leaves rest : List (Pos × ℕ)) (first : Pos × ℕ) → filter (λ e. is_le (pos_cmp pos e.0)) leaves ≡ first ∷ rest → (first.0 ≡ end_of pos (keys_of leaves)) × (value_at pos_cmp first.0 leaves ≡ Some first.1)
  first_leaf [] rest first none = absurd (nil_cons none)
    where
      nil_cons : [] ≡ first ∷ rest → ⊥
      nil_cons same = false≢true (ap (λ (xs : List (Pos × ℕ)). is_some (slice_get xs 0)) same)
  first_leaf (e ∷ leaves) rest first is = by (is_le (pos_cmp pos e.0)) refl is (first_leaf leaves rest first)
    where
      head : e ∷ filter (λ e. is_le (pos_cmp pos e.0)) leaves ≡ first ∷ rest → e ≡ first
      head same = same_Some e first (ap (λ xs. slice_get xs 0) same)

      by : (b : Bool) → is_le (pos_cmp pos e.0) ≡ b → cond b (e ∷ filter (λ e. is_le (pos_cmp pos e.0)) leaves) (filter (λ e. is_le (pos_cmp pos e.0)) leaves) ≡ first ∷ rest
          → (filter (λ e. is_le (pos_cmp pos e.0)) leaves ≡ first ∷ rest → (first.0 ≡ end_of pos (keys_of leaves)) × (value_at pos_cmp first.0 leaves ≡ Some first.1))
          → (first.0 ≡ cond b e.0 (end_of pos (keys_of leaves))) × (cond (is_at (pos_cmp first.0) e.0) (Some e.1) (value_at pos_cmp first.0 leaves) ≡ Some first.1)
      by true le same later =
          let here = head same in (
            sym (ap (λ (x : Pos × ℕ). x.0) here),
            ap (λ b. cond b (Some e.1) (value_at pos_cmp first.0 leaves)) (ap (λ (x : Pos × ℕ). is_at (pos_cmp first.0) x.0) here ∙ OrderLaws.at_itself first.0) ∙ ap (λ (x : Pos × ℕ). Some x.1) here,
          )
      by false le same later =
          let found = later same in
          let covers = passed leaves same in
          let other : is_at (pos_cmp first.0) e.0 ≡ false = OrderLaws.not_at_from_after e.0 first.0 (OrderLaws.before_from_before_le e.0 pos first.0 (OrderLaws.before_from_not_le pos e.0 le) covers) in
          (found.0, ap (λ b. cond b (Some e.1) (value_at pos_cmp first.0 leaves)) other ∙ found.1)
        where
          passed : (es : List (Pos × ℕ)) → filter (λ e. is_le (pos_cmp pos e.0)) es ≡ first ∷ rest → is_le (pos_cmp pos first.0) ≡ true
          passed [] none = absurd (false≢true (ap (λ (xs : List (Pos × ℕ)). is_some (slice_get xs 0)) none))
          passed (x ∷ es) is = at (is_le (pos_cmp pos x.0)) refl is (passed es)
            where
              at : (b : Bool) → is_le (pos_cmp pos x.0) ≡ b → cond b (x ∷ filter (λ e. is_le (pos_cmp pos e.0)) es) (filter (λ e. is_le (pos_cmp pos e.0)) es) ≡ first ∷ rest
                  → (filter (λ e. is_le (pos_cmp pos e.0)) es ≡ first ∷ rest → is_le (pos_cmp pos first.0) ≡ true) → is_le (pos_cmp pos first.0) ≡ true
              at true le is later = sym (ap (λ (y : Pos × ℕ). is_le (pos_cmp pos y.0)) (same_Some x first (ap (λ xs. slice_get xs 0) is))) ∙ le
              at false le is later = later is

  -- there is one
  pub some_leaf : (leaves : List (Pos × ℕ)) → filter (λ e. is_le (pos_cmp pos e.0)) leaves ≡ [] → is_le (pos_cmp pos greatest_pos) ≡ true → is_end greatest_pos (keys_of leaves) ≡ true → ⊥
  some_leaf [] none low whole = false≢true whole
  some_leaf (e ∷ leaves) none low whole = by (is_le (pos_cmp pos e.0)) refl none (λ none' whole'. some_leaf leaves none' low whole')
    where
      rest : (b : Bool) → is_at (pos_cmp greatest_pos) e.0 ≡ b → is_le (pos_cmp pos e.0) ≡ false → (b || is_end greatest_pos (keys_of leaves)) ≡ true → is_end greatest_pos (keys_of leaves) ≡ true
      rest true at less has = absurd (false≢true (sym less ∙ (ap (λ p. is_le (pos_cmp pos p)) (sym (OrderLaws.same_from_at greatest_pos e.0 at)) ∙ low)))
      rest false at less has = has

      by : (b : Bool) → is_le (pos_cmp pos e.0) ≡ b → cond b (e ∷ filter (λ e. is_le (pos_cmp pos e.0)) leaves) (filter (λ e. is_le (pos_cmp pos e.0)) leaves) ≡ []
          → (filter (λ e. is_le (pos_cmp pos e.0)) leaves ≡ [] → is_end greatest_pos (keys_of leaves) ≡ true → ⊥) → ⊥
      by true le none later = false≢true (sym (ap (λ (xs : List (Pos × ℕ)). is_some (slice_get xs 0)) none))
      by false le none later = later none (rest (is_at (pos_cmp greatest_pos) e.0) refl le whole)

-- the position of the last entry
abbrev last_key : List (Pos × ℕ) → Option Pos
last_key [] = None
last_key (e ∷ leaves) = option_or (last_key leaves) (Some e.0)

last_key-append : (rest : List (Pos × ℕ)) (last : Pos × ℕ) → last_key (rest ++ last ∷ []) ≡ Some last.0
last_key-append [] last = refl
last_key-append (e ∷ rest) last = ap (λ o. option_or o (Some e.0)) (last_key-append rest last)

before_test : (p q : Pos) → is_lt (pos_cmp p q) ≡ not (is_le (pos_cmp q p))
before_test p q = ap is_lt (pos_total.antisymm p q) ∙ turned (pos_cmp q p)
  where
    turned : (o : Ordering) → is_lt (ordering_reverse o) ≡ not (is_le o)
    turned Less = refl
    turned Equal = refl
    turned Greater = refl

end_before-last : (pos : Pos) (leaves : List (Pos × ℕ)) → end_before pos (keys_of leaves) ≡ last_key (filter (λ e. not (is_le (pos_cmp pos e.0))) leaves)
end_before-last pos [] = refl
end_before-last pos (e ∷ leaves) = ap (λ b. cond b (option_or (end_before pos (keys_of leaves)) (Some e.0)) (end_before pos (keys_of leaves))) (before_test e.0 pos) ∙ by (not (is_le (pos_cmp pos e.0))) (end_before-last pos leaves)
  where
    by : (b : Bool) → end_before pos (keys_of leaves) ≡ last_key (filter (λ e. not (is_le (pos_cmp pos e.0))) leaves)
        → cond b (option_or (end_before pos (keys_of leaves)) (Some e.0)) (end_before pos (keys_of leaves)) ≡ last_key (cond b (e ∷ filter (λ e. not (is_le (pos_cmp pos e.0))) leaves) (filter (λ e. not (is_le (pos_cmp pos e.0))) leaves))
    by true later = ap (λ o. option_or o (Some e.0)) later
    by false later = later

-- the last leaf whose end is before a position
pub last_leaf : (pos : Pos) (leaves rest : List (Pos × ℕ)) (last : Pos × ℕ) → filter (λ e. not (is_le (pos_cmp pos e.0))) leaves ≡ rest ++ last ∷ [] → Some last.0 ≡ end_before pos (keys_of leaves)
last_leaf pos leaves rest last is = sym (end_before-last pos leaves ∙ ap last_key is ∙ last_key-append rest last)

-- and where there is none
pub no_leaf_before : (pos : Pos) (leaves : List (Pos × ℕ)) → filter (λ e. not (is_le (pos_cmp pos e.0))) leaves ≡ [] → None ≡ end_before pos (keys_of leaves)
no_leaf_before pos leaves none = sym (end_before-last pos leaves ∙ ap last_key none)
