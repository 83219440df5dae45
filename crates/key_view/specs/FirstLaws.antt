-- The first entry of a map at a position or after it: it is there, and none stands between.
use Rattle.std.proofs.Common.{◌≡◌, Bool, true, false, cond, Option, Some, None, List, [], ◌∷◌, refl, sym, ap, ◌∙◌}
use Rattle.std.specs.Prelude.{slice_get}
use Rattle.std.specs.BTreeMap.{is_at}
use Rattle.std.specs.List.{filter}
use Rattle.std.specs.List.Sorted.{IsStrictlySortedBy}
use Rattle.std.specs.Map.{keys_of}
use Rattle.std.specs.Ordering.{is_eq, is_le}
use Rattle.std.specs.declared.cmp.Ordering.{Ordering}
use Rattle.std.specs.declared.cmp.Ordering.TheVariants.{Less, Equal, Greater}
use Rattle.std.proofs.lemmas.Bool.{true≢false, false≢true}
use Rattle.std.proofs.lemmas.Cmp.{tied_itself}
use Rattle.std.proofs.lemmas.Map.{lookup-none}
use Rattle.std.proofs.lemmas.Map.Entries.{lookup_head, none_below_head}
use Rattle.std.proofs.lemmas.Map.Keys.{sorted_tail}
use Rattle.std.proofs.lemmas.Option.{same_Some, none-some as none_some}
use Rattle.vol_types.specs.KeyMaps.{Entries, first_from}
use Rattle.vol_types.specs.Maps.{IsMap, value_at}
use Rattle.vol_types.specs.PositionLaws.{pos_exact, pos_total}
use Rattle.vol_types.specs.Positions.{pos_cmp}
use Rattle.vol_types.specs.declared.positions.Pos.{Pos}
use Rattle.vol_types.specs.declared.values.Value.{Value}

-- what compares as one is one
pub same_at : (p q : Pos) → is_at (pos_cmp p) q ≡ true → p ≡ q
same_at p q at = pos_exact p q (equal (pos_cmp p q) at)
  where
    equal : (o : Ordering) → is_eq o ≡ true → o ≡ Equal
    equal Less is = absurd (false≢true is)
    equal Equal is = refl
    equal Greater is = absurd (false≢true is)

pub at_itself : (p : Pos) → is_at (pos_cmp p) p ≡ true
at_itself p = ap is_eq (tied_itself pos_total p)

-- a position that isn't before some, and one that is, are two
apart : (pos p q : Pos) → is_le (pos_cmp pos p) ≡ true → is_le (pos_cmp pos q) ≡ false → is_at (pos_cmp p) q ≡ false
apart pos p q le less = by (is_at (pos_cmp p) q) refl
  where
    by : (b : Bool) → is_at (pos_cmp p) q ≡ b → b ≡ false
    by false is = refl
    by true is = absurd (true≢false (sym le ∙ ap (λ x. is_le (pos_cmp pos x)) (same_at p q is) ∙ less))

module _ (pos : Pos) where
  -- where there is no first entry, nothing stands there or after it
  pub none_from : (entries : Entries) → first_from pos entries ≡ None → (q : Pos) → is_le (pos_cmp pos q) ≡ true → value_at pos_cmp q entries ≡ None
  none_from [] none q le = refl
  none_from (e ∷ es) none q le = by (is_le (pos_cmp pos e.0)) refl none (none_from es)
    where
      by : (b : Bool) → is_le (pos_cmp pos e.0) ≡ b → slice_get (cond b (e ∷ filter (λ x. is_le (pos_cmp pos x.0)) es) (filter (λ x. is_le (pos_cmp pos x.0)) es)) 0 ≡ None
          → (first_from pos es ≡ None → (q : Pos) → is_le (pos_cmp pos q) ≡ true → value_at pos_cmp q es ≡ None) → cond (is_at (pos_cmp q) e.0) (Some e.1) (value_at pos_cmp q es) ≡ None
      by true is some later = absurd (none_some e (sym some))
      by false is none later = ap (λ b. cond b (Some e.1) (value_at pos_cmp q es)) (apart pos q e.0 le is) ∙ later none q le

  -- the first entry isn't before the position
  pub first_above : (entries : Entries) (first : Pos × Value) → first_from pos entries ≡ Some first → is_le (pos_cmp pos first.0) ≡ true
  first_above [] first is = absurd (none_some first is)
  first_above (e ∷ es) first is = by (is_le (pos_cmp pos e.0)) refl is (first_above es first)
    where
      by : (b : Bool) → is_le (pos_cmp pos e.0) ≡ b → slice_get (cond b (e ∷ filter (λ x. is_le (pos_cmp pos x.0)) es) (filter (λ x. is_le (pos_cmp pos x.0)) es)) 0 ≡ Some first
          → (first_from pos es ≡ Some first → is_le (pos_cmp pos first.0) ≡ true) → is_le (pos_cmp pos first.0) ≡ true
      by true le is later = ap (λ (x : Pos × Value). is_le (pos_cmp pos x.0)) (sym (same_Some e first is)) ∙ le
      by false less is later = later is

  -- The first entry is there, and nothing stands from the position up to it.
  pub record IsFirst (entries : Entries) (first : Pos × Value) : Type 0 where
    pub there : value_at pos_cmp first.0 entries ≡ Some first.1
    pub none_before : (q : Pos) → is_le (pos_cmp pos q) ≡ true → pos_cmp q first.0 ≡ Less → value_at pos_cmp q entries ≡ None

  pub is_first : (entries : Entries) (first : Pos × Value) → IsMap pos_cmp entries → first_from pos entries ≡ Some first → IsFirst entries first
  is_first [] first rises is = absurd (none_some first is)
  is_first (e ∷ es) first rises is = by (is_le (pos_cmp pos e.0)) refl is (is_first es first (sorted_tail pos_cmp e.0 (keys_of es) rises))
    where
      here : (x : Pos × Value) → e ≡ x → IsFirst (e ∷ es) x
      here x same = record {
        there = ap (λ (y : Pos × Value). value_at pos_cmp y.0 (e ∷ es)) (sym same) ∙ lookup_head (is_at (pos_cmp e.0)) e es (at_itself e.0) ∙ ap (λ (y : Pos × Value). Some y.1) same;
        none_before = λ q le less. lookup-none (is_at (pos_cmp q)) (e ∷ es) (none_below_head pos_total q e es rises (ap (λ (y : Pos × Value). pos_cmp q y.0) same ∙ less));
      }

      by : (b : Bool) → is_le (pos_cmp pos e.0) ≡ b → slice_get (cond b (e ∷ filter (λ x. is_le (pos_cmp pos x.0)) es) (filter (λ x. is_le (pos_cmp pos x.0)) es)) 0 ≡ Some first
          → (first_from pos es ≡ Some first → IsFirst es first) → IsFirst (e ∷ es) first
      by true le is later = here first (same_Some e first is)
      by false less is later = record {
        there = ap (λ b. cond b (Some e.1) (value_at pos_cmp first.0 es)) (apart pos first.0 e.0 (first_above es first is) less) ∙ (later is).there;
        none_before = λ q le before. ap (λ b. cond b (Some e.1) (value_at pos_cmp q es)) (apart pos q e.0 le less) ∙ (later is).none_before q le before;
      }
