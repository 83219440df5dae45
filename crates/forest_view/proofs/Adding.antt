-- What stands at a key after values came to maps where none stood, and after several of them.
use Rattle.std.proofs.Common.{◌≡◌, Bool, true, false, cond, Option, Some, None, List, [], ◌∷◌, refl, sym, ap, ◌∙◌}
use Rattle.std.specs.Prelude.{is_some, option_and_then}
use Rattle.std.specs.BTreeMap.{is_at}
use Rattle.std.specs.Cmp.{IsTotalOrder}
use Rattle.std.specs.List.{AllByRecursion}
use Rattle.std.specs.Map.{keys_of}
use Rattle.std.specs.Option.{option_or}
use Rattle.std.specs.Ordering.{is_eq}
use Rattle.std.specs.declared.cmp.Ordering.{Ordering}
use Rattle.std.specs.declared.cmp.Ordering.TheVariants.{Less}
use Rattle.std.proofs.lemmas.Cmp.{eq_by_cmp_equiv}
use Rattle.std.proofs.lemmas.Map.Keys.{sorted_head, sorted_tail}
use Rattle.std.proofs.lemmas.Map.Lookups.{CmpEqualImpliesEq}
use Rattle.forest_ops.specs.Parts.{with_new}
use Rattle.key_meaning.specs.TableLaws.{same_key}
use Rattle.vol_types.specs.MapLaws.{IsMap-with_value, value_at-with_value}
use Rattle.vol_types.specs.Maps.{IsMap, value_at, with_value}

-- Something or nothing is itself.
pub or_none : {X : Type 0} (o : Option X) → option_or o None ≡ o
or_none None = refl
or_none (Some x) = refl

pub or_or : {X : Type 0} (a b c : Option X) → option_or (option_or a b) c ≡ option_or a (option_or b c)
or_or None b c = refl
or_or (Some x) b c = refl

-- The first that a function gives over a list.
abbrev pub first_some : {E X : Type 0} → (E → Option X) → List E → Option X
first_some give [] = None
first_some give (e ∷ es) = option_or (give e) (first_some give es)

-- Functions that give the same have the same first.
pub first_some-same : {E X : Type 0} (one other : E → Option X) (es : List E) → ((e : E) → one e ≡ other e) → first_some one es ≡ first_some other es
first_some-same one other [] same = refl
first_some-same one other (e ∷ es) same = λ i. option_or (same e i) (first_some-same one other es same i)

-- What is looked up and then seen through is seen through what is looked up.
pub through : {X V Y : Type 0} (own : X → Option V) (see : Option V → Option Y) → see None ≡ None → (found : Option X) → option_and_then (λ x. see (own x)) found ≡ see (option_and_then own found)
through own see nothing None = sym nothing
through own see nothing (Some x) = refl

module _ {K X : Type 0} {cmp : K → K → Ordering} (total : IsTotalOrder cmp) (exact : CmpEqualImpliesEq cmp) where
  -- After a value came, it stands at its key if none did, and all else stands as it stood.
  pub value_at-with_new : (key : K) (value : X) (q : K) (es : List (K × X)) → value_at cmp q (with_new cmp key value es) ≡ option_or (value_at cmp q es) (cond (is_at (cmp q) key) (Some value) None)
  value_at-with_new key value q es = by (value_at cmp key es) refl (is_at (cmp q) key) refl
    where
      by : (found : Option X) → value_at cmp key es ≡ found → (b : Bool) → is_at (cmp q) key ≡ b
          → value_at cmp q (cond (is_some found) es (with_value cmp key value es)) ≡ option_or (value_at cmp q es) (cond b (Some value) None)
      by None is true at =
          value_at-with_value total key value q es ∙ ap (λ b. cond b (Some value) (value_at cmp q es)) ((eq_by_cmp_equiv total).symm key q ∙ at)
          ∙ sym (ap (λ o. option_or o (Some value)) (ap (λ k. value_at cmp k es) (same_key exact q key at) ∙ is))
      by None is false at =
          value_at-with_value total key value q es ∙ ap (λ b. cond b (Some value) (value_at cmp q es)) ((eq_by_cmp_equiv total).symm key q ∙ at)
          ∙ sym (or_none (value_at cmp q es))
      by (Some x) is true at = here (value_at cmp q es) (ap (λ k. value_at cmp k es) (same_key exact q key at) ∙ is)
        where
          here : (o : Option X) → o ≡ Some x → o ≡ option_or o (Some value)
          here o there = there ∙ sym (ap (λ (p : Option X). option_or p (Some value)) there)
      by (Some x) is false at = sym (or_none (value_at cmp q es))

  -- And it is a map still.
  pub IsMap-with_new : (key : K) (value : X) (es : List (K × X)) → IsMap cmp es → IsMap cmp (with_new cmp key value es)
  IsMap-with_new key value es rises = by (is_some (value_at cmp key es))
    where
      by : (b : Bool) → IsMap cmp (cond b es (with_value cmp key value es))
      by true = rises
      by false = IsMap-with_value total key value es rises

  -- what is below all keys stands at none
  none_below : {Y : Type 0} (give : X → Option Y) (q : K) (es : List (K × X)) → AllByRecursion (λ y. cmp q y ≡ Less) (keys_of es) → first_some (λ (e : K × X). cond (is_at (cmp q) e.0) (give e.1) None) es ≡ None
  none_below give q [] below = refl
  none_below give q (e ∷ es) below = ap (λ o. option_or (cond (is_eq o) (give e.1) None) (first_some (λ (e : K × X). cond (is_at (cmp q) e.0) (give e.1) None) es)) below.0 ∙ none_below give q es below.1

  -- What a function gives at a key of a map, over all its entries, is what it gives of the value there.
  pub one_place : {Y : Type 0} (give : X → Option Y) (q : K) (es : List (K × X)) → IsMap cmp es → first_some (λ (e : K × X). cond (is_at (cmp q) e.0) (give e.1) None) es ≡ option_and_then give (value_at cmp q es)
  one_place give q [] rises = refl
  one_place give q (e ∷ es) rises = by (is_at (cmp q) e.0) refl (one_place give q es (sorted_tail cmp e.0 (keys_of es) rises))
    where
      by : (b : Bool) → is_at (cmp q) e.0 ≡ b → first_some (λ (e : K × X). cond (is_at (cmp q) e.0) (give e.1) None) es ≡ option_and_then give (value_at cmp q es)
          → option_or (cond b (give e.1) None) (first_some (λ (e : K × X). cond (is_at (cmp q) e.0) (give e.1) None) es) ≡ option_and_then give (cond b (Some e.1) (value_at cmp q es))
      by true at later =
          ap (λ o. option_or (give e.1) o) (ap (λ k. first_some (λ (e : K × X). cond (is_at (cmp k) e.0) (give e.1) None) es) (same_key exact q e.0 at) ∙ none_below give e.0 es (sorted_head cmp e.0 (keys_of es) rises))
          ∙ or_none (give e.1)
      by false at later = later
