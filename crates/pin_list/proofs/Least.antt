-- The least number of joined pins, and that it is the oldest.
use Rattle.std.proofs.Common.{◌≡◌, ℕ, ◌<◌, ◌≤◌, ◌⊎◌, ⊎_elim, IfSome, IfNone, Bool, true, false, cond, List, [], ◌∷◌, ◌++◌, Option, Some, None, refl, sym, ap, ◌∙◌, subst, arith}
use Rattle.std.specs.List.Sorted.{IsStrictlySortedBy}
use Rattle.std.specs.BTreeMap.{is_at}
use Rattle.std.specs.Ordering.{nat_cmp}
use Rattle.std.proofs.lemmas.Option.{same_Some, none-some as none_some}
use Rattle.vol_types.specs.Maps.{IsMap, value_at}
use Rattle.pin_list.specs.Pins.{smaller, least_pin, IsOldest}
use Rattle.pin_list.proofs.Around.{above_head, first_value, skip_value}

≤_or_< : (m n : ℕ) → (m ≤ n) ⊎ (n < m)
≤_or_< m n = grind arith

-- the least of a first number and of those at both sides of another
smaller_first : (first seq : ℕ) (left right : Option ℕ) → smaller first (Some (smaller (smaller seq left) right)) ≡ smaller (smaller seq (Some (smaller first left))) right
smaller_first first seq None None = omega arith
smaller_first first seq None (Some r) = omega arith
smaller_first first seq (Some l) None = omega arith
smaller_first first seq (Some l) (Some r) = omega arith

-- the least number around a pin
pub least_around : (left : List (ℕ × ℕ)) (node seq : ℕ) (right : List (ℕ × ℕ)) → Some (smaller (smaller seq (least_pin left)) (least_pin right)) ≡ least_pin (left ++ (node, seq) ∷ right)
least_around [] node seq right = refl
least_around (e ∷ left) node seq right = ap Some (sym (smaller_first e.1 seq (least_pin left) (least_pin right))) ∙ ap (λ o. Some (smaller e.1 o)) (least_around left node seq right)

no_pin : (pins : List (ℕ × ℕ)) → least_pin pins ≡ None → pins ≡ []
no_pin [] is = refl
no_pin (e ∷ es) is = absurd (none_some _ (sym is))

pub none_oldest : (pins : List (ℕ × ℕ)) (oldest : Option ℕ) → oldest ≡ least_pin pins → IfNone oldest (pins ≡ [])
none_oldest pins None is = no_pin pins (sym is)
none_oldest pins (Some oldest) is = tt

-- the least number is pinned, and none is smaller
least_is : (pins : List (ℕ × ℕ)) (oldest : ℕ) → IsMap nat_cmp pins → least_pin pins ≡ Some oldest → IsOldest pins oldest
unfolding IsStrictlySortedBy
least_is [] oldest rises is = absurd (none_some oldest is)
least_is (e ∷ es) oldest rises is = choose (λ low some. least_is es low rises.1 some) (least_pin es) refl (same_Some _ oldest is)
  where
    at_first : value_at nat_cmp e.0 (e ∷ es) ≡ Some e.1
    at_first = first_value e es

    later : (n seq : ℕ) → value_at nat_cmp n es ≡ Some seq → value_at nat_cmp n (e ∷ es) ≡ Some seq
    later n seq at = skip_value n e es (above_head e.0 n seq es rises.0 at) ∙ at

    -- a number of the first pin, or of a later one
    each : (n seq bound : ℕ) → bound ≤ e.1 → ((m s : ℕ) → value_at nat_cmp m es ≡ Some s → bound ≤ s) → value_at nat_cmp n (e ∷ es) ≡ Some seq → bound ≤ seq
    each n seq bound le others at = choose_test (is_at (nat_cmp n) e.0) at
      where
        choose_test : (test : Bool) → cond test (Some e.1) (value_at nat_cmp n es) ≡ Some seq → bound ≤ seq
        choose_test true found = subst (λ (s : ℕ). bound ≤ s) (same_Some e.1 seq found) le
        choose_test false found = others n seq found

    choose : ((low : ℕ) → least_pin es ≡ Some low → IsOldest es low) → (o : Option ℕ) → least_pin es ≡ o → smaller e.1 o ≡ oldest → IsOldest (e ∷ es) oldest
    choose later_is None none same = record {
      node = e.0;
      pinned = at_first ∙ ap Some same;
      least = λ n seq at. each n seq oldest (let le : oldest ≤ e.1 = omega arith in le) (λ m s found. absurd (none_some s (sym (ap (value_at nat_cmp m) (no_pin es none)) ∙ found))) at;
    }
    choose later_is (Some least) some same = ⊎_elim
        (λ le. let here : e.1 ≡ oldest = omega arith in record {
          node = e.0;
          pinned = at_first ∙ ap Some here;
          least = λ n seq at. each n seq oldest (let up : oldest ≤ e.1 = omega arith in up) (λ m s found. let low = (later_is least some).least m s found in let up : oldest ≤ s = omega arith in up) at;
        })
        (λ lt. let there : least ≡ oldest = omega arith in let rest = later_is least some in record {
          node = rest.node;
          pinned = later rest.node least rest.pinned ∙ ap Some there;
          least = λ n seq at. each n seq oldest (let up : oldest ≤ e.1 = omega arith in up) (λ m s found. let low = rest.least m s found in let up : oldest ≤ s = omega arith in up) at;
        })
        (≤_or_< e.1 least)

pub some_oldest : (pins : List (ℕ × ℕ)) (oldest : Option ℕ) → IsMap nat_cmp pins → oldest ≡ least_pin pins → IfSome oldest (IsOldest pins)
some_oldest pins None rises is = tt
some_oldest pins (Some oldest) rises is = least_is pins oldest rises (sym is)
