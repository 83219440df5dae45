-- What nodes pin after an entry changes some of them, and after one of them is put in place under another birth.
use Rattle.std.proofs.Common.{◌≡◌, ℕ, ◌≤◌, Bool, true, false, cond, Option, Some, None, List, [], ◌∷◌, refl, sym, ap, ◌∙◌, arith}
use Rattle.std.specs.Prelude.{◌≢◌, ◌==◌, ◌||◌, IfSome}
use Rattle.std.specs.BTreeMap.{is_at}
use Rattle.std.specs.List.{list_any}
use Rattle.std.specs.Ordering.{match_ordering, nat_cmp}
use Rattle.std.specs.declared.cmp.Ordering.{Ordering}
use Rattle.std.specs.declared.cmp.Ordering.TheVariants.{Less, Equal, Greater}
use Rattle.std.proofs.lemmas.Bool.{eq-eqb, eqb-true, true≢false}
use Rattle.std.proofs.lemmas.Cmp.{nat_cmp_total}
use Rattle.birth_index.specs.NameLaws.{apart_births, birth_itself}
use Rattle.dirty_nodes.specs.Dirty.{moved_pin, with_pins}
use Rattle.pin_list.specs.Pins.{least_pin, smaller, with_pin}
use Rattle.vol_types.specs.MapLaws.{IsMap-put_at, IsMap-without, value_at-put_at, value_at-with_value, value_at-without}
use Rattle.vol_types.specs.Maps.{IsMap, value_at, with_value, without}

-- what a node pins once a node has another birth
look-moved : (old fresh : ℕ) (later : Option ℕ) (birth : ℕ) (numbers : List (ℕ × ℕ)) → IsMap nat_cmp numbers
    → value_at nat_cmp birth (moved_pin old fresh later numbers) ≡ cond (is_at (nat_cmp fresh) birth) later (cond (is_at (nat_cmp old) birth) None (value_at nat_cmp birth numbers))
look-moved old fresh later birth numbers rises =
    value_at-put_at nat_cmp_total fresh later birth (without nat_cmp old numbers) (IsMap-without nat_cmp_total old numbers rises)
    ∙ ap (cond (is_at (nat_cmp fresh) birth) later) (value_at-without nat_cmp_total old birth numbers rises)

-- The births still rise.
pub rises-moved : (old fresh : ℕ) (later : Option ℕ) (numbers : List (ℕ × ℕ)) → IsMap nat_cmp numbers → IsMap nat_cmp (moved_pin old fresh later numbers)
rises-moved old fresh later numbers rises = IsMap-put_at nat_cmp_total fresh later (without nat_cmp old numbers) (IsMap-without nat_cmp_total old numbers rises)

-- Under its new birth the node pins what it is said to.
pub moved-fresh : (old fresh : ℕ) (later : Option ℕ) (numbers : List (ℕ × ℕ)) → IsMap nat_cmp numbers → value_at nat_cmp fresh (moved_pin old fresh later numbers) ≡ later
moved-fresh old fresh later numbers rises =
    look-moved old fresh later fresh numbers rises ∙ ap (λ (b : Bool). cond b later (cond (is_at (nat_cmp old) fresh) None (value_at nat_cmp fresh numbers))) (birth_itself fresh)

-- Its old birth pins nothing.
pub moved-old : (old fresh : ℕ) (later : Option ℕ) (numbers : List (ℕ × ℕ)) → IsMap nat_cmp numbers → old ≢ fresh → value_at nat_cmp old (moved_pin old fresh later numbers) ≡ None
moved-old old fresh later numbers rises apart =
    look-moved old fresh later old numbers rises
    ∙ ap (λ (b : Bool). cond b later (cond (is_at (nat_cmp old) old) None (value_at nat_cmp old numbers))) (apart_births fresh old (λ same. apart (sym same)))
    ∙ ap (λ (b : Bool). cond b None (value_at nat_cmp old numbers)) (birth_itself old)

-- Any other node pins what it did.
pub moved-other : (old fresh : ℕ) (later : Option ℕ) (birth : ℕ) (numbers : List (ℕ × ℕ)) → IsMap nat_cmp numbers → birth ≢ old → birth ≢ fresh
    → value_at nat_cmp birth (moved_pin old fresh later numbers) ≡ value_at nat_cmp birth numbers
moved-other old fresh later birth numbers rises not_old not_fresh =
    look-moved old fresh later birth numbers rises
    ∙ ap (λ (b : Bool). cond b later (cond (is_at (nat_cmp old) birth) None (value_at nat_cmp birth numbers))) (apart_births fresh birth (λ same. not_fresh (sym same)))
    ∙ ap (λ (b : Bool). cond b None (value_at nat_cmp birth numbers)) (apart_births old birth (λ same. not_old (sym same)))

module _ (first : ℕ) where
  -- Where a number and all others are from one on, the smallest is.
  from_whole : (number : ℕ) (others : Option ℕ) → first ≤ number → IfSome others (λ pin. first ≤ pin) → first ≤ smaller number others
  from_whole number None le from = le
  from_whole number (Some least) le from = omega (arith, le, from)

  from_parts : (number : ℕ) (others : Option ℕ) → first ≤ smaller number others → (first ≤ number) × IfSome others (λ pin. first ≤ pin)
  from_parts number None le = (le, tt)
  from_parts number (Some least) le = (omega (arith, le), omega (arith, le))

  from-with_value : (node number : ℕ) (numbers : List (ℕ × ℕ)) → first ≤ number → IfSome (least_pin numbers) (λ pin. first ≤ pin) → IfSome (least_pin (with_value nat_cmp node number numbers)) (λ pin. first ≤ pin)
  from-with_value node number [] le from = le
  from-with_value node number (e ∷ es) le from =
      let parts = from_parts e.1 (least_pin es) from in
      by (nat_cmp node e.0) parts.0 parts.1 (from-with_value node number es le parts.1)
    where
      by : (r : Ordering) → first ≤ e.1 → IfSome (least_pin es) (λ pin. first ≤ pin) → IfSome (least_pin (with_value nat_cmp node number es)) (λ pin. first ≤ pin)
          → IfSome (least_pin (match_ordering r ((node, number) ∷ e ∷ es) ((e.0, number) ∷ es) (e ∷ with_value nat_cmp node number es))) (λ pin. first ≤ pin)
      by Less here behind rest = from_whole number (Some (smaller e.1 (least_pin es))) le from
      by Equal here behind rest = from_whole number (least_pin es) le behind
      by Greater here behind rest = from_whole e.1 (least_pin (with_value nat_cmp node number es)) here rest

  from-without : (node : ℕ) (numbers : List (ℕ × ℕ)) → IfSome (least_pin numbers) (λ pin. first ≤ pin) → IfSome (least_pin (without nat_cmp node numbers)) (λ pin. first ≤ pin)
  from-without node [] from = tt
  from-without node (e ∷ es) from =
      let parts = from_parts e.1 (least_pin es) from in
      by (is_at (nat_cmp node) e.0) parts.0 parts.1 (from-without node es parts.1)
    where
      by : (b : Bool) → first ≤ e.1 → IfSome (least_pin es) (λ pin. first ≤ pin) → IfSome (least_pin (without nat_cmp node es)) (λ pin. first ≤ pin)
          → IfSome (least_pin (cond b es (e ∷ without nat_cmp node es))) (λ pin. first ≤ pin)
      by true here behind rest = behind
      by false here behind rest = from_whole e.1 (least_pin (without nat_cmp node es)) here rest

  -- Where no node pins an entry before one, and the node under its new birth doesn't, none does then.
  pub moved-from : (old fresh : ℕ) (later : Option ℕ) (numbers : List (ℕ × ℕ)) → IfSome later (λ pin. first ≤ pin) → IfSome (least_pin numbers) (λ pin. first ≤ pin)
      → IfSome (least_pin (moved_pin old fresh later numbers)) (λ pin. first ≤ pin)
  moved-from old fresh None numbers le from = from-without fresh (without nat_cmp old numbers) (from-without old numbers from)
  moved-from old fresh (Some number) numbers le from = from-with_value fresh number (without nat_cmp old numbers) le (from-without old numbers from)

-- Once an entry changes nodes, each of them pins it or what it did, if that is older, and any other node what it did.
pub look-pins : (seq birth : ℕ) (births : List ℕ) (numbers : List (ℕ × ℕ))
    → value_at nat_cmp birth (with_pins seq births numbers) ≡ cond (list_any (λ (b : ℕ). b == birth) births) (Some (smaller seq (value_at nat_cmp birth numbers))) (value_at nat_cmp birth numbers)
look-pins seq birth [] numbers = refl
look-pins seq birth (b ∷ births) numbers =
    look-pins seq birth births (with_pin b seq numbers)
    ∙ ap (λ (o : Option ℕ). cond (list_any (λ (x : ℕ). x == birth) births) (Some (smaller seq o)) o) (value_at-with_value nat_cmp_total b (smaller seq (value_at nat_cmp b numbers)) birth numbers)
    ∙ by (b == birth) refl
  where
    once : (o : Option ℕ) → Some (smaller seq (Some (smaller seq o))) ≡ Some (smaller seq o)
    once None = ap Some (omega arith)
    once (Some before) = ap Some (omega arith)

    more : (later : Bool) (o : Option ℕ) → cond later (Some (smaller seq (Some (smaller seq o)))) (Some (smaller seq o)) ≡ Some (smaller seq o)
    more true o = once o
    more false o = refl

    by : (here : Bool) → (b == birth) ≡ here
        → cond (list_any (λ (x : ℕ). x == birth) births) (Some (smaller seq (cond (is_at (nat_cmp b) birth) (Some (smaller seq (value_at nat_cmp b numbers))) (value_at nat_cmp birth numbers))))
        (cond (is_at (nat_cmp b) birth) (Some (smaller seq (value_at nat_cmp b numbers))) (value_at nat_cmp birth numbers))
        ≡ cond (here || list_any (λ (x : ℕ). x == birth) births) (Some (smaller seq (value_at nat_cmp birth numbers))) (value_at nat_cmp birth numbers)
    by true is =
        let same : b ≡ birth = eqb-true b birth is in
        let at : is_at (nat_cmp b) birth ≡ true = ap (λ (x : ℕ). is_at (nat_cmp b) x) (sym same) ∙ birth_itself b in
        ap (λ (t : Bool). cond (list_any (λ (x : ℕ). x == birth) births) (Some (smaller seq (cond t (Some (smaller seq (value_at nat_cmp b numbers))) (value_at nat_cmp birth numbers)))) (cond t (Some (smaller seq (value_at nat_cmp b numbers))) (value_at nat_cmp birth numbers))) at
        ∙ ap (λ (x : ℕ). cond (list_any (λ (y : ℕ). y == birth) births) (Some (smaller seq (Some (smaller seq (value_at nat_cmp x numbers))))) (Some (smaller seq (value_at nat_cmp x numbers)))) same
        ∙ more (list_any (λ (x : ℕ). x == birth) births) (value_at nat_cmp birth numbers)
    by false is =
        ap (λ (t : Bool). cond (list_any (λ (x : ℕ). x == birth) births) (Some (smaller seq (cond t (Some (smaller seq (value_at nat_cmp b numbers))) (value_at nat_cmp birth numbers)))) (cond t (Some (smaller seq (value_at nat_cmp b numbers))) (value_at nat_cmp birth numbers)))
        (apart_births b birth (λ same. absurd (no_both (sym is ∙ eq-eqb b birth same))))
      where
        no_both : false ≡ true → ⊥
        no_both is = true≢false (sym is)
