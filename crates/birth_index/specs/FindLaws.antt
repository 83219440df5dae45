-- What one change of an entry makes of an index.
use Rattle.std.proofs.Common.{◌≡◌, ℕ, Bool, true, false, cond, Option, Some, None, refl, sym, ap, ◌∙◌}
use Rattle.std.specs.BTreeMap.{is_at}
use Rattle.std.specs.Ordering.{nat_cmp}
use Rattle.std.proofs.lemmas.Bool.{true≢false}
use Rattle.std.proofs.lemmas.Cmp.{nat_cmp_total}
use Rattle.std.proofs.lemmas.Option.{none-some as none_some, same_Some}
use Rattle.birth_index.specs.Births.{Finds, Index, IsFreeIn}
use Rattle.birth_index.specs.NameLaws.{birth_itself, names_apart, one_birth, one_name, same_itself, same_name}
use Rattle.birth_index.specs.declared.name.NodeName.{NodeName}
use Rattle.vol_types.specs.MapLaws.{IsMap-with_value, IsMap-without, value_at-with_value, value_at-without}
use Rattle.vol_types.specs.Maps.{value_at, with_value, without}

-- births of names with one more
abbrev pub put_birth : NodeName → ℕ → (NodeName → Option ℕ) → NodeName → Option ℕ
put_birth name birth births other = cond (same_name name other) (Some birth) (births other)

-- births of names without one
abbrev pub drop_birth : NodeName → (NodeName → Option ℕ) → NodeName → Option ℕ
drop_birth name births other = cond (same_name name other) None (births other)

-- An index finds what is alike for each name.
pub Finds-alike : (index : Index) (births others : NodeName → Option ℕ) → Finds index births → ((name : NodeName) → births name ≡ others name) → Finds index others
Finds-alike index births others is same = record {
  rises = is.rises;
  leads = λ birth name at. sym (same name) ∙ is.leads birth name at;
  found = λ birth name has. is.found birth name (same name ∙ has);
}

-- Names that an index finds under one birth are one.
pub Finds-once : (index : Index) (births : NodeName → Option ℕ) (one other : NodeName) (birth : ℕ) → Finds index births → births one ≡ Some birth → births other ≡ Some birth → one ≡ other
Finds-once index births one other birth is has other_has = same_Some one other (sym (is.found birth one has) ∙ is.found birth other other_has)

module _ (index : Index) (births : NodeName → Option ℕ) (name : NodeName) (is : Finds index births) where
  -- An index without the birth of a node finds all others.
  pub Finds-without : (gone : ℕ) → births name ≡ Some gone → Finds (without nat_cmp gone index) (drop_birth name births)
  Finds-without gone has = record {
    rises = IsMap-without nat_cmp_total gone index is.rises;
    leads = λ birth other at. leads birth other (is_at (nat_cmp gone) birth) refl (sym (value_at-without nat_cmp_total gone birth index is.rises) ∙ at);
    found = λ birth other there. value_at-without nat_cmp_total gone birth index is.rises ∙ found birth other (same_name name other) refl there (is_at (nat_cmp gone) birth) refl;
  }
    where
      kept : (birth : ℕ) (other : NodeName) → is_at (nat_cmp gone) birth ≡ false → births other ≡ Some birth → (b : Bool) → same_name name other ≡ b → cond b None (births other) ≡ Some birth
      kept birth other apart at true same =
          let here = sym has ∙ ap births (one_name name other same) ∙ at in
          absurd (true≢false (sym (ap (is_at (nat_cmp gone)) (sym (same_Some gone birth here)) ∙ birth_itself gone) ∙ apart))
      kept birth other apart at false same = at

      leads : (birth : ℕ) (other : NodeName) (b : Bool) → is_at (nat_cmp gone) birth ≡ b → cond b None (value_at nat_cmp birth index) ≡ Some other → drop_birth name births other ≡ Some birth
      leads birth other true same at = absurd (none_some other at)
      leads birth other false same at = kept birth other same (is.leads birth other at) (same_name name other) refl

      found : (birth : ℕ) (other : NodeName) (b : Bool) → same_name name other ≡ b → cond b None (births other) ≡ Some birth → (t : Bool) → is_at (nat_cmp gone) birth ≡ t → cond t None (value_at nat_cmp birth index) ≡ Some other
      found birth other true same there t at = absurd (none_some birth there)
      found birth other false same there true at =
          let here : births other ≡ Some gone = there ∙ ap Some (sym (one_birth gone birth at)) in
          absurd (names_apart name other same (Finds-once index births name other gone is has here))
      found birth other false same there false at = is.found birth other there

  -- An index with the birth of a new node finds it and all others.
  pub Finds-with : (birth : ℕ) → births name ≡ None → value_at nat_cmp birth index ≡ None → Finds (with_value nat_cmp birth name index) (put_birth name birth births)
  Finds-with birth new free = record {
    rises = IsMap-with_value nat_cmp_total birth name index is.rises;
    leads = λ at other there. leads at other (is_at (nat_cmp birth) at) refl (sym (value_at-with_value nat_cmp_total birth name at index) ∙ there);
    found = λ at other has. value_at-with_value nat_cmp_total birth name at index ∙ found at other (same_name name other) refl has;
  }
    where
      kept : (at : ℕ) (other : NodeName) → births other ≡ Some at → (b : Bool) → same_name name other ≡ b → cond b (Some birth) (births other) ≡ Some at
      kept at other has true same = absurd (none_some at (sym new ∙ ap births (one_name name other same) ∙ has))
      kept at other has false same = has

      leads : (at : ℕ) (other : NodeName) (b : Bool) → is_at (nat_cmp birth) at ≡ b → cond b (Some name) (value_at nat_cmp at index) ≡ Some other → put_birth name birth births other ≡ Some at
      leads at other true same there =
          let one = same_Some name other there in
          ap (put_birth name birth births) (sym one) ∙ ap (λ (b : Bool). cond b (Some birth) (births name)) (same_itself name) ∙ ap Some (one_birth birth at same)
      leads at other false same there = kept at other (is.leads at other there) (same_name name other) refl

      still : (at : ℕ) (other : NodeName) → value_at nat_cmp at index ≡ Some other → (t : Bool) → is_at (nat_cmp birth) at ≡ t → cond t (Some name) (value_at nat_cmp at index) ≡ Some other
      still at other there true same = absurd (none_some other (sym free ∙ ap (λ (n : ℕ). value_at nat_cmp n index) (one_birth birth at same) ∙ there))
      still at other there false same = there

      found : (at : ℕ) (other : NodeName) (b : Bool) → same_name name other ≡ b → cond b (Some birth) (births other) ≡ Some at → cond (is_at (nat_cmp birth) at) (Some name) (value_at nat_cmp at index) ≡ Some other
      found at other true same has =
          let one = same_Some birth at has in
          ap (λ (n : ℕ). cond (is_at (nat_cmp birth) n) (Some name) (value_at nat_cmp n index)) (sym one)
          ∙ ap (λ (b : Bool). cond b (Some name) (value_at nat_cmp birth index)) (birth_itself birth) ∙ ap Some (one_name name other same)
      found at other false same has = still at other (is.found at other has) (is_at (nat_cmp birth) at) refl

  module _ (gone : ℕ) (has : births name ≡ Some gone) (birth : ℕ) (free : (other : NodeName) → births other ≡ Some birth → other ≡ name) where
    -- A birth that no other node has is not in the index, unless it is the one that goes.
    pub free_in : IsFreeIn index gone birth
    free_in apart = by (value_at nat_cmp birth index) refl
      where
        by : (o : Option NodeName) → value_at nat_cmp birth index ≡ o → o ≡ None
        by None at = refl
        by (Some other) at = let there = is.leads birth other at in absurd (apart (same_Some birth gone (sym there ∙ ap births (free other there) ∙ has)))

    -- Without the one that goes it is not there.
    pub free_without : value_at nat_cmp birth (without nat_cmp gone index) ≡ None
    free_without = value_at-without nat_cmp_total gone birth index is.rises ∙ by (is_at (nat_cmp gone) birth) refl
      where
        by : (b : Bool) → is_at (nat_cmp gone) birth ≡ b → cond b None (value_at nat_cmp birth index) ≡ None
        by true same = refl
        by false apart = free_in (λ one. true≢false (sym (ap (is_at (nat_cmp gone)) one ∙ birth_itself gone) ∙ apart))
