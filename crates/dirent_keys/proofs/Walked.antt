-- What a walk from slot to slot has found: whether names show, and how many.
use Rattle.std.proofs.Common.{◌≡◌, ℕ, suc, ◌+◌, ◌<◌, ◌≤◌, ◌^◌, Bool, true, false, cond, not, Option, Some, None, List, [], ◌∷◌, refl, sym, ap, ◌∙◌, subst, arith, length}
use Rattle.std.specs.Prelude.{◌==◌, ◌&&◌, ◌↔◌, IfSome, is_some, nat_lt, All, count_by, sum_by, option_map}
use Rattle.std.specs.BTreeMap.{is_at}
use Rattle.std.specs.List.{filter}
use Rattle.std.specs.List.Sorted.{IsStrictlySortedBy}
use Rattle.std.specs.Map.{keys_of}
use Rattle.std.proofs.lemmas.Bool.{true≢false, eq-eqb, ne_eqb, ltb-true, ltb-false, lt-ltb, le-ltb}
use Rattle.std.proofs.lemmas.Cmp.{nat_list_cmp_total}
use Rattle.std.proofs.lemmas.List.Elements.{All-head}
use Rattle.std.proofs.lemmas.List.Kept.{IsStrictlySortedBy-filter}
use Rattle.std.proofs.lemmas.List.Sums.{length-filter, sum_by-cons}
use Rattle.std.proofs.lemmas.Map.Entries.{lookup-filter-keys}
use Rattle.std.proofs.lemmas.Map.Lookups.{exact_bytes}
use Rattle.std.proofs.lemmas.Option.{none-some as none_some}
use Rattle.dirent_keys.proofs.Behind.{no_links}
use Rattle.dirent_keys.proofs.Bounds.{slot_fits}
use Rattle.dirent_keys.proofs.Counting.{counted, keys_filtered}
use Rattle.dirent_keys.proofs.Listed.{one_name, own_name}
use Rattle.dirent_keys.proofs.Seeing.{may_share}
use Rattle.dirent_keys.proofs.Sounding.{shown_in_range, under_slot}
use Rattle.dirent_keys.specs.Slots.{HasNoSlot, IsBare, IsNextShown, ShowsNone}
use Rattle.dirent_keys.specs.declared.slots.ShownSlot.{ShownSlot}
use Rattle.key_meaning.specs.Checks.{AreNamesJoined, IsLiveLeaf, IsNameJoined}
use Rattle.key_meaning.specs.Forest.{link_named, links_in, names_in, number_in}
use Rattle.key_meaning.specs.ForestLaws.{name_at, names_rise}
use Rattle.key_meaning.specs.Tidy.{AreKeysDrawn}
use Rattle.key_meaning.specs.Visible.{visible}
use Rattle.plain_forest.specs.Forest.{Names}
use Rattle.plain_forest.specs.Steps.{count_in_slot}
use Rattle.vol_digest.specs.Digests.{slot_of}
use Rattle.vol_types.specs.KeyMaps.{KeyMap}
use Rattle.vol_types.specs.MapLaws.{same_maps}
use Rattle.vol_types.specs.Maps.{IsMap, value_at}
use Rattle.vol_types.specs.Ranges.{name_cmp}
use Rattle.vol_types.specs.Rising.{sorted-from_Rise}
use Rattle.vol_types.specs.declared.positions.Btree.TheVariants.{Dirents}
use Rattle.vol_types.specs.declared.values.Link.{Link}

-- a list without members is the empty one
empty_is : (links : List Link) → length links ≡ 0 → links ≡ []
empty_is [] none = refl
empty_is (link ∷ links) none = absurd (omega (arith, none))

module _ (keys : KeyMap) (id directory : ℕ) where
  -- No name shows where no id has a key,
  pub none_behind : (from end : ℕ) → HasNoSlot keys directory from None → ShowsNone keys id directory from end
  none_behind from end none slot le lt = no_links keys id directory slot (λ owner. none slot owner le)

  pub none_between : (from next : ℕ) → HasNoSlot keys directory from (Some next) → ShowsNone keys id directory from next
  none_between from next none slot le lt = no_links keys id directory slot (λ owner. none slot owner le lt)

  -- none in two parts one after the other,
  pub none_then : (from middle end : ℕ) → ShowsNone keys id directory from middle → ShowsNone keys id directory middle end → ShowsNone keys id directory from end
  none_then from middle end one two slot le lt = by (nat_lt slot middle) refl
    where
      by : (b : Bool) → nat_lt slot middle ≡ b → links_in keys id directory slot ≡ []
      by true below = one slot le (ltb-true slot middle below)
      by false above = two slot (ltb-false slot middle above) lt

  -- and none under a slot that has none.
  pub none_here : (slot count end : ℕ) → count ≡ length (links_in keys id directory slot) → count ≤ 0 → end ≤ suc slot → ShowsNone keys id directory slot end
  none_here slot count end counts none last other le lt =
      let same : slot ≡ other = omega (arith, le, lt, last) in
      subst (λ n. links_in keys id directory n ≡ []) same (empty_is (links_in keys id directory slot) (omega (arith, counts, none)))

  -- A directory is bare where no next slot has names.
  pub bare_is : (shown : Option ShownSlot) (result : Bool) → is_some shown ≡ not result → IsNextShown keys id directory 0 shown → IfSome shown (λ slot. 0 < slot.count) → IfSome shown (λ slot. slot.slot < 2 ^ 64)
      → (result ≡ true) ↔ IsBare keys id directory
  bare_is None true is next some fits = (λ _ slot lt. next slot (omega arith) lt, λ _. refl)
  bare_is None false is next some fits = absurd (true≢false (sym is))
  bare_is (Some shown) true is next some fits = absurd (true≢false is)
  bare_is (Some shown) false is next some fits = (λ same. absurd (true≢false (sym same)), λ bare. absurd (let none = ap length (bare shown.slot fits) in let count = next.count in omega (arith, some, count, none)))

  abbrev names : Names
  names = names_in keys id directory

  nothing_found : (p : List ℕ → Bool) → ((name : List ℕ) → p name ≡ true → links_in keys id directory (slot_of name) ≡ []) → (name : List ℕ) → value_at name_cmp name (filter (λ (e : List ℕ × ℕ). p e.0) names) ≡ None
  nothing_found p none name =
      lookup-filter-keys (is_at (name_cmp name)) p (p name) (λ k found. ap p (sym (one_name name k found))) names
      ∙ ap (λ o. cond (p name) o None) (name_at keys id directory name)
      ∙ by (p name) refl
    where
      by : (b : Bool) → p name ≡ b → cond b (number_in keys id directory name) None ≡ None
      by true is = ap (λ (links : List Link). option_map (λ (l : Link). l.number) (link_named name links)) (none name is)
      by false is = refl

  abbrev nobody : Names
  nobody = []

  no_names : IsMap name_cmp nobody
  no_names = sorted-from_Rise name_cmp nat_list_cmp_total [] tt

  -- Names that show nowhere are none of the directory's.
  none_of : (p : List ℕ → Bool) → ((name : List ℕ) → p name ≡ true → links_in keys id directory (slot_of name) ≡ []) → filter (λ (e : List ℕ × ℕ). p e.0) names ≡ []
  none_of p none =
      same_maps nat_list_cmp_total exact_bytes (filter (λ (e : List ℕ × ℕ). p e.0) names) nobody
      (subst (IsStrictlySortedBy name_cmp) (sym (keys_filtered p names)) (IsStrictlySortedBy-filter name_cmp p (keys_of names) (names_rise keys id directory))) no_names
      (nothing_found p none)

  -- how many names of the directory stand under slots below a number
  abbrev pub below : ℕ → ℕ
  below from = count_by (λ (e : List ℕ × ℕ). nat_lt (slot_of e.0) from) names

  swapped : (a b c d : ℕ) → (a + b) + (c + d) ≡ (a + c) + (b + d)
  swapped a b c d = omega arith

  -- A count over two tests that exclude each other is the sum of both.
  sum_both : (f g h : List ℕ × ℕ → ℕ) → ((e : List ℕ × ℕ) → f e ≡ g e + h e) → (es : Names) → sum_by f es ≡ sum_by g es + sum_by h es
  sum_both f g h each [] = refl
  sum_both f g h each (e ∷ es) =
      sum_by-cons f e es ∙ (λ i. each e i + sum_both f g h each es i) ∙ swapped (g e) (h e) (sum_by g es) (sum_by h es)
      ∙ sym (λ i. sum_by-cons g e es i + sum_by-cons h e es i)

  -- No name stands under a slot below 0.
  pub below_first : 0 ≡ below 0
  below_first =
      sym (ap length (none_of (λ n. nat_lt (slot_of n) 0) (λ name lt. absurd (let low = ltb-true (slot_of name) 0 lt in omega (arith, low)))))
      ∙ length-filter (λ (e : List ℕ × ℕ). nat_lt (slot_of e.0) 0) names

  none_more : (n : ℕ) → n + 0 ≡ n
  none_more n = omega arith

  -- Where none shows between two numbers, as many stand below the one as below the other.
  pub below_none : (from end : ℕ) → from ≤ end → ShowsNone keys id directory from end → below end ≡ below from
  below_none from end le none =
      sum_both (λ e. cond {A = ℕ} (nat_lt (slot_of e.0) end) 1 0) (λ e. cond {A = ℕ} (nat_lt (slot_of e.0) from) 1 0) (λ e. cond {A = ℕ} (not (nat_lt (slot_of e.0) from) && nat_lt (slot_of e.0) end) 1 0) (λ e. parts (slot_of e.0)) names
      ∙ ap (λ n. below from + n) (sym (length-filter (λ (e : List ℕ × ℕ). not (nat_lt (slot_of e.0) from) && nat_lt (slot_of e.0) end) names) ∙ ap length (none_of (λ n. not (nat_lt (slot_of n) from) && nat_lt (slot_of n) end) between))
      ∙ none_more (below from)
    where
      inside : (s : ℕ) (b c : Bool) → nat_lt s from ≡ b → nat_lt s end ≡ c → (not b && c) ≡ true → links_in keys id directory s ≡ []
      inside s true c low high is = absurd (true≢false (sym is))
      inside s false true low high is = none s (ltb-false s from low) (ltb-true s end high)
      inside s false false low high is = absurd (true≢false (sym is))

      between : (name : List ℕ) → (not (nat_lt (slot_of name) from) && nat_lt (slot_of name) end) ≡ true → links_in keys id directory (slot_of name) ≡ []
      between name is = inside (slot_of name) (nat_lt (slot_of name) from) (nat_lt (slot_of name) end) refl refl is

      each : (s : ℕ) (b c : Bool) → nat_lt s from ≡ b → nat_lt s end ≡ c → cond {A = ℕ} c 1 0 ≡ cond {A = ℕ} b 1 0 + cond {A = ℕ} (not b && c) 1 0
      each s true true low high = refl
      each s true false low high = absurd (let lt = ltb-true s from low in let ge = ltb-false s end high in omega (arith, lt, ge, le))
      each s false true low high = refl
      each s false false low high = refl

      parts : (s : ℕ) → cond {A = ℕ} (nat_lt s end) 1 0 ≡ cond {A = ℕ} (nat_lt s from) 1 0 + cond {A = ℕ} (not (nat_lt s from) && nat_lt s end) 1 0
      parts s = each s (nat_lt s from) (nat_lt s end) refl refl

  -- Below the number behind a slot stand those below it and its own.
  pub below_next : (slot : ℕ) → below (suc slot) ≡ below slot + count_in_slot slot names
  below_next slot = sum_both (λ e. cond {A = ℕ} (nat_lt (slot_of e.0) (suc slot)) 1 0) (λ e. cond {A = ℕ} (nat_lt (slot_of e.0) slot) 1 0) (λ e. cond {A = ℕ} (slot_of e.0 == slot) 1 0) (λ e. parts (slot_of e.0)) names
    where
      with_tests : (s : ℕ) (a b c : Bool) → nat_lt s (suc slot) ≡ a → nat_lt s slot ≡ b → (s == slot) ≡ c → cond {A = ℕ} a 1 0 ≡ cond {A = ℕ} b 1 0 + cond {A = ℕ} c 1 0
          → cond {A = ℕ} (nat_lt s (suc slot)) 1 0 ≡ cond {A = ℕ} (nat_lt s slot) 1 0 + cond {A = ℕ} (s == slot) 1 0
      with_tests s a b c first second third holds = (λ i. cond {A = ℕ} (first i) 1 0) ∙ holds ∙ sym (λ i. cond {A = ℕ} (second i) 1 0 + cond {A = ℕ} (third i) 1 0)

      parts : (s : ℕ) → cond {A = ℕ} (nat_lt s (suc slot)) 1 0 ≡ cond {A = ℕ} (nat_lt s slot) 1 0 + cond {A = ℕ} (s == slot) 1 0
      parts s = by (nat_lt s slot) refl (nat_lt slot s) refl
        where
          by : (b : Bool) → nat_lt s slot ≡ b → (c : Bool) → nat_lt slot s ≡ c → cond {A = ℕ} (nat_lt s (suc slot)) 1 0 ≡ cond {A = ℕ} (nat_lt s slot) 1 0 + cond {A = ℕ} (s == slot) 1 0
          by true low c up = let lt = ltb-true s slot low in with_tests s true true false (lt-ltb s (suc slot) (omega (arith, lt))) low (ne_eqb s slot (λ same. omega (arith, lt, same))) refl
          by false low true up = let lt = ltb-true slot s up in with_tests s false false false (le-ltb s (suc slot) (omega (arith, lt))) low (ne_eqb s slot (λ same. omega (arith, lt, same))) refl
          by false low false up =
              let one = ltb-false s slot low in let two = ltb-false slot s up in
              let same : s ≡ slot = omega (arith, one, two) in with_tests s true false true (lt-ltb s (suc slot) (omega (arith, same))) low (eq-eqb s slot same) refl

  one_more : (n : ℕ) → 1 + n ≡ suc n
  one_more n = omega arith

  -- All names stand under slots of 64 bits.
  pub below_all : (end : ℕ) → 2 ^ 64 ≤ end → below end ≡ length names
  below_all end le = over names
    where
      over : (es : Names) → count_by (λ (e : List ℕ × ℕ). nat_lt (slot_of e.0) end) es ≡ length es
      over [] = refl
      over (e ∷ es) =
          sum_by-cons (λ (other : List ℕ × ℕ). cond {A = ℕ} (nat_lt (slot_of other.0) end) 1 0) e es
          ∙ (λ i. cond {A = ℕ} (lt-ltb (slot_of e.0) end (let fits = slot_fits e.0 in omega (arith, fits, le)) i) 1 0 + over es i)
          ∙ one_more (length es)

  module _ (joined : AreNamesJoined keys) (live : IsLiveLeaf keys id) where
    -- A bare directory has no names,
    pub bare_has_none : IsBare keys id directory → names ≡ []
    bare_has_none bare = same_maps nat_list_cmp_total exact_bytes names nobody (names_rise keys id directory) no_names
        (λ name. name_at keys id directory name ∙ ap (λ (links : List Link). option_map (λ (l : Link). l.number) (link_named name links)) (bare (slot_of name) (let fits = slot_fits name in omega (arith, fits))))

    -- and one without names is bare.
    pub none_is_bare : names ≡ [] → IsBare keys id directory
    none_is_bare none slot lt = by (links_in keys id directory slot) refl
      where
        by : (links : List Link) → links_in keys id directory slot ≡ links → links ≡ []
        by [] is = refl
        by (link ∷ links) is =
            let under : slot_of link.name ≡ slot = (first link links (subst (All (IsNameJoined keys id directory slot)) is (joined.each id directory slot live))).under_slot in
            absurd (none_some link.number
            (sym (ap (value_at name_cmp link.name) none) ∙ name_at keys id directory link.name
            ∙ ap (λ s. option_map (λ (l : Link). l.number) (link_named link.name (links_in keys id directory s))) under
            ∙ ap (λ (ls : List Link). option_map (λ (l : Link). l.number) (link_named link.name ls)) is
            ∙ ap (λ b. option_map (λ (l : Link). l.number) (cond b (Some link) (link_named link.name links))) (own_name link.name)))
          where
            first : (l : Link) (ls : List Link) → All (IsNameJoined keys id directory slot) (l ∷ ls) → IsNameJoined keys id directory slot l
            first l ls all = All-head (IsNameJoined keys id directory slot) l ls all

    module _ (drawn : AreKeysDrawn keys) where
      -- The names of the next slot are counted besides.
      pub counted_next : (from slot next count more sum : ℕ) → sum ≡ count + more → next ≡ suc slot → count ≡ below from → from ≤ slot → ShowsNone keys id directory from slot → more ≡ length (links_in keys id directory slot)
          → sum ≡ below next
      counted_next from slot next count more sum both after so_far le none is =
          let here = counted keys id directory slot (may_share (visible keys Dirents directory slot id) (shown_in_range keys drawn Dirents directory slot id)).rise (under_slot keys id directory slot (links_in keys id directory slot) (joined.each id directory slot live)) in
          both ∙ (λ i. (so_far ∙ sym (below_none from slot le none)) i + (is ∙ sym here) i) ∙ sym (below_next slot) ∙ ap below (sym after)

  -- Where no more names show, all are counted.
  pub counted_all : (from count : ℕ) → count ≡ below from → ShowsNone keys id directory from (2 ^ 64) → count ≡ length names
  counted_all from count so_far none = so_far ∙ by (nat_lt (2 ^ 64) from) refl
    where
      by : (b : Bool) → nat_lt (2 ^ 64) from ≡ b → below from ≡ length names
      by true past = below_all from (let lt = ltb-true (2 ^ 64) from past in omega (arith, lt))
      by false within = sym (below_none from (2 ^ 64) (ltb-false (2 ^ 64) from within) none) ∙ below_all (2 ^ 64) (omega arith)
