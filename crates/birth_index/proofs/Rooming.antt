-- Room for births that is taken, used and given back.
use Rattle.std.proofs.Common.{◌≡◌, ℕ, Bool, true, false, cond, Option, Some, None, List, [], ◌∷◌, ◌++◌, refl, sym, ap, ◌∙◌, subst}
use Rattle.std.specs.Prelude.{◌≢◌, ◌==◌, ◌&&◌, ◌||◌, All, Err, IsSome, Ok, OnErr, Result, is_some, not}
use Rattle.std.specs.Result.{is_err}
use Rattle.std.specs.BTreeMap.{is_at}
use Rattle.std.specs.List.{list_any}
use Rattle.std.specs.Option.{option_or}
use Rattle.std.specs.Ordering.{nat_cmp}
use Rattle.std.proofs.lemmas.Bool.{true≢false, eqb-true, eq-eqb}
use Rattle.std.proofs.lemmas.Cmp.{nat_cmp_total}
use Rattle.std.proofs.lemmas.List.Elements.{All-head, All-tail}
use Rattle.std.proofs.lemmas.Map.Lookups.{exact_unsigned}
use Rattle.birth_index.specs.Births.{Index, IsFreeIn, replaced, with_named}
use Rattle.birth_index.specs.NameLaws.{apart_births, birth_itself, one_birth}
use Rattle.birth_index.specs.Rooms.{cleared}
use Rattle.birth_index.specs.declared.name.Named.{Named}
use Rattle.birth_index.specs.declared.name.NodeName.{NodeName}
use Rattle.vol_types.specs.MapLaws.{IsMap-with_value, IsMap-without, same_maps, value_at-with_value, value_at-without}
use Rattle.vol_types.specs.Maps.{IsMap, value_at, with_value, without}

-- the last one is put last
pub with_named-last : (news : List Named) (new : Named) (index : Index) → with_named (news ++ new ∷ []) index ≡ with_value nat_cmp new.birth new.name (with_named news index)
with_named-last [] new index = refl
with_named-last (n ∷ news) new index = with_named-last news new (with_value nat_cmp n.birth n.name index)

-- the name that the last of the new nodes with a birth has
abbrev pub last_named : ℕ → List Named → Option NodeName
last_named q [] = None
last_named q (new ∷ news) = option_or (last_named q news) (cond (is_at (nat_cmp new.birth) q) (Some new.name) None)

grouped : (o : Option NodeName) (b : Bool) (name : NodeName) (rest : Option NodeName) → option_or o (cond b (Some name) rest) ≡ option_or (option_or o (cond b (Some name) None)) rest
grouped None true name rest = refl
grouped None false name rest = refl
grouped (Some n) b name rest = refl

-- what is found once new nodes were put
pub value_at-with_named : (q : ℕ) (news : List Named) (index : Index) → value_at nat_cmp q (with_named news index) ≡ option_or (last_named q news) (value_at nat_cmp q index)
value_at-with_named q [] index = refl
value_at-with_named q (new ∷ news) index =
    value_at-with_named q news (with_value nat_cmp new.birth new.name index)
    ∙ ap (option_or (last_named q news)) (value_at-with_value nat_cmp_total new.birth new.name q index)
    ∙ grouped (last_named q news) (is_at (nat_cmp new.birth) q) new.name (value_at nat_cmp q index)

-- they are a map still
pub IsMap-with_named : (news : List Named) (index : Index) → IsMap nat_cmp index → IsMap nat_cmp (with_named news index)
IsMap-with_named [] index rises = rises
IsMap-with_named (new ∷ news) index rises = IsMap-with_named news (with_value nat_cmp new.birth new.name index) (IsMap-with_value nat_cmp_total new.birth new.name index rises)

some_or : (o rest : Option NodeName) → IsSome rest → IsSome (option_or o rest)
some_or None rest some = some
some_or (Some n) rest some = refl

-- a birth that is there is there still
pub still_there : (gone : ℕ) (news : List Named) (index : Index) → IsSome (value_at nat_cmp gone index) → IsSome (value_at nat_cmp gone (with_named news index))
still_there gone news index some = subst IsSome (sym (value_at-with_named gone news index)) (some_or (last_named gone news) (value_at nat_cmp gone index) some)

-- whether one of the new nodes has the birth
abbrev pub has_birth : ℕ → List Named → Bool
has_birth gone news = list_any (λ new. new.birth == gone) news

no_name : (gone : ℕ) (new : Named) → (new.birth == gone) ≡ false → is_at (nat_cmp new.birth) gone ≡ false
no_name gone new is = apart_births new.birth gone (λ same. true≢false (sym (eq-eqb new.birth gone same) ∙ is))

-- where none has it, none is found for it
none_named : (gone : ℕ) (news : List Named) → has_birth gone news ≡ false → last_named gone news ≡ None
none_named gone [] is = refl
none_named gone (new ∷ news) is = by (new.birth == gone) refl is (none_named gone news)
  where
    by : (b : Bool) → (new.birth == gone) ≡ b → (b || has_birth gone news) ≡ false → (has_birth gone news ≡ false → last_named gone news ≡ None)
        → option_or (last_named gone news) (cond (is_at (nat_cmp new.birth) gone) (Some new.name) None) ≡ None
    by true here none later = absurd (true≢false none)
    by false here none later =
        ap (λ (o : Option NodeName). option_or o (cond (is_at (nat_cmp new.birth) gone) (Some new.name) None)) (later none)
        ∙ ap (λ (b : Bool). cond b (Some new.name) None) (no_name gone new here)

some_last : (o rest : Option NodeName) → IsSome o → IsSome (option_or o rest)
some_last None rest some = absurd (true≢false (sym some))
some_last (Some n) rest some = refl

-- where one has it, one is found for it
some_named : (gone : ℕ) (news : List Named) → has_birth gone news ≡ true → IsSome (last_named gone news)
some_named gone [] is = absurd (true≢false (sym is))
some_named gone (new ∷ news) is = by (new.birth == gone) refl is (some_named gone news)
  where
    by : (b : Bool) → (new.birth == gone) ≡ b → (b || has_birth gone news) ≡ true → (has_birth gone news ≡ true → IsSome (last_named gone news))
        → IsSome (option_or (last_named gone news) (cond (is_at (nat_cmp new.birth) gone) (Some new.name) None))
    by true here some later =
        some_or (last_named gone news) (cond (is_at (nat_cmp new.birth) gone) (Some new.name) None)
        (ap (λ (n : ℕ). is_some (cond (is_at (nat_cmp new.birth) n) (Some new.name) None)) (sym (eqb-true new.birth gone here)) ∙ ap (λ (b : Bool). is_some (cond b (Some new.name) None)) (birth_itself new.birth))
    by false here some later = some_last (last_named gone news) (cond (is_at (nat_cmp new.birth) gone) (Some new.name) None) (later some)

module _ (gone : ℕ) (news : List Named) (before : Index) (rises : IsMap nat_cmp before) where
  found_replaced : (q : ℕ) → value_at nat_cmp q (replaced gone news before) ≡ option_or (last_named q news) (cond (is_at (nat_cmp gone) q) None (value_at nat_cmp q before))
  found_replaced q = value_at-with_named q news (without nat_cmp gone before) ∙ ap (option_or (last_named q news)) (value_at-without nat_cmp_total gone q before rises)

  map_replaced : IsMap nat_cmp (replaced gone news before)
  map_replaced = IsMap-with_named news (without nat_cmp gone before) (IsMap-without nat_cmp_total gone before rises)

  -- where the birth is used again, nothing has to go
  pub replaced-reused : has_birth gone news ≡ true → with_named news before ≡ replaced gone news before
  replaced-reused is =
      same_maps nat_cmp_total exact_unsigned (with_named news before) (replaced gone news before) (IsMap-with_named news before rises) map_replaced
      (λ q. value_at-with_named q news before ∙ by q (is_at (nat_cmp gone) q) refl ∙ sym (found_replaced q))
    where
      either : (o one other : Option NodeName) → IsSome o → option_or o one ≡ option_or o other
      either None one other some = absurd (true≢false (sym some))
      either (Some n) one other some = refl

      by : (q : ℕ) (b : Bool) → is_at (nat_cmp gone) q ≡ b → option_or (last_named q news) (value_at nat_cmp q before) ≡ option_or (last_named q news) (cond b None (value_at nat_cmp q before))
      by q true same = either (last_named q news) (value_at nat_cmp q before) None (subst (λ (n : ℕ). IsSome (last_named n news)) (one_birth gone q same) (some_named gone news is))
      by q false apart = refl

  -- where it isn't, it goes
  pub replaced-removed : has_birth gone news ≡ false → without nat_cmp gone (with_named news before) ≡ replaced gone news before
  replaced-removed is =
      let all = with_named news before in
      let map = IsMap-with_named news before rises in
      same_maps nat_cmp_total exact_unsigned (without nat_cmp gone all) (replaced gone news before) (IsMap-without nat_cmp_total gone all map) map_replaced
      (λ q. value_at-without nat_cmp_total gone q all map ∙ ap (cond (is_at (nat_cmp gone) q) None) (value_at-with_named q news before) ∙ by q (is_at (nat_cmp gone) q) refl ∙ sym (found_replaced q))
    where
      by : (q : ℕ) (b : Bool) → is_at (nat_cmp gone) q ≡ b → cond b None (option_or (last_named q news) (value_at nat_cmp q before)) ≡ option_or (last_named q news) (cond b None (value_at nat_cmp q before))
      by q true same = ap (λ (o : Option NodeName). option_or o None) (sym (none_named gone news is) ∙ ap (λ (n : ℕ). last_named n news) (one_birth gone q same))
      by q false apart = refl

-- whether the birth is one that is cleared
abbrev is_cleared : ℕ → ℕ → List Named → Bool
is_cleared gone q news = list_any (λ new. not (new.birth == gone) && is_at (nat_cmp new.birth) q) news

-- births that were cleared are not found, and the map is one still
found_cleared : (gone q : ℕ) (news : List Named) (index : Index) → IsMap nat_cmp index → value_at nat_cmp q (cleared gone news index) ≡ cond (is_cleared gone q news) None (value_at nat_cmp q index)
found_cleared gone q [] index rises = refl
found_cleared gone q (new ∷ news) index rises = by (new.birth == gone) (found_cleared gone q news)
  where
    both : (one other : Bool) (o : Option NodeName) → cond other None (cond one None o) ≡ cond (one || other) None o
    both true true o = refl
    both true false o = refl
    both false true o = refl
    both false false o = refl

    by : (b : Bool) → ((index : Index) → IsMap nat_cmp index → value_at nat_cmp q (cleared gone news index) ≡ cond (is_cleared gone q news) None (value_at nat_cmp q index))
        → value_at nat_cmp q (cleared gone news (cond b index (without nat_cmp new.birth index))) ≡ cond ((not b && is_at (nat_cmp new.birth) q) || is_cleared gone q news) None (value_at nat_cmp q index)
    by true later = later index rises
    by false later =
        later (without nat_cmp new.birth index) (IsMap-without nat_cmp_total new.birth index rises)
        ∙ ap (cond (is_cleared gone q news) None) (value_at-without nat_cmp_total new.birth q index rises)
        ∙ both (is_at (nat_cmp new.birth) q) (is_cleared gone q news) (value_at nat_cmp q index)

map_cleared : (gone : ℕ) (news : List Named) (index : Index) → IsMap nat_cmp index → IsMap nat_cmp (cleared gone news index)
map_cleared gone [] index rises = rises
map_cleared gone (new ∷ news) index rises = by (new.birth == gone) (map_cleared gone news)
  where
    by : (b : Bool) → ((index : Index) → IsMap nat_cmp index → IsMap nat_cmp (cleared gone news index)) → IsMap nat_cmp (cleared gone news (cond b index (without nat_cmp new.birth index)))
    by true later = later index rises
    by false later = later (without nat_cmp new.birth index) (IsMap-without nat_cmp_total new.birth index rises)

kept_without : (birth q : ℕ) (index : Index) → birth ≢ q → value_at nat_cmp q (without nat_cmp birth index) ≡ value_at nat_cmp q index
kept_without birth q [] apart = refl
kept_without birth q (e ∷ es) apart = by (is_at (nat_cmp birth) e.0) refl (kept_without birth q es apart)
  where
    by : (b : Bool) → is_at (nat_cmp birth) e.0 ≡ b → value_at nat_cmp q (without nat_cmp birth es) ≡ value_at nat_cmp q es → value_at nat_cmp q (cond b es (e ∷ without nat_cmp birth es)) ≡ cond (is_at (nat_cmp q) e.0) (Some e.1) (value_at nat_cmp q es)
    by true same later = ap (λ (b : Bool). cond b (Some e.1) (value_at nat_cmp q es)) (sym (apart_births q e.0 (λ one. apart (one_birth birth e.0 same ∙ sym one))))
    by false other later = ap (cond (is_at (nat_cmp q) e.0) (Some e.1)) later

-- the one that was to go is there still
pub cleared_there : (gone : ℕ) (news : List Named) (index : Index) → IsSome (value_at nat_cmp gone index) → IsSome (value_at nat_cmp gone (cleared gone news index))
cleared_there gone [] index some = some
cleared_there gone (new ∷ news) index some = by (new.birth == gone) refl (cleared_there gone news)
  where
    by : (b : Bool) → (new.birth == gone) ≡ b → ((index : Index) → IsSome (value_at nat_cmp gone index) → IsSome (value_at nat_cmp gone (cleared gone news index))) → IsSome (value_at nat_cmp gone (cleared gone news (cond b index (without nat_cmp new.birth index))))
    by true here later = later index some
    by false here later = later (without nat_cmp new.birth index) (subst IsSome (sym (kept_without new.birth gone index (λ same. true≢false (sym (eq-eqb new.birth gone same) ∙ here)))) some)

module _ (gone : ℕ) (before : Index) where
  -- what was cleared was free
  free_cleared : (q : ℕ) (news : List Named) → All (λ new. IsFreeIn before gone new.birth) news → is_cleared gone q news ≡ true → value_at nat_cmp q before ≡ None
  free_cleared q [] free is = absurd (true≢false (sym is))
  free_cleared q (new ∷ news) free is =
      by (new.birth == gone) (is_at (nat_cmp new.birth) q) refl refl is (free_cleared q news (All-tail (λ (new : Named). IsFreeIn before gone new.birth) new news free))
    where
      by : (b t : Bool) → (new.birth == gone) ≡ b → is_at (nat_cmp new.birth) q ≡ t → ((not b && t) || is_cleared gone q news) ≡ true → (is_cleared gone q news ≡ true → value_at nat_cmp q before ≡ None) → value_at nat_cmp q before ≡ None
      by true t here same some later = later some
      by false true here same some later =
          ap (λ (n : ℕ). value_at nat_cmp n before) (sym (one_birth new.birth q same))
          ∙ All-head (λ (new : Named). IsFreeIn before gone new.birth) new news free (λ one. true≢false (sym (eq-eqb new.birth gone one) ∙ here))
      by false false here same some later = later some

  -- what was not cleared, and isn't the one that was to go, was not put
  kept_cleared : (q : ℕ) (news : List Named) → gone ≢ q → is_cleared gone q news ≡ false → last_named q news ≡ None
  kept_cleared q [] apart is = refl
  kept_cleared q (new ∷ news) apart is =
      by (new.birth == gone) (is_at (nat_cmp new.birth) q) refl refl is (λ none. ap (λ (o : Option NodeName). option_or o None) (kept_cleared q news apart none))
    where
      by : (b t : Bool) → (new.birth == gone) ≡ b → is_at (nat_cmp new.birth) q ≡ t → ((not b && t) || is_cleared gone q news) ≡ false → (is_cleared gone q news ≡ false → option_or (last_named q news) None ≡ None) → option_or (last_named q news) (cond t (Some new.name) None) ≡ None
      by true true here same none later = absurd (apart (sym (eqb-true new.birth gone here) ∙ one_birth new.birth q same))
      by true false here same none later = later none
      by false true here same none later = absurd (true≢false none)
      by false false here same none later = later none

  -- new births that are taken away again leave the index as it was
  pub given_back : (name : NodeName) (news : List Named) → IsMap nat_cmp before → value_at nat_cmp gone before ≡ Some name → All (λ new. IsFreeIn before gone new.birth) news
      → with_value nat_cmp gone name (cleared gone news (with_named news before)) ≡ before
  given_back name news rises there free =
      let all = with_named news before in
      let map = IsMap-with_named news before rises in
      same_maps nat_cmp_total exact_unsigned (with_value nat_cmp gone name (cleared gone news all)) before (IsMap-with_value nat_cmp_total gone name (cleared gone news all) (map_cleared gone news all map)) rises
      (λ q. value_at-with_value nat_cmp_total gone name q (cleared gone news all)
      ∙ ap (cond (is_at (nat_cmp gone) q) (Some name)) (found_cleared gone q news all map ∙ ap (cond (is_cleared gone q news) None) (value_at-with_named q news before))
      ∙ by q (is_at (nat_cmp gone) q) (is_cleared gone q news) refl refl)
    where
      by : (q : ℕ) (b t : Bool) → is_at (nat_cmp gone) q ≡ b → is_cleared gone q news ≡ t → cond b (Some name) (cond t None (option_or (last_named q news) (value_at nat_cmp q before))) ≡ value_at nat_cmp q before
      by q true t same is = sym there ∙ ap (λ (n : ℕ). value_at nat_cmp n before) (one_birth gone q same)
      by q false true apart is = sym (free_cleared q news free is)
      by q false false apart is =
          ap (λ (o : Option NodeName). option_or o (value_at nat_cmp q before)) (kept_cleared q news (λ one. true≢false (sym (ap (is_at (nat_cmp gone)) (sym one) ∙ birth_itself gone) ∙ apart)) is)

-- a put at a birth that is there isn't refused
pub never_refused : {T E : Type 0} (result : Result T E) (there : Option NodeName) → is_err result ≡ true → OnErr result (there ≡ None) → IsSome there → ⊥
never_refused (Ok value) there is absent some = true≢false (sym is)
never_refused (Err error) there is absent some = true≢false (sym some ∙ ap is_some absent)
