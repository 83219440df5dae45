-- The births of the levels of a btree, and of btrees, that come to an index one by one.
use Rattle.std.proofs.Common.{◌≡◌, ℕ, ◌+◌, ◌<◌, ◌≤◌, Bool, true, false, cond, Option, Some, None, List, [], get_or, length, refl, sym, ap, ◌∙◌, subst, ⊎_elim, arith}
use Rattle.std.specs.Prelude.{◌≢◌, ◌==◌, ◌&&◌, slice_get, slice_index_or, take}
use Rattle.std.specs.List.Sorted.{IsStrictlySortedBy}
use Rattle.std.specs.Ordering.{nat_cmp}
use Rattle.std.proofs.lemmas.Bool.{true≢false, and_parts, cases_lt, eqb-true, eq-eqb}
use Rattle.std.proofs.lemmas.List.{get_or-take, get_or_past, length-take, take_all}
use Rattle.std.proofs.lemmas.Option.{none-some as none_some, get_or_from_slice_get, slice_get_read}
use Rattle.birth_index.specs.Births.{Finds, HasCause, Index, birth_of, levels_of}
use Rattle.birth_index.specs.FindLaws.{Finds-alike}
use Rattle.birth_index.specs.NameLaws.{code-below}
use Rattle.birth_index.specs.Parts.{HasNoLevel, HasNoTree, birth_at, with_level, with_tree}
use Rattle.birth_index.specs.declared.making.IndexFault.{IndexFault}
use Rattle.birth_index.specs.declared.name.NodeName.{NodeName}
use Rattle.birth_index.proofs.Adding.{told_more}
use Rattle.tree_nodes.specs.Levels.{Level, Levels, level_of}
use Rattle.vol_types.specs.Btrees.{btree_code}
use Rattle.vol_types.specs.Maps.{IsMap, value_at}
use Rattle.vol_types.specs.declared.positions.Btree.{Btree}

-- past a front there is nothing
past_front : {X : Type 0} (xs : List X) (d : X) (n k : ℕ) → n ≤ k → get_or (take n xs) k d ≡ d
past_front xs d n k le = get_or_past (take n xs) k d (omega (arith, le, length-take n xs))

-- a longer front has the same at each other place
taken_step : {X : Type 0} (xs : List X) (d : X) (n k : ℕ) → k ≢ n → get_or (take n xs) k d ≡ get_or (take (n + 1) xs) k d
taken_step xs d n k apart =
    ⊎_elim
    (λ lt. get_or-take n xs k d lt ∙ sym (get_or-take (n + 1) xs k d (omega (arith, lt))))
    (λ ge. past_front xs d n k ge ∙ sym (past_front xs d (n + 1) k (omega (arith, ge, apart))))
    (cases_lt k n)

differ : (one other : ℕ) → (one == other) ≡ false → other ≢ one
differ one other is same = true≢false (sym (eq-eqb one other (sym same)) ∙ is)

module _ (btree : Btree) (levels : Levels) (births : NodeName → Option ℕ) where
  -- the births of the first levels, with those of the next
  level_more : (n : ℕ) (name : NodeName) → with_level btree n (level_of levels n) (with_tree btree (take n levels) births) name ≡ with_tree btree (take (n + 1) levels) births name
  level_more n name = by (btree_code btree == btree_code name.btree) (n == name.level) refl
    where
      by : (b t : Bool) → (n == name.level) ≡ t
          → cond (b && t) (birth_at (level_of levels n) name.greatest) (cond b (birth_at (level_of (take n levels) name.level) name.greatest) (births name)) ≡ cond b (birth_at (level_of (take (n + 1) levels) name.level) name.greatest) (births name)
      by true true is =
          let same = eqb-true n name.level is in
          ap (λ (k : ℕ). birth_at (level_of levels k) name.greatest) same
          ∙ ap (λ (nodes : Level). birth_at nodes name.greatest) (sym (get_or-take (n + 1) levels name.level [] (omega (arith, same))))
      by true false is = ap (λ (nodes : Level). birth_at nodes name.greatest) (taken_step levels [] n name.level (differ n name.level is))
      by false t is = refl

  -- none of the next level is among the first
  level_none : (n : ℕ) → HasNoLevel btree n (with_tree btree (take n levels) births)
  level_none n name is =
      let parts = and_parts (btree_code btree == btree_code name.btree) (n == name.level) is in
      let same = eqb-true n name.level parts.1 in
      ap (λ (b : Bool). cond b (birth_at (level_of (take n levels) name.level) name.greatest) (births name)) parts.0
      ∙ ap (λ (nodes : Level). birth_at nodes name.greatest) (past_front levels [] n name.level (omega (arith, same)))

  -- births of the first levels are births of all
  level_among : (n : ℕ) (name : NodeName) (birth : ℕ) → with_tree btree (take n levels) births name ≡ Some birth → with_tree btree levels births name ≡ Some birth
  level_among n name birth has = by (btree_code btree == btree_code name.btree) has
    where
      by : (b : Bool) → cond b (birth_at (level_of (take n levels) name.level) name.greatest) (births name) ≡ Some birth → cond b (birth_at (level_of levels name.level) name.greatest) (births name) ≡ Some birth
      by true is =
          ⊎_elim
          (λ lt. ap (λ (nodes : Level). birth_at nodes name.greatest) (sym (get_or-take n levels name.level [] lt)) ∙ is)
          (λ ge. absurd (none_some birth (ap (λ (nodes : Level). birth_at nodes name.greatest) (sym (past_front levels [] n name.level ge)) ∙ is)))
          (cases_lt name.level n)
      by false is = is

-- The births of the first levels of a btree came to the index.
pub record IsGrowing (old names : Index) (btree : Btree) (levels : Levels) (n : ℕ) : Type 0 where
  pub finds : (births : NodeName → Option ℕ) → Finds old births → HasNoTree btree births → Finds names (with_tree btree (take n levels) births)

-- before the first
pub growing_none : (old : Index) (btree : Btree) (levels : Levels) → IsGrowing old old btree levels 0
growing_none old btree levels = record {
  finds = λ births is none. Finds-alike old births (with_tree btree (take 0 levels) births) is (λ name. by births none name (btree_code btree == btree_code name.btree) refl);
}
  where
    by : (births : NodeName → Option ℕ) → HasNoTree btree births → (name : NodeName) (b : Bool) → (btree_code btree == btree_code name.btree) ≡ b
        → births name ≡ cond b (birth_at (level_of (take 0 levels) name.level) name.greatest) (births name)
    by births none name true is = none name is ∙ ap (λ (nodes : Level). birth_at nodes name.greatest) (sym (past_front levels [] 0 name.level (omega arith)))
    by births none name false is = refl

module _ (old names : Index) (btree : Btree) (levels : Levels) (n : ℕ) (growing : IsGrowing old names btree levels n) (nodes : Level) (here : slice_get levels n ≡ Some nodes) where
  is_level : nodes ≡ level_of levels n
  is_level = sym (get_or_from_slice_get levels n nodes [] here)

  -- one level more came
  pub growing_more : (new : Index) → ((births : NodeName → Option ℕ) → Finds names births → HasNoLevel btree n births → Finds new (with_level btree n nodes births)) → IsGrowing old new btree levels (n + 1)
  growing_more new added = record {
    finds = λ births is none.
        Finds-alike new (with_level btree n nodes (with_tree btree (take n levels) births)) (with_tree btree (take (n + 1) levels) births)
        (added (with_tree btree (take n levels) births) (growing.finds births is none) (level_none btree levels births n))
        (λ name. ap (λ (es : Level). with_level btree n es (with_tree btree (take n levels) births) name) is_level ∙ level_more btree levels births n name);
  }

  -- and one that was refused has a birth twice
  pub growing_refused : (fault : IndexFault) → ((births : NodeName → Option ℕ) → Finds names births → HasNoLevel btree n births → HasCause (with_level btree n nodes births) fault)
      → (births : NodeName → Option ℕ) → Finds old births → HasNoTree btree births → HasCause (with_tree btree levels births) fault
  growing_refused fault told births is none =
      told_more (with_level btree n nodes (with_tree btree (take n levels) births)) (with_tree btree levels births) fault
      (λ name birth has.
      level_among btree levels births (n + 1) name birth
      (sym (ap (λ (es : Level). with_level btree n es (with_tree btree (take n levels) births) name) is_level ∙ level_more btree levels births n name) ∙ has))
      (told (with_tree btree (take n levels) births) (growing.finds births is none) (level_none btree levels births n))

-- with the last all came
pub growing_all : (old names : Index) (btree : Btree) (levels : Levels) (n : ℕ) → IsGrowing old names btree levels n → length levels ≤ n → (births : NodeName → Option ℕ) → Finds old births → HasNoTree btree births → Finds names (with_tree btree levels births)
growing_all old names btree levels n growing le births is none =
    Finds-alike names (with_tree btree (take n levels) births) (with_tree btree levels births) (growing.finds births is none) (λ name. ap (λ (ls : Levels). with_tree btree ls births name) (take_all n levels le))

-- no node is among no levels
no_node : (levels : Levels) (name : NodeName) → levels ≡ [] → birth_at (level_of levels name.level) name.greatest ≡ None
no_node levels name none = ap (λ (ls : Levels). birth_at (level_of ls name.level) name.greatest) none ∙ ap (λ (nodes : Level). birth_at nodes name.greatest) (get_or_past [] name.level [] (omega arith))

-- before the first btree there are no births
pub births_none : (names : Index) (nodes : List Levels) → names ≡ [] → Finds names (birth_of (take 0 nodes))
unfolding IsStrictlySortedBy
births_none names nodes none = record {
  rises = subst (IsMap nat_cmp) (sym none) tt;
  leads = λ birth name at. absurd (none_some name (ap (value_at nat_cmp birth) (sym none) ∙ at));
  found = λ birth name has. absurd (none_some birth (sym (no_node (levels_of (take 0 nodes) name.btree) name (past_front nodes [] 0 (btree_code name.btree) (omega arith))) ∙ has));
}

module _ (nodes : List Levels) (btree : Btree) (n : ℕ) (code : btree_code btree ≡ n) where
  -- the births of the first btrees, with those of the next
  tree_more : (levels : Levels) → slice_get nodes n ≡ Some levels → (name : NodeName) → with_tree btree levels (birth_of (take n nodes)) name ≡ birth_of (take (n + 1) nodes) name
  tree_more levels here name = by (btree_code btree == btree_code name.btree) refl
    where
      by : (b : Bool) → (btree_code btree == btree_code name.btree) ≡ b
          → cond b (birth_at (level_of levels name.level) name.greatest) (birth_of (take n nodes) name) ≡ birth_of (take (n + 1) nodes) name
      by true is =
          let same = sym code ∙ eqb-true (btree_code btree) (btree_code name.btree) is in
          ap (λ (ls : Levels). birth_at (level_of ls name.level) name.greatest)
          (sym (get_or_from_slice_get nodes n levels [] here) ∙ ap (λ (k : ℕ). slice_index_or nodes k []) same ∙ sym (get_or-take (n + 1) nodes (btree_code name.btree) [] (omega (arith, same))))
      by false is =
          ap (λ (ls : Levels). birth_at (level_of ls name.level) name.greatest)
          (taken_step nodes [] n (btree_code name.btree) (λ same. differ (btree_code btree) (btree_code name.btree) is (same ∙ sym code)))

  -- none of the next btree is among the first
  pub tree_none : HasNoTree btree (birth_of (take n nodes))
  tree_none name is =
      let same = sym code ∙ eqb-true (btree_code btree) (btree_code name.btree) is in
      no_node (levels_of (take n nodes) name.btree) name (past_front nodes [] n (btree_code name.btree) (omega (arith, same)))

  -- one btree more came
  pub births_more : (new : Index) (levels : Levels) → slice_get nodes n ≡ Some levels → Finds new (with_tree btree levels (birth_of (take n nodes))) → Finds new (birth_of (take (n + 1) nodes))
  births_more new levels here is = Finds-alike new (with_tree btree levels (birth_of (take n nodes))) (birth_of (take (n + 1) nodes)) is (tree_more levels here)

  -- and one that was refused has a birth twice
  pub births_refused : (levels : Levels) (fault : IndexFault) → slice_get nodes n ≡ Some levels → HasCause (with_tree btree levels (birth_of (take n nodes))) fault → HasCause (birth_of nodes) fault
  births_refused levels fault here told =
      told_more (with_tree btree levels (birth_of (take n nodes))) (birth_of nodes) fault
      (λ name birth has. among name birth (sym (tree_more levels here name) ∙ has)) told
    where
      among : (name : NodeName) (birth : ℕ) → birth_of (take (n + 1) nodes) name ≡ Some birth → birth_of nodes name ≡ Some birth
      among name birth has =
          ⊎_elim
          (λ lt. ap (λ (ls : Levels). birth_at (level_of ls name.level) name.greatest) (sym (get_or-take (n + 1) nodes (btree_code name.btree) [] lt)) ∙ has)
          (λ ge. absurd (none_some birth (sym (no_node (levels_of (take (n + 1) nodes) name.btree) name (past_front nodes [] (n + 1) (btree_code name.btree) ge)) ∙ has)))
          (cases_lt (btree_code name.btree) (n + 1))

-- with the ninth all came
pub births_all : (names : Index) (nodes : List Levels) (n : ℕ) → 9 ≤ n → Finds names (birth_of (take n nodes)) → Finds names (birth_of nodes)
births_all names nodes n all is =
    Finds-alike names (birth_of (take n nodes)) (birth_of nodes) is
    (λ name. ap (λ (ls : Levels). birth_at (level_of ls name.level) name.greatest) (get_or-take n nodes (btree_code name.btree) [] (omega (arith, all, code-below name.btree))))

-- and with none left
pub births_ended : (names : Index) (nodes : List Levels) (n : ℕ) → length nodes ≤ n → Finds names (birth_of (take n nodes)) → Finds names (birth_of nodes)
births_ended names nodes n le is = Finds-alike names (birth_of (take n nodes)) (birth_of nodes) is (λ name. ap (λ (ns : List Levels). birth_of ns name) (take_all n nodes le))

-- the levels of a btree that was got
pub got : (nodes : List Levels) (n k : ℕ) (levels : Levels) → k ≡ n → k < length nodes → levels ≡ get_or nodes k levels → slice_get nodes n ≡ Some levels
got nodes n k levels same lt is = ap (slice_get nodes) (sym same) ∙ slice_get_read nodes (length nodes) k levels refl lt is
