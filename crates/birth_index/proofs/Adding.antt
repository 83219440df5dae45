-- The births of the nodes of a level that come to an index one by one.
use Rattle.std.proofs.Common.{◌≡◌, ℕ, Bool, true, false, cond, Option, Some, None, [], ◌∷◌, ◌++◌, refl, sym, ap, ◌∙◌, subst}
use Rattle.std.specs.Prelude.{◌==◌, ◌&&◌, IsSome, option_map}
use Rattle.std.specs.BTreeMap.{is_at}
use Rattle.std.specs.Option.{option_or}
use Rattle.std.specs.Ordering.{is_eq, nat_cmp, ordering_reverse}
use Rattle.std.proofs.lemmas.Bool.{true≢false, eq-eqb}
use Rattle.std.proofs.lemmas.Cmp.{tied_itself}
use Rattle.std.proofs.lemmas.List.{append-nil}
use Rattle.std.proofs.lemmas.Option.{none-some as none_some}
use Rattle.birth_index.specs.Births.{Finds, HasCause, Index, TwoHave}
use Rattle.birth_index.specs.FindLaws.{Finds-alike, Finds-with, put_birth}
use Rattle.birth_index.specs.Parts.{HasNoLevel, IsRefused, birth_at, is_of_level, with_level}
use Rattle.birth_index.specs.declared.making.IndexFault.{IndexFault}
use Rattle.birth_index.specs.declared.making.IndexFault.TheVariants.{NoMemory, SameBirth}
use Rattle.birth_index.specs.declared.name.NodeName.{NodeName}
use Rattle.tree_nodes.specs.Levels.{IsRow, Level}
use Rattle.vol_types.specs.CopyLaws.{copy_more}
use Rattle.vol_types.specs.MapLaws.{AreKeysBelow, IsMap-parts, value_at-append, value_at-with_value}
use Rattle.vol_types.specs.Maps.{IsMap, value_at, with_value}
use Rattle.vol_types.specs.Btrees.{btree_code}
use Rattle.vol_types.specs.PositionLaws.{pos_total}
use Rattle.vol_types.specs.Positions.{pos_cmp}
use Rattle.vol_types.specs.declared.pointers.NodePtr.{NodePtr}
use Rattle.vol_types.specs.declared.positions.Btree.{Btree}
use Rattle.vol_types.specs.declared.positions.Pos.{Pos}

-- what two nodes have they have among more nodes
pub told_more : (births others : NodeName → Option ℕ) (fault : IndexFault) → ((name : NodeName) (birth : ℕ) → births name ≡ Some birth → others name ≡ Some birth) → HasCause births fault → HasCause others fault
told_more births others NoMemory more told = tt
told_more births others (SameBirth birth) more told = record {
  one = told.one;
  other = told.other;
  apart = told.apart;
  one_has = more told.one birth told.one_has;
  other_has = more told.other birth told.other_has;
}

-- Some of the nodes of a level came to the index, and the others are left.
pub record IsAdding (old names : Index) (btree : Btree) (level : ℕ) (nodes rest : Level) : Type 0 where
  pub done : Level
  pub whole : done ++ rest ≡ nodes
  pub finds : (births : NodeName → Option ℕ) → Finds old births → HasNoLevel btree level births → Finds names (with_level btree level done births)

-- before the first
pub adding_none : (old : Index) (btree : Btree) (level : ℕ) (nodes rest : Level) → rest ≡ nodes → IsAdding old old btree level nodes rest
adding_none old btree level nodes rest same = record {
  done = [];
  whole = same;
  finds = λ births is none. Finds-alike old births (with_level btree level [] births) is (λ name. by births none name (is_of_level btree level name) refl);
}
  where
    by : (births : NodeName → Option ℕ) → HasNoLevel btree level births → (name : NodeName) (b : Bool) → is_of_level btree level name ≡ b → births name ≡ cond b None (births name)
    by births none name true is = none name is
    by births none name false is = refl

not_apart : (at : Pos) (node : NodePtr) (done later : Level) → AreKeysBelow pos_cmp done ((at, node) ∷ later) → value_at pos_cmp at done ≡ None
not_apart at node [] later apart = refl
not_apart at node (d ∷ done) later apart =
    ap (λ r. cond (is_eq r) (Some d.1) (value_at pos_cmp at done)) (pos_total.antisymm at d.0 ∙ ap ordering_reverse apart.0.0) ∙ not_apart at node done later apart.1

birth_of-put : (b : Bool) (node : NodePtr) (o : Option NodePtr) → option_map (λ (node : NodePtr). node.birth) (cond b (Some node) o) ≡ cond b (Some node.birth) (option_map (λ (node : NodePtr). node.birth) o)
birth_of-put true node o = refl
birth_of-put false node o = refl

kept_or : (one other : Option NodePtr) (birth : ℕ) → option_map (λ (node : NodePtr). node.birth) one ≡ Some birth → option_map (λ (node : NodePtr). node.birth) (option_or one other) ≡ Some birth
kept_or None other birth is = absurd (none_some birth is)
kept_or (Some node) other birth is = is

module _ (old names : Index) (btree : Btree) (level : ℕ) (nodes rest later : Level) (row : IsRow nodes) (adding : IsAdding old names btree level nodes rest) (at : Pos) (node : NodePtr) (next : rest ≡ (at, node) ∷ later) where
  split : adding.done ++ (at, node) ∷ later ≡ nodes
  split = ap (λ (es : Level). adding.done ++ es) (sym next) ∙ adding.whole

  not_done : value_at pos_cmp at adding.done ≡ None
  not_done = not_apart at node adding.done later (IsMap-parts pos_cmp adding.done ((at, node) ∷ later) (subst (IsMap pos_cmp) (sym split) row.rises)).2

  module _ (births : NodeName → Option ℕ) where
    here : is_of_level btree level (record { btree = btree; level = level; greatest = at }) ≡ true
    here = ap (λ (b : Bool). b && (level == level)) (eq-eqb (btree_code btree) (btree_code btree) refl) ∙ eq-eqb level level refl

    -- the node has no birth so far
    fresh : with_level btree level adding.done births (record { btree = btree; level = level; greatest = at }) ≡ None
    fresh =
        ap (λ (b : Bool). cond b (birth_at adding.done at) (births (record { btree = btree; level = level; greatest = at }))) here
        ∙ ap (option_map (λ (node : NodePtr). node.birth)) not_done

    -- with it there is one birth more
    one_more : (other : NodeName) → put_birth (record { btree = btree; level = level; greatest = at }) node.birth (with_level btree level adding.done births) other ≡ with_level btree level (with_value pos_cmp at node adding.done) births other
    one_more other = by (is_of_level btree level other)
      where
        by : (b : Bool) → cond (b && is_at (pos_cmp at) other.greatest) (Some node.birth) (cond b (birth_at adding.done other.greatest) (births other)) ≡ cond b (birth_at (with_value pos_cmp at node adding.done) other.greatest) (births other)
        by true =
            sym (ap (option_map (λ (node : NodePtr). node.birth)) (value_at-with_value pos_total at node other.greatest adding.done)
            ∙ birth_of-put (is_at (pos_cmp at) other.greatest) node (value_at pos_cmp other.greatest adding.done))
        by false = refl

    -- those that are done are among all
    done_among : (other : NodeName) (birth : ℕ) → with_level btree level adding.done births other ≡ Some birth → with_level btree level nodes births other ≡ Some birth
    done_among other birth has = by (is_of_level btree level other) has
      where
        by : (b : Bool) → cond b (birth_at adding.done other.greatest) (births other) ≡ Some birth → cond b (birth_at nodes other.greatest) (births other) ≡ Some birth
        by true is =
            ap (λ (es : Level). birth_at es other.greatest) (sym adding.whole)
            ∙ ap (option_map (λ (node : NodePtr). node.birth)) (value_at-append pos_cmp other.greatest adding.done rest)
            ∙ kept_or (value_at pos_cmp other.greatest adding.done) (value_at pos_cmp other.greatest rest) birth is
        by false is = is

    -- and so is this one
    next_among : with_level btree level nodes births (record { btree = btree; level = level; greatest = at }) ≡ Some node.birth
    next_among =
        ap (λ (b : Bool). cond b (birth_at nodes at) (births (record { btree = btree; level = level; greatest = at }))) here
        ∙ ap (λ (es : Level). birth_at es at) (sym split)
        ∙ ap (option_map (λ (node : NodePtr). node.birth))
        (value_at-append pos_cmp at adding.done ((at, node) ∷ later) ∙ ap (λ (o : Option NodePtr). option_or o (value_at pos_cmp at ((at, node) ∷ later))) not_done
        ∙ ap (λ r. cond (is_eq r) (Some node) (value_at pos_cmp at later)) (tied_itself pos_total at))

  -- one node more came
  pub adding_more : (new : Index) → new ≡ with_value nat_cmp node.birth (record { btree = btree; level = level; greatest = at }) names → value_at nat_cmp node.birth names ≡ None → IsAdding old new btree level nodes later
  adding_more new put free = record {
    done = with_value pos_cmp at node adding.done;
    whole = copy_more pos_total at node later adding.done (with_value pos_cmp at node adding.done) rest nodes adding.whole next row.rises refl;
    finds = λ births is none. subst (λ (index : Index). Finds index (with_level btree level (with_value pos_cmp at node adding.done) births)) (sym put)
        (Finds-alike (with_value nat_cmp node.birth (record { btree = btree; level = level; greatest = at }) names) (put_birth (record { btree = btree; level = level; greatest = at }) node.birth (with_level btree level adding.done births))
        (with_level btree level (with_value pos_cmp at node adding.done) births)
        (Finds-with names (with_level btree level adding.done births) (record { btree = btree; level = level; greatest = at }) (adding.finds births is none) node.birth (fresh births) free) (one_more births));
  }

  -- and one that was refused has the birth of another
  pub adding_refused : (fault : IndexFault) → IsRefused fault node.birth names → (births : NodeName → Option ℕ) → Finds old births → HasNoLevel btree level births → HasCause (with_level btree level nodes births) fault
  adding_refused NoMemory refused births is none = tt
  adding_refused (SameBirth birth) refused births is none = subst (TwoHave (with_level btree level nodes births)) (sym refused.0) (by (value_at nat_cmp node.birth names) refl refused.1)
    where
      by : (o : Option NodeName) → value_at nat_cmp node.birth names ≡ o → IsSome o → TwoHave (with_level btree level nodes births) node.birth
      by None at some = absurd (true≢false (sym some))
      by (Some other) found some =
          let has = (adding.finds births is none).leads node.birth other found in
          record {
            one = other;
            other = record { btree = btree; level = level; greatest = at };
            apart = λ same. none_some node.birth (sym (fresh births) ∙ ap (with_level btree level adding.done births) (sym same) ∙ has);
            one_has = done_among births other node.birth has;
            other_has = next_among births;
          }

-- with none left all came
pub adding_all : (old names : Index) (btree : Btree) (level : ℕ) (nodes rest : Level) → IsAdding old names btree level nodes rest → rest ≡ [] → (births : NodeName → Option ℕ) → Finds old births → HasNoLevel btree level births → Finds names (with_level btree level nodes births)
adding_all old names btree level nodes rest adding none births is free =
    subst (λ (es : Level). Finds names (with_level btree level es births)) (sym (append-nil adding.done) ∙ ap (λ (es : Level). adding.done ++ es) (sym none) ∙ adding.whole) (adding.finds births is free)
