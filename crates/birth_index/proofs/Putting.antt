-- Pointers of several nodes that are put in place one after the other, once their births were added to the index.
use Rattle.std.proofs.Common.{◌≡◌, ℕ, ◌+◌, ◌<◌, ◌≤◌, Bool, true, false, cond, Option, Some, None, List, [], ◌∷◌, ◌++◌, drop, get_or, length, map, refl, sym, ap, ◌∙◌, subst, take, arith}
use Rattle.std.specs.Prelude.{◌≢◌, ◌==◌, ◌||◌, All, option_map, slice_set}
use Rattle.std.specs.BTreeMap.{is_at}
use Rattle.std.specs.List.{list_any}
use Rattle.std.specs.Option.{option_or}
use Rattle.std.specs.Ordering.{nat_cmp}
use Rattle.std.proofs.lemmas.Bool.{eqb-true, true≢false}
use Rattle.std.proofs.lemmas.Cmp.{nat_cmp_total}
use Rattle.std.proofs.lemmas.Grind.{drop_more_same}
use Rattle.std.proofs.lemmas.List.{drop-set-lt, drop_all, drop_more, get_or-map, length-set, map-append, map-set, set-get_or, take_all, take_more, take_more_set}
use Rattle.std.proofs.lemmas.List.Elements.{All-head, All-nil, All-push, All-tail}
use Rattle.std.proofs.lemmas.Map.Lookups.{exact_unsigned}
use Rattle.birth_index.specs.Births.{Index, IsIndex, birth_of, node_of, renamed, with_named}
use Rattle.birth_index.specs.ChangeLaws.{index-renamed}
use Rattle.birth_index.specs.ExchangeLaws.{exchange-there, exchanges-apart, exchanges-head, exchanges-later, other-with_pointer}
use Rattle.birth_index.specs.Exchanges.{AreBefore, AreExchanges, HasRoom, IsExchange, exchanged, fresh_of, name_of, with_pointer, without_births}
use Rattle.birth_index.specs.NameLaws.{one_birth}
use Rattle.birth_index.specs.declared.name.Exchange.{Exchange}
use Rattle.birth_index.specs.declared.name.Named.{Named}
use Rattle.birth_index.specs.declared.name.NodeName.{NodeName}
use Rattle.birth_index.proofs.Rooming.{IsMap-with_named, has_birth, last_named, replaced-removed, value_at-with_named, with_named-last}
use Rattle.tree_nodes.specs.Levels.{Levels}
use Rattle.vol_types.specs.MapLaws.{IsMap-without, same_maps, value_at-without}
use Rattle.vol_types.specs.Maps.{IsMap, value_at, with_value, without}
use Rattle.vol_types.specs.declared.pointers.NodePtr.{NodePtr}

-- the births of new pointers are not in the index
pub fresh_absent : (index : Index) (nodes : List Levels) (changes : List Exchange) → IsIndex index nodes → AreExchanges nodes changes → All (λ (change : Exchange). value_at nat_cmp change.pointer.birth index ≡ None) changes
fresh_absent index nodes changes is are place none lt = by (value_at nat_cmp (get_or changes place none).pointer.birth index) refl
  where
    by : (o : Option NodeName) → value_at nat_cmp (get_or changes place none).pointer.birth index ≡ o → o ≡ None
    by None at = refl
    by (Some name) at = absurd ((are.each place none lt).unused name (is.leads (get_or changes place none).pointer.birth name at))

-- whether one of the pointers has the birth
abbrev has_fresh : ℕ → List Exchange → Bool
has_fresh q changes = list_any (λ change. is_at (nat_cmp change.pointer.birth) q) changes

map_without_births : (changes : List Exchange) (index : Index) → IsMap nat_cmp index → IsMap nat_cmp (without_births changes index)
map_without_births [] index rises = rises
map_without_births (change ∷ changes) index rises = map_without_births changes (without nat_cmp change.pointer.birth index) (IsMap-without nat_cmp_total change.pointer.birth index rises)

-- what is found without the births of pointers
found_without_births : (q : ℕ) (changes : List Exchange) (index : Index) → IsMap nat_cmp index → value_at nat_cmp q (without_births changes index) ≡ cond (has_fresh q changes) None (value_at nat_cmp q index)
found_without_births q [] index rises = refl
found_without_births q (change ∷ changes) index rises =
    found_without_births q changes (without nat_cmp change.pointer.birth index) (IsMap-without nat_cmp_total change.pointer.birth index rises)
    ∙ ap (cond (has_fresh q changes) None) (value_at-without nat_cmp_total change.pointer.birth q index rises)
    ∙ both (is_at (nat_cmp change.pointer.birth) q) (has_fresh q changes) (value_at nat_cmp q index)
  where
    both : (one other : Bool) (o : Option NodeName) → cond other None (cond one None o) ≡ cond (one || other) None o
    both true true o = refl
    both true false o = refl
    both false true o = refl
    both false false o = refl

-- a birth that no pointer has was not put
none_fresh : (q : ℕ) (changes : List Exchange) → has_fresh q changes ≡ false → last_named q (map fresh_of changes) ≡ None
none_fresh q [] is = refl
none_fresh q (change ∷ changes) is = by (is_at (nat_cmp change.pointer.birth) q) is (none_fresh q changes)
  where
    by : (b : Bool) → (b || has_fresh q changes) ≡ false → (has_fresh q changes ≡ false → last_named q (map fresh_of changes) ≡ None) → option_or (last_named q (map fresh_of changes)) (cond b (Some change.name) None) ≡ None
    by true none later = absurd (true≢false none)
    by false none later = ap (λ (o : Option NodeName). option_or o None) (later none)

-- one that a pointer has was not there
some_fresh : (q : ℕ) (changes : List Exchange) (index : Index) → All (λ (change : Exchange). value_at nat_cmp change.pointer.birth index ≡ None) changes → has_fresh q changes ≡ true → value_at nat_cmp q index ≡ None
some_fresh q [] index absent is = absurd (true≢false (sym is))
some_fresh q (change ∷ changes) index absent is = by (is_at (nat_cmp change.pointer.birth) q) refl is (some_fresh q changes index (All-tail (λ (c : Exchange). value_at nat_cmp c.pointer.birth index ≡ None) change changes absent))
  where
    by : (b : Bool) → is_at (nat_cmp change.pointer.birth) q ≡ b → (b || has_fresh q changes) ≡ true → (has_fresh q changes ≡ true → value_at nat_cmp q index ≡ None) → value_at nat_cmp q index ≡ None
    by true same some later = ap (λ (n : ℕ). value_at nat_cmp n index) (sym (one_birth change.pointer.birth q same)) ∙ All-head (λ (c : Exchange). value_at nat_cmp c.pointer.birth index ≡ None) change changes absent
    by false other some later = later some

-- births that are removed again leave the index as it was
pub births_back : (changes : List Exchange) (index : Index) → IsMap nat_cmp index → All (λ (change : Exchange). value_at nat_cmp change.pointer.birth index ≡ None) changes → without_births changes (with_named (map fresh_of changes) index) ≡ index
births_back changes index rises absent =
    let all = with_named (map fresh_of changes) index in
    let map_all = IsMap-with_named (map fresh_of changes) index rises in
    same_maps nat_cmp_total exact_unsigned (without_births changes all) index (map_without_births changes all map_all) rises
    (λ q. found_without_births q changes all map_all ∙ ap (cond (has_fresh q changes) None) (value_at-with_named q (map fresh_of changes) index) ∙ by q (has_fresh q changes) refl)
  where
    by : (q : ℕ) (b : Bool) → has_fresh q changes ≡ b → cond b None (option_or (last_named q (map fresh_of changes)) (value_at nat_cmp q index)) ≡ value_at nat_cmp q index
    by q true is = sym (some_fresh q changes index absent is)
    by q false is = ap (λ (o : Option NodeName). option_or o (value_at nat_cmp q index)) (none_fresh q changes is)

-- no new pointer has the birth of a node
none_reused : (gone : ℕ) (changes : List Exchange) → All (λ (change : Exchange). change.pointer.birth ≢ gone) changes → has_birth gone (map fresh_of changes) ≡ false
none_reused gone [] apart = refl
none_reused gone (change ∷ changes) apart = by (change.pointer.birth == gone) refl (none_reused gone changes (All-tail (λ (c : Exchange). c.pointer.birth ≢ gone) change changes apart))
  where
    by : (b : Bool) → (change.pointer.birth == gone) ≡ b → has_birth gone (map fresh_of changes) ≡ false → (b || has_birth gone (map fresh_of changes)) ≡ false
    by true is later = absurd (All-head (λ (c : Exchange). c.pointer.birth ≢ gone) change changes apart (eqb-true change.pointer.birth gone is))
    by false is later = later

-- Once a pointer was put, and the birth of the one before was removed, the index has the further names still.
room-later : (nodes : List Levels) (change : Exchange) (changes : List Exchange) (index : Index) (gone : ℕ) → AreExchanges nodes (change ∷ changes) → birth_of nodes change.name ≡ Some gone → HasRoom nodes (map fresh_of (change ∷ changes)) index
    → HasRoom (with_pointer change nodes) (map fresh_of changes) (without nat_cmp gone index)
room-later nodes change changes index gone are has room =
    let head = exchanges-head nodes change changes are in
    record {
      base = renamed gone change.name change.pointer.birth room.base;
      is = index-renamed room.base nodes change.name gone room.is (exchange-there nodes change head) has change.pointer (λ other used. absurd (head.unused other used));
      taken = ap (without nat_cmp gone) room.taken
          ∙ replaced-removed gone (map fresh_of (change ∷ changes)) room.base room.is.rises (none_reused gone (change ∷ changes) (λ place none lt same. (are.each place none lt).unused change.name (has ∙ ap Some (sym same))));
    }

-- Up to a place the pointers were put: those before it are the ones that were there, and the others are still to be put.
pub record IsPutting (start : List Levels) (all : List Exchange) (nodes : List Levels) (index : Index) (now : List Exchange) (place : ℕ) : Type 0 where
  pub count : length now ≡ length all
  pub rest : drop place now ≡ drop place all
  pub after : exchanged (drop place all) nodes ≡ exchanged all start
  pub are : AreExchanges nodes (drop place all)
  pub room : HasRoom nodes (map fresh_of (drop place all)) index
  pub names : map name_of now ≡ map name_of all
  pub pointers : All (λ (before : Exchange). node_of start before.name ≡ Some before.pointer) (take place now)
  pub same : All (λ (change : Exchange). node_of nodes change.name ≡ node_of start change.name) (drop place all)

pub putting-none : (start : List Levels) (all : List Exchange) (index : Index) → AreExchanges start all → HasRoom start (map fresh_of all) index → IsPutting start all start index all 0
putting-none start all index are room = record {
  count = refl;
  rest = refl;
  after = refl;
  are = are;
  room = room;
  names = refl;
  pointers = All-nil (λ (before : Exchange). node_of start before.name ≡ Some before.pointer);
  same = λ place none lt. refl;
}

module _ (start : List Levels) (all : List Exchange) (nodes : List Levels) (index : Index) (now : List Exchange) (place : ℕ) (is : IsPutting start all nodes index now place) where
  module _ (change : Exchange) (here : change ≡ get_or now place change) (lt : place < length now) where
    -- what is to be put yet is this change and others
    left : drop place all ≡ change ∷ drop (place + 1) all
    left =
        let within : place < length all = subst (λ (n : ℕ). place < n) is.count lt in
        sym is.rest ∙ drop_more now place change lt ∙ ap (λ (c : Exchange). c ∷ drop (place + 1) now) (sym here) ∙ ap (◌∷◌ change) (drop_more_same now all place is.rest)

    are_left : AreExchanges nodes (change ∷ drop (place + 1) all)
    are_left = subst (AreExchanges nodes) left is.are

    -- this change may be made
    pub putting-here : IsExchange nodes change
    putting-here = exchanges-head nodes change (drop (place + 1) all) are_left

    module _ (before : Exchange) (name : before.name ≡ change.name) (value : node_of nodes change.name ≡ Some before.pointer) where
      names_kept : map name_of (slice_set now place before) ≡ map name_of all
      names_kept =
          map-set name_of now place before
          ∙ ap (slice_set (map name_of now) place) (name ∙ ap name_of here ∙ sym (get_or-map name_of now place change change.name lt))
          ∙ set-get_or (map name_of now) place change.name ∙ is.names

      was : node_of start before.name ≡ Some before.pointer
      was =
          ap (node_of start) name
          ∙ sym (All-head (λ (c : Exchange). node_of nodes c.name ≡ node_of start c.name) change (drop (place + 1) all) (subst (All (λ (c : Exchange). node_of nodes c.name ≡ node_of start c.name)) left is.same))
          ∙ value

      -- one more was put
      pub putting-more : (after : List Levels) (new : Index) → after ≡ with_pointer change nodes → new ≡ without nat_cmp before.pointer.birth index → IsPutting start all after new (slice_set now place before) (place + 1)
      putting-more after new put removed =
          let others = drop (place + 1) all in
          let next = with_pointer change nodes in
          subst (λ (ns : List Levels). IsPutting start all ns new (slice_set now place before) (place + 1)) (sym put)
          (subst (λ (i : Index). IsPutting start all next i (slice_set now place before) (place + 1)) (sym removed)
          (record {
            count = length-set now place before ∙ is.count;
            rest = drop-set-lt (place + 1) now place before (omega arith) ∙ drop_more_same now all place is.rest;
            after = ap (λ (cs : List Exchange). exchanged cs nodes) (sym left) ∙ is.after;
            are = exchanges-later nodes change others are_left;
            room = room-later nodes change others index before.pointer.birth are_left (ap (option_map (λ (node : NodePtr). node.birth)) value) (subst (λ (cs : List Exchange). HasRoom nodes (map fresh_of cs) index) left is.room);
            names = names_kept;
            pointers = let P : Exchange → Type 0 = λ c. node_of start c.name ≡ Some c.pointer in subst (All P) (sym (take_more_set now place before lt)) (All-push P (take place now) before is.pointers was);
            same = λ k none within. other-with_pointer nodes change putting-here (get_or others k none).name (exchanges-apart nodes change others are_left k none within).names
                ∙ (let Q : Exchange → Type 0 = λ c. node_of nodes c.name ≡ node_of start c.name in All-tail Q change others (subst (All Q) left is.same) k none within);
          }))

  -- all were put
  module _ (end : length now ≤ place) where
    none_left : drop place all ≡ []
    none_left = drop_all place all (omega (arith, end, is.count))

    pub putting-after : nodes ≡ exchanged all start
    putting-after = ap (λ (cs : List Exchange). exchanged cs nodes) (sym none_left) ∙ is.after

    pub putting-before : AreBefore start all now
    putting-before = record { names = is.names; pointers = subst (All (λ (before : Exchange). node_of start before.name ≡ Some before.pointer)) (take_all place now end) is.pointers }

    pub putting-index : IsIndex index nodes
    putting-index =
        let room = subst (λ (cs : List Exchange). HasRoom nodes (map fresh_of cs) index) none_left is.room in
        subst (λ (i : Index). IsIndex i nodes) (sym room.taken) room.is

-- the births of one pointer more
pub fresh_more : (changes : List Exchange) (place : ℕ) (change : Exchange) (index : Index) → place < length changes → change ≡ get_or changes place change
    → with_named (map fresh_of (take (place + 1) changes)) index ≡ with_value nat_cmp change.pointer.birth change.name (with_named (map fresh_of (take place changes)) index)
fresh_more changes place change index lt here =
    ap (λ (cs : List Exchange). with_named (map fresh_of cs) index) (take_more changes place change lt ∙ ap (λ (c : Exchange). take place changes ++ c ∷ []) (sym here))
    ∙ ap (λ (news : List Named). with_named news index) (map-append fresh_of (take place changes) (change ∷ []))
    ∙ with_named-last (map fresh_of (take place changes)) (fresh_of change) index
