-- Of nodes seen from the back, the last one that was found to have a birth again is the first twin.
use Rattle.std.proofs.Common.{◌≡◌, ℕ, zero, suc, ◌<◌, ◌==◌, Bool, true, false, cond, ◌||◌, List, [], ◌∷◌, ◌++◌, Option, None, Some, map, not, length, take, get_or, ◌≤◌, ◌-◌, Ok, Err, refl, ap, sym, ◌∙◌, append_assoc, arith}
use Rattle.std.specs.Option.{option_map_or}
use Rattle.std.specs.Prelude.{option_map}
use Rattle.std.specs.BTreeMap.{is_at}
use Rattle.std.specs.List.{list_any}
use Rattle.std.specs.Ordering.{nat_cmp}
use Rattle.std.proofs.lemmas.Bool.Decides.{nat_tests}
use Rattle.image_view.specs.Trees.{BtreeRead, TreesRead, first_place, first_twin, joined, nodes_of, with_own_births}
use Rattle.vol_types.specs.declared.pointers.NodePtr.{NodePtr}
use Rattle.vol_types.specs.declared.pointers.Place.{Place}
use Rattle.image_reader.specs.Twins.{born}
use Rattle.image_reader.specs.Volumes.{btree_in}
use Rattle.image_reader.specs.declared.found.FoundBtree.{FoundBtree}
use Rattle.image_reader.specs.declared.twins.Born.{Born}

same_birth : (a b : ℕ) → is_at (nat_cmp a) b ≡ (a == b)
same_birth a b = grind (arith, nat_tests)

-- the place of the first node that has the birth of a later one
abbrev pub twin_in : List Born → Option Place
twin_in [] = None
twin_in (node ∷ nodes) = cond (list_any (λ other. other.birth == node.birth) nodes) (Some node.place) (twin_in nodes)

any_born : (birth : ℕ) (pointers : List NodePtr) → list_any (λ (other : Born). other.birth == birth) (map born pointers) ≡ list_any (λ (other : NodePtr). other.birth == birth) pointers
any_born birth [] = refl
any_born birth (p ∷ ps) = ap (λ b. (p.birth == birth) || b) (any_born birth ps)

twin_born : (pointers : List NodePtr) → twin_in (map born pointers) ≡ option_map first_place (first_twin pointers)
twin_born [] = refl
twin_born (p ∷ ps) = ap (λ b. cond b (Some (first_place p)) (twin_in (map born ps))) (any_born p.birth ps) ∙ by (list_any (λ (other : NodePtr). other.birth == p.birth) ps) (twin_born ps)
  where
    by : (b : Bool) → twin_in (map born ps) ≡ option_map first_place (first_twin ps) → cond b (Some (first_place p)) (twin_in (map born ps)) ≡ option_map first_place (cond b (Some p) (first_twin ps))
    by true later = refl
    by false later = later

-- What was seen: the nodes from some place on, their births, and their first twin.
pub record IsSeen (nodes rest : List Born) (births : List ℕ) (twin : Option Place) : Type 0 where
  pub back : List Born
  pub whole : nodes ≡ rest ++ back
  pub births_are : (birth : ℕ) → list_any (is_at (nat_cmp birth)) births ≡ list_any (λ (node : Born). node.birth == birth) back
  pub twin_is : twin ≡ twin_in back

pub seen_none : (nodes : List Born) → IsSeen nodes nodes [] None
seen_none nodes = record { back = []; whole = sym (append_nil nodes); births_are = λ birth. refl; twin_is = refl }
  where
    append_nil : (xs : List Born) → xs ++ [] ≡ xs
    append_nil [] = refl
    append_nil (x ∷ xs) = ap (λ ys. x ∷ ys) (append_nil xs)

-- One node more was seen, whose birth was new or not.
pub seen_more : (nodes rest front : List Born) (node : Born) (births more : List ℕ) (twin : Option Place) (fresh : Bool) → IsSeen nodes rest births twin → rest ≡ front ++ node ∷ []
    → fresh ≡ not (list_any (is_at (nat_cmp node.birth)) births)
    → ((birth : ℕ) → list_any (is_at (nat_cmp birth)) more ≡ cond (is_at (nat_cmp node.birth) birth) true (list_any (is_at (nat_cmp birth)) births))
    → IsSeen nodes front more (cond fresh twin (Some node.place))
seen_more nodes rest front node births more twin fresh seen is new put = record {
  back = node ∷ seen.back;
  whole = seen.whole ∙ ap (λ r. r ++ seen.back) is ∙ append_assoc front (node ∷ []) seen.back;
  births_are = λ birth. put birth ∙ ap (λ b. cond b true (list_any (is_at (nat_cmp birth)) births)) (same_birth node.birth birth) ∙ either (node.birth == birth) (list_any (is_at (nat_cmp birth)) births) ∙ ap (λ b. (node.birth == birth) || b) (seen.births_are birth);
  twin_is = ap (λ f. cond f twin (Some node.place)) (new ∙ ap not (seen.births_are node.birth)) ∙ by (list_any (λ (other : Born). other.birth == node.birth) seen.back);
}
  where
    either : (a b : Bool) → cond a true b ≡ (a || b)
    either true b = refl
    either false b = refl

    by : (b : Bool) → cond (not b) twin (Some node.place) ≡ cond b (Some node.place) (twin_in seen.back)
    by true = refl
    by false = seen.twin_is

-- All nodes were seen.
pub seen_all : (nodes rest : List Born) (births : List ℕ) (twin : Option Place) → rest ≡ [] → IsSeen nodes rest births twin → (pointers : List NodePtr) → nodes ≡ map born pointers → twin ≡ option_map first_place (first_twin pointers)
seen_all nodes rest births twin none seen pointers are =
    seen.twin_is ∙ ap twin_in (sym (seen.whole ∙ ap (λ r. r ++ seen.back) none) ∙ are) ∙ twin_born pointers

-- Btrees keep their levels.
pub levels_in : (btrees : List FoundBtree) → map (λ (b : BtreeRead). b.levels) (map btree_in btrees) ≡ map (λ (b : FoundBtree). b.levels) btrees
levels_in [] = refl
levels_in (b ∷ bs) = ap (λ ls. b.levels ∷ ls) (levels_in bs)

own_by : (read : TreesRead) (twin : Option NodePtr) (place : Option Place) → place ≡ option_map first_place twin → option_map_or (λ (node : NodePtr). Err (first_place node)) twin (Ok read) ≡ option_map_or (λ (p : Place). Err p) place (Ok read)
own_by read None place is = ap (λ (o : Option Place). option_map_or (λ (p : Place). Err p) o (Ok read)) (sym is)
own_by read (Some node) place is = ap (λ (o : Option Place). option_map_or (λ (p : Place). Err p) o (Ok read)) (sym is)

-- Where the first twin is known, so is whether btrees have births of their own.
pub own_births : (btrees : List FoundBtree) (place : Option Place) → ((pointers : List NodePtr) → map born (nodes_of (map (λ (b : FoundBtree). b.levels) btrees)) ≡ map born pointers → place ≡ option_map first_place (first_twin pointers))
    → with_own_births (joined (map btree_in btrees)) ≡ option_map_or (λ (p : Place). Err p) place (Ok (joined (map btree_in btrees)))
own_births btrees place is =
    own_by (joined (map btree_in btrees)) (first_twin (nodes_of (map (λ (b : BtreeRead). b.levels) (map btree_in btrees)))) place
    (is (nodes_of (map (λ (b : BtreeRead). b.levels) (map btree_in btrees))) (ap (λ ls. map born (nodes_of ls)) (sym (levels_in btrees))))

apart_at : {X : Type 0} (xs : List X) (n : ℕ) (d : X) → length xs ≡ suc n → xs ≡ take n xs ++ get_or xs n d ∷ []
apart_at [] n d is = absurd (omega (arith, is))
apart_at (x ∷ []) zero d is = refl
apart_at (x ∷ y ∷ ys) zero d is = absurd (omega (arith, is))
apart_at (x ∷ xs) (suc n) d is = ap (λ rest. x ∷ rest) (apart_at xs n d (omega (arith, is)))

-- A list with one member at least is the others and its last one.
pub last_apart : {X : Type 0} (xs : List X) (d : X) → 1 ≤ length xs → xs ≡ take (length xs - 1) xs ++ get_or xs (length xs - 1) d ∷ []
last_apart xs d some = apart_at xs (length xs - 1) d (omega (arith, some))

pub no_member : {X : Type 0} (xs : List X) → length xs < 1 → xs ≡ []
no_member [] few = refl
no_member (x ∷ xs) few = absurd (omega (arith, few))
