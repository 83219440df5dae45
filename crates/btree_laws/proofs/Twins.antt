-- Btrees of which no two nodes have one birth have no twins among all their nodes.
use Rattle.std.proofs.Common.{◌≡◌, ℕ, zero, suc, ◌<◌, ◌≤◌, Bool, true, false, cond, Some, None, List, [], ◌∷◌, ◌++◌, length, refl, sym, ap, ◌∙◌, subst, arith}
use Rattle.std.specs.Prelude.{◌==◌, ◌||◌, is_some, nat_lt, option_map, slice_index_or, unwrap_or}
use Rattle.std.specs.List.{AllByRecursion, flat_map}
use Rattle.std.specs.List.Sorted.{IsStrictlySortedBy}
use Rattle.std.specs.Map.{keys_of, values_of}
use Rattle.std.specs.Ordering.{is_eq}
use Rattle.std.proofs.lemmas.Bool.{eqb-true, ltb-false, ltb-true, true≢false}
use Rattle.std.proofs.lemmas.Cmp.{tied_itself}
use Rattle.std.proofs.lemmas.Map.Keys.{sorted_tail}
use Rattle.std.proofs.lemmas.Option.{slice_get_past, unwrap_or-slice_get}
use Rattle.birth_index.specs.Births.{BirthsDiffer, birth_of, levels_of}
use Rattle.birth_index.specs.declared.name.NodeName.{NodeName}
use Rattle.image_view.specs.Trees.{first_twin, has_birth, nodes_of}
use Rattle.tree_nodes.specs.CoverLaws.{above-head}
use Rattle.tree_nodes.specs.Levels.{Level, Levels, level_of}
use Rattle.vol_types.specs.Btrees.{btree_code}
use Rattle.vol_types.specs.Maps.{IsMap, value_at}
use Rattle.vol_types.specs.PositionLaws.{pos_total}
use Rattle.vol_types.specs.Positions.{pos_cmp}
use Rattle.vol_types.specs.declared.pointers.NodePtr.{NodePtr}
use Rattle.vol_types.specs.declared.positions.Btree.{Btree}
use Rattle.vol_types.specs.declared.positions.Btree.TheVariants.{Extents, Inodes, Dirents, Subvols, Snapshots, Alloc, Backptrs, Deleted, Counters}
use Rattle.vol_types.specs.declared.positions.Pos.{Pos}
use Rattle.btree_laws.proofs.Levels.{at_or_not, before_apart}

-- ---- nodes with a birth

-- Nodes joined have a birth where one of the parts has it.
birth_joined : (node : NodePtr) (one other : List NodePtr) → has_birth node (one ++ other) ≡ (has_birth node one || has_birth node other)
birth_joined node [] other = refl
birth_joined node (x ∷ one) other = by (x.birth == node.birth) (birth_joined node one other)
  where
    by : (b : Bool) → has_birth node (one ++ other) ≡ (has_birth node one || has_birth node other) → (b || has_birth node (one ++ other)) ≡ ((b || has_birth node one) || has_birth node other)
    by true later = refl
    by false later = later

-- Lists of nodes have no twins joined where neither has, and no node of the one has the birth of one of the other.
apart_joined : (one other : List NodePtr) → first_twin one ≡ None → first_twin other ≡ None → AllByRecursion (λ node. has_birth node other ≡ false) one → first_twin (one ++ other) ≡ None
apart_joined [] other none others apart = others
apart_joined (x ∷ one) other none others apart =
    let own = alone (has_birth x one) refl none in
    ap (λ b. cond b (Some x) (first_twin (one ++ other))) (birth_joined x one other ∙ (λ i. own.0 i || apart.0 i)) ∙ apart_joined one other own.1 others apart.1
  where
    alone : (b : Bool) → has_birth x one ≡ b → cond b (Some x) (first_twin one) ≡ None → (has_birth x one ≡ false) × (first_twin one ≡ None)
    alone true has is = absurd (true≢false (ap is_some is))
    alone false has is = (has, is)

-- whether a list has a birth, where a list that has it can't be
no_birth : (node : NodePtr) (others : List NodePtr) → (has_birth node others ≡ true → ⊥) → has_birth node others ≡ false
no_birth node others none = by (has_birth node others) refl
  where
    by : (b : Bool) → has_birth node others ≡ b → has_birth node others ≡ false
    by true has = absurd (none has)
    by false has = has

-- ---- one level

-- A node of the level has the birth.
record IsBirthIn (birth : ℕ) (nodes : Level) : Type 0 where
  at : Pos
  node : NodePtr
  there : value_at pos_cmp at nodes ≡ Some node
  same : node.birth ≡ birth

-- A node stands still behind another one.
behind_one : (e : Pos × NodePtr) (es : Level) (at : Pos) (node : NodePtr) → IsMap pos_cmp (e ∷ es) → value_at pos_cmp at es ≡ Some node → value_at pos_cmp at (e ∷ es) ≡ Some node
behind_one e es at node rises is =
    at_or_not at e.0 (value_at pos_cmp at (e ∷ es) ≡ Some node) (λ same. absurd (before_apart e.0 at (above-head e es at rises (ap is_some is)) (sym same)))
    (λ apart. ap (λ b. cond b (Some e.1) (value_at pos_cmp at es)) apart ∙ is)

first_there : (e : Pos × NodePtr) (es : Level) → value_at pos_cmp e.0 (e ∷ es) ≡ Some e.1
first_there e es = ap (λ r. cond (is_eq r) (Some e.1) (value_at pos_cmp e.0 es)) (tied_itself pos_total e.0)

-- Where its nodes have a birth, one of them has it.
level_birth : (x : NodePtr) (nodes : Level) → IsMap pos_cmp nodes → has_birth x (values_of nodes) ≡ true → IsBirthIn x.birth nodes
level_birth x [] rises has = absurd (true≢false (sym has))
level_birth x (e ∷ es) rises has = by (e.1.birth == x.birth) refl has (level_birth x es (sorted_tail pos_cmp e.0 (keys_of es) rises))
  where
    by : (b : Bool) → (e.1.birth == x.birth) ≡ b → (b || has_birth x (values_of es)) ≡ true → (has_birth x (values_of es) ≡ true → IsBirthIn x.birth es) → IsBirthIn x.birth (e ∷ es)
    by true same is later = record { at = e.0; node = e.1; there = first_there e es; same = eqb-true e.1.birth x.birth same }
    by false same is later =
        let found = later is in
        record { at = found.at; node = found.node; there = behind_one e es found.at found.node rises found.there; same = found.same }

-- Nodes of one level with one birth end at one position.
abbrev LevelDiffers : Level → Type 0
LevelDiffers nodes = (at other : Pos) (one same : NodePtr) → value_at pos_cmp at nodes ≡ Some one → value_at pos_cmp other nodes ≡ Some same → one.birth ≡ same.birth → at ≡ other

level_apart : (nodes : Level) → IsMap pos_cmp nodes → LevelDiffers nodes → first_twin (values_of nodes) ≡ None
level_apart [] rises differ = refl
level_apart (e ∷ es) rises differ =
    let rest = sorted_tail pos_cmp e.0 (keys_of es) rises in
    ap (λ b. cond b (Some e.1) (first_twin (values_of es)))
    (no_birth e.1 (values_of es) (λ has.
    let found = level_birth e.1 es rest has in
    before_apart e.0 found.at (above-head e es found.at rises (ap is_some found.there))
    (differ e.0 found.at e.1 found.node (first_there e es) (behind_one e es found.at found.node rises found.there) (sym found.same))))
    ∙ level_apart es rest (λ at other one same is are birth. differ at other one same (behind_one e es at one rises is) (behind_one e es other same rises are) birth)

-- ---- the levels of one btree

-- A node of the levels has the birth.
record IsBirthUnder (birth : ℕ) (levels : Levels) : Type 0 where
  level : ℕ
  is : IsBirthIn birth (level_of levels level)

-- The levels are maps.
abbrev AreMaps : Levels → Type 0
AreMaps levels = (level : ℕ) → IsMap pos_cmp (level_of levels level)

levels_birth : (x : NodePtr) (levels : Levels) → AreMaps levels → has_birth x (flat_map values_of levels) ≡ true → IsBirthUnder x.birth levels
levels_birth x [] rise has = absurd (true≢false (sym has))
levels_birth x (nodes ∷ levels) rise has =
    by (has_birth x (values_of nodes)) refl (sym (birth_joined x (values_of nodes) (flat_map values_of levels)) ∙ has) (levels_birth x levels (λ level. rise (suc level)))
  where
    by : (b : Bool) → has_birth x (values_of nodes) ≡ b → (has_birth x (values_of nodes) || has_birth x (flat_map values_of levels)) ≡ true → (has_birth x (flat_map values_of levels) ≡ true → IsBirthUnder x.birth levels) → IsBirthUnder x.birth (nodes ∷ levels)
    by true own is later = record { level = zero; is = level_birth x nodes (rise zero) own }
    by false own is later =
        let found = later (ap (λ b. b || has_birth x (flat_map values_of levels)) (sym own) ∙ is) in
        record { level = suc found.level; is = found.is }

-- Nodes of the levels with one birth are of one level, and end at one position.
abbrev LevelsDiffer : Levels → Type 0
LevelsDiffer levels =
    (level upper : ℕ) (at other : Pos) (one same : NodePtr) → value_at pos_cmp at (level_of levels level) ≡ Some one → value_at pos_cmp other (level_of levels upper) ≡ Some same → one.birth ≡ same.birth → (level ≡ upper) × (at ≡ other)

-- what holds of each node of a level holds of all
pub each_node : (P : NodePtr → Type 0) (nodes : Level) → IsMap pos_cmp nodes → ((at : Pos) (node : NodePtr) → value_at pos_cmp at nodes ≡ Some node → P node) → AllByRecursion P (values_of nodes)
each_node P [] rises so = tt
each_node P (e ∷ es) rises so =
    (so e.0 e.1 (first_there e es), each_node P es (sorted_tail pos_cmp e.0 (keys_of es) rises) (λ at node is. so at node (behind_one e es at node rises is)))

all_joined : (P : NodePtr → Type 0) (one other : List NodePtr) → AllByRecursion P one → AllByRecursion P other → AllByRecursion P (one ++ other)
all_joined P [] other all others = others
all_joined P (x ∷ one) other all others = (all.0, all_joined P one other all.1 others)

each_of_levels : (P : NodePtr → Type 0) (levels : Levels) → AreMaps levels → ((level : ℕ) (at : Pos) (node : NodePtr) → value_at pos_cmp at (level_of levels level) ≡ Some node → P node) → AllByRecursion P (flat_map values_of levels)
each_of_levels P [] rise so = tt
each_of_levels P (nodes ∷ levels) rise so =
    all_joined P (values_of nodes) (flat_map values_of levels) (each_node P nodes (rise zero) (so zero)) (each_of_levels P levels (λ level. rise (suc level)) (λ level. so (suc level)))

levels_apart : (levels : Levels) → AreMaps levels → LevelsDiffer levels → first_twin (flat_map values_of levels) ≡ None
levels_apart [] rise differ = refl
levels_apart (nodes ∷ levels) rise differ =
    let rest : AreMaps levels = λ level. rise (suc level) in
    apart_joined (values_of nodes) (flat_map values_of levels)
    (level_apart nodes (rise zero) (λ at other one same is are birth. (differ zero zero at other one same is are birth).1))
    (levels_apart levels rest (λ level upper at other one same is are birth.
    let both = differ (suc level) (suc upper) at other one same is are birth in
    let numbers = both.0 in
    (omega (arith, numbers), both.1)))
    (each_node (λ node. has_birth node (flat_map values_of levels) ≡ false) nodes (rise zero) (λ at node is. no_birth node (flat_map values_of levels) (λ has.
    let found = levels_birth node levels rest has in
    let numbers = (differ zero (suc found.level) at found.is.at node found.is.node is found.is.there (sym found.is.same)).0 in
    omega (arith, numbers))))

-- ---- all btrees

-- the levels at a place
abbrev levels_at : List Levels → ℕ → Levels
levels_at trees place = slice_index_or trees place []

-- A node of the btrees has the birth.
record IsBirthAmong (birth : ℕ) (trees : List Levels) : Type 0 where
  place : ℕ
  is : IsBirthUnder birth (levels_at trees place)

trees_birth : (x : NodePtr) (trees : List Levels) → ((place : ℕ) → AreMaps (levels_at trees place)) → has_birth x (nodes_of trees) ≡ true → IsBirthAmong x.birth trees
trees_birth x [] rise has = absurd (true≢false (sym has))
trees_birth x (levels ∷ trees) rise has =
    by (has_birth x (flat_map values_of levels)) refl (sym (birth_joined x (flat_map values_of levels) (nodes_of trees)) ∙ has) (trees_birth x trees (λ place. rise (suc place)))
  where
    by : (b : Bool) → has_birth x (flat_map values_of levels) ≡ b → (has_birth x (flat_map values_of levels) || has_birth x (nodes_of trees)) ≡ true → (has_birth x (nodes_of trees) ≡ true → IsBirthAmong x.birth trees) → IsBirthAmong x.birth (levels ∷ trees)
    by true own is later = record { place = zero; is = levels_birth x levels (rise zero) own }
    by false own is later =
        let found = later (ap (λ b. b || has_birth x (nodes_of trees)) (sym own) ∙ is) in
        record { place = suc found.place; is = found.is }

-- Nodes of the btrees with one birth are of one btree and level, and end at one position.
abbrev TreesDiffer : List Levels → Type 0
TreesDiffer trees =
    (place another level upper : ℕ) (at other : Pos) (one same : NodePtr) → value_at pos_cmp at (level_of (levels_at trees place) level) ≡ Some one → value_at pos_cmp other (level_of (levels_at trees another) upper) ≡ Some same → one.birth ≡ same.birth
    → (place ≡ another) × (level ≡ upper) × (at ≡ other)

trees_apart : (trees : List Levels) → ((place : ℕ) → AreMaps (levels_at trees place)) → TreesDiffer trees → first_twin (nodes_of trees) ≡ None
trees_apart [] rise differ = refl
trees_apart (levels ∷ trees) rise differ =
    let rest : (place : ℕ) → AreMaps (levels_at trees place) = λ place. rise (suc place) in
    apart_joined (flat_map values_of levels) (nodes_of trees)
    (levels_apart levels (rise zero) (λ level upper at other one same is are birth.
    let both = differ zero zero level upper at other one same is are birth in
    (both.1, both.2)))
    (trees_apart trees rest (λ place another level upper at other one same is are birth.
    let both = differ (suc place) (suc another) level upper at other one same is are birth in
    let numbers = both.0 in
    (omega (arith, numbers), both.1, both.2)))
    (each_of_levels (λ node. has_birth node (nodes_of trees) ≡ false) levels (rise zero) (λ level at node is. no_birth node (nodes_of trees) (λ has.
    let found = trees_birth node trees rest has in
    let numbers = (differ zero (suc found.place) level found.is.level at found.is.is.at node found.is.is.node is found.is.is.there (sym found.is.is.same)).0 in
    omega (arith, numbers))))

-- the btree with a number
btree_at : (code : ℕ) → code < 9 → (btree : Btree) × (btree_code btree ≡ code)
btree_at zero less = (Extents, refl)
btree_at (suc zero) less = (Inodes, refl)
btree_at (suc (suc zero)) less = (Dirents, refl)
btree_at (suc (suc (suc zero))) less = (Subvols, refl)
btree_at (suc (suc (suc (suc zero)))) less = (Snapshots, refl)
btree_at (suc (suc (suc (suc (suc zero))))) less = (Alloc, refl)
btree_at (suc (suc (suc (suc (suc (suc zero)))))) less = (Backptrs, refl)
btree_at (suc (suc (suc (suc (suc (suc (suc zero))))))) less = (Deleted, refl)
btree_at (suc (suc (suc (suc (suc (suc (suc (suc zero)))))))) less = (Counters, refl)
btree_at (suc (suc (suc (suc (suc (suc (suc (suc (suc code))))))))) less = absurd (omega (arith, less))

place_within : (trees : List Levels) (place level : ℕ) (at : Pos) (node : NodePtr) → value_at pos_cmp at (level_of (levels_at trees place) level) ≡ Some node → place < length trees
place_within [] place level at node is = absurd (true≢false (sym (ap is_some is)))
place_within (levels ∷ trees) zero level at node is = omega arith
place_within (levels ∷ trees) (suc place) level at node is = omega (arith, place_within trees place level at node is)

-- Births that differ by names differ by places.
by_places : (trees : List Levels) → length trees ≡ 9 → BirthsDiffer trees → TreesDiffer trees
by_places trees nine differ place another level upper at other one same is are birth =
    let less = place_within trees place level at one is in
    let lower = place_within trees another upper other same are in
    let first = btree_at place (omega (arith, nine, less)) in
    let second = btree_at another (omega (arith, nine, lower)) in
    let one_name : NodeName = record { btree = first.0; level = level; greatest = at } in
    let same_name : NodeName = record { btree = second.0; level = upper; greatest = other } in
    let one_is : birth_of trees one_name ≡ Some one.birth = ap (λ n. option_map (λ (node : NodePtr). node.birth) (value_at pos_cmp at (level_of (levels_at trees n) level))) first.1 ∙ ap (option_map (λ (node : NodePtr). node.birth)) is in
    let same_is : birth_of trees same_name ≡ Some one.birth = ap (λ n. option_map (λ (node : NodePtr). node.birth) (value_at pos_cmp other (level_of (levels_at trees n) upper))) second.1 ∙ ap (option_map (λ (node : NodePtr). node.birth)) are ∙ ap Some (sym birth) in
    let name = differ one_name same_name one.birth one_is same_is in
    (sym first.1 ∙ ap (λ (n : NodeName). btree_code n.btree) name ∙ second.1, ap (λ (n : NodeName). n.level) name, ap (λ (n : NodeName). n.greatest) name)

pub no_nodes : IsMap {X = NodePtr} pos_cmp []
unfolding IsStrictlySortedBy
no_nodes = tt

-- Where no two nodes have one birth, no node is the twin of a later one.
pub no_twins : (trees : List Levels) → length trees ≡ 9 → ((btree : Btree) (level : ℕ) → IsMap pos_cmp (level_of (levels_of trees btree) level)) → BirthsDiffer trees → first_twin (nodes_of trees) ≡ None
no_twins trees nine rise differ = trees_apart trees maps (by_places trees nine differ)
  where
    none : (n : ℕ) → length trees ≤ n → levels_at trees n ≡ []
    none n past = sym (unwrap_or-slice_get trees n []) ∙ ap (λ o. unwrap_or o []) (slice_get_past trees n past)

    maps : (place : ℕ) → AreMaps (levels_at trees place)
    maps place level = by (nat_lt place 9) refl
      where
        by : (b : Bool) → nat_lt place 9 ≡ b → IsMap pos_cmp (level_of (levels_at trees place) level)
        by true is =
            let btree = btree_at place (ltb-true place 9 is) in
            subst (λ n. IsMap pos_cmp (level_of (levels_at trees n) level)) btree.1 (rise btree.0 level)
        by false is =
            let past = ltb-false place 9 is in
            subst (λ (ls : Levels). IsMap pos_cmp (level_of ls level)) (sym (none place (omega (arith, nine, past)))) no_nodes
