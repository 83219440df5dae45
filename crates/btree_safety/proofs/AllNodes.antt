-- Each node of nine btrees, and all of them in one list.
use Rattle.std.proofs.Common.{◌≡◌, ⊎_elim, ℕ, zero, suc, ◌≢◌, ◌<◌, Bool, true, false, cond, List, [], ◌∷◌, ◌++◌, length, Some, refl, sym, ap, subst, ◌∙◌, arith}
use Rattle.std.specs.Prelude.{All, Contains, is_some, nat_lt, option_map, slice_get, slice_index_or, unwrap_or}
use Rattle.std.specs.List.{AllByRecursion, flat_map}
use Rattle.std.specs.List.Sorted.{IsStrictlySortedBy}
use Rattle.std.specs.Map.{keys_of, values_of}
use Rattle.std.specs.BTreeMap.{is_at}
use Rattle.std.specs.Ordering.{is_eq, is_lt}
use Rattle.std.proofs.lemmas.Bool.{ltb-false, ltb-true, true≢false}
use Rattle.std.proofs.lemmas.Cmp.{tied_itself}
use Rattle.std.proofs.lemmas.List.Elements.{All-from_recursion, Contains-append_cases, Contains-append_left, Contains-append_right, recursion_from_All}
use Rattle.std.proofs.lemmas.Map.Keys.{sorted_tail}
use Rattle.std.proofs.lemmas.Option.{same_Some, slice_get_past, unwrap_or-slice_get}
use Rattle.birth_index.specs.Births.{birth_of, levels_of, node_of}
use Rattle.birth_index.specs.NameLaws.{code-below}
use Rattle.birth_index.specs.declared.name.NodeName.{NodeName}
use Rattle.image_view.specs.Trees.{SetsOf, all_btrees, nodes_of}
use Rattle.tree_nodes.specs.CoverLaws.{above-head}
use Rattle.tree_nodes.specs.Levels.{Level, Levels, level_of}
use Rattle.tree_nodes.specs.RowLaws.{same_at}
use Rattle.vol_types.specs.Btrees.{btree_code}
use Rattle.vol_types.specs.Maps.{IsMap, value_at}
use Rattle.vol_types.specs.PositionLaws.{pos_total}
use Rattle.vol_types.specs.Positions.{IsBefore, pos_cmp}
use Rattle.vol_types.specs.declared.pointers.NodeEnd.{NodeEnd}
use Rattle.vol_types.specs.declared.pointers.NodePtr.{NodePtr}
use Rattle.vol_types.specs.declared.positions.Btree.{Btree}
use Rattle.vol_types.specs.declared.positions.Btree.TheVariants.{Extents, Inodes, Dirents, Subvols, Snapshots, Alloc, Backptrs, Deleted, Counters}
use Rattle.vol_types.specs.declared.positions.Pos.{Pos}
use Rattle.btree_laws.specs.Standing.{Contents, IsNodeIn, StandAsBtrees, StandsAsBtree, ends_in, reads_of, set_ends}

-- ---- what holds of all holds of each

pub left_all : {X : Type 0} (P : X → Type 0) (one other : List X) → AllByRecursion P (one ++ other) → AllByRecursion P one
left_all P [] other all = tt
left_all P (x ∷ one) other all = (all.0, left_all P one other all.1)

pub right_all : {X : Type 0} (P : X → Type 0) (one other : List X) → AllByRecursion P (one ++ other) → AllByRecursion P other
right_all P [] other all = all
right_all P (x ∷ one) other all = right_all P one other all.1

pub All-left : {X : Type 0} (P : X → Type 0) (one other : List X) → All P (one ++ other) → All P one
All-left P one other all = All-from_recursion P one (left_all P one other (recursion_from_All P (one ++ other) all))

pub All-right : {X : Type 0} (P : X → Type 0) (one other : List X) → All P (one ++ other) → All P other
All-right P one other all = All-from_recursion P other (right_all P one other (recursion_from_All P (one ++ other) all))

pub of_level : (P : NodePtr → Type 0) (nodes : Level) (at : Pos) (node : NodePtr) → AllByRecursion P (values_of nodes) → value_at pos_cmp at nodes ≡ Some node → P node
of_level P [] at node all is = absurd (true≢false (sym (ap is_some is)))
of_level P (e ∷ es) at node all is = by (is_at (pos_cmp at) e.0) is (of_level P es at node all.1)
  where
    by : (b : Bool) → cond b (Some e.1) (value_at pos_cmp at es) ≡ Some node → (value_at pos_cmp at es ≡ Some node → P node) → P node
    by true is later = subst P (same_Some e.1 node is) all.0
    by false is later = later is

pub of_levels : (P : NodePtr → Type 0) (levels : Levels) (level : ℕ) (at : Pos) (node : NodePtr) → AllByRecursion P (flat_map values_of levels) → IsNodeIn levels level at node → P node
of_levels P [] level at node all is = absurd (true≢false (sym (ap is_some is)))
of_levels P (nodes ∷ levels) zero at node all is = of_level P nodes at node (left_all P (values_of nodes) (flat_map values_of levels) all) is
of_levels P (nodes ∷ levels) (suc level) at node all is = of_levels P levels level at node (right_all P (values_of nodes) (flat_map values_of levels) all) is

pub of_places : (P : NodePtr → Type 0) (trees : List Levels) (place level : ℕ) (at : Pos) (node : NodePtr) → AllByRecursion P (nodes_of trees) → IsNodeIn (slice_index_or trees place []) level at node → P node
of_places P [] place level at node all is = absurd (true≢false (sym (ap is_some is)))
of_places P (levels ∷ trees) zero level at node all is = of_levels P levels level at node (left_all P (flat_map values_of levels) (nodes_of trees) all) is
of_places P (levels ∷ trees) (suc place) level at node all is = of_places P trees place level at node (right_all P (flat_map values_of levels) (nodes_of trees) all) is

-- What holds of all nodes holds of each node of each btree.
pub of_trees : (P : NodePtr → Type 0) (trees : List Levels) → All P (nodes_of trees) → (btree : Btree) (level : ℕ) (at : Pos) (node : NodePtr) → IsNodeIn (levels_of trees btree) level at node → P node
of_trees P trees all btree level at node is = of_places P trees (btree_code btree) level at node (recursion_from_All P (nodes_of trees) all) is

-- ---- what holds of each holds of all

pub both_all : {X : Type 0} (P : X → Type 0) (one other : List X) → AllByRecursion P one → AllByRecursion P other → AllByRecursion P (one ++ other)
both_all P [] other all others = others
both_all P (x ∷ one) other all others = (all.0, both_all P one other all.1 others)

-- A position is one or another.
at_or_not : (p q : Pos) (P : Type 0) → (p ≡ q → P) → (is_at (pos_cmp p) q ≡ false → P) → P
at_or_not p q P same apart = by (is_at (pos_cmp p) q) refl
  where
    by : (b : Bool) → is_at (pos_cmp p) q ≡ b → P
    by true is = same (same_at p q is)
    by false is = apart is

-- A position before another isn't it.
pub before_apart : (p q : Pos) → IsBefore p q → p ≢ q
before_apart p q before same = true≢false (ap is_lt (sym before ∙ ap (λ x. pos_cmp x q) same ∙ tied_itself pos_total q))

-- The first node of a level stands at its end, and each later one still does.
pub first_there : (e : Pos × NodePtr) (es : Level) → value_at pos_cmp e.0 (e ∷ es) ≡ Some e.1
first_there e es = ap (λ r. cond (is_eq r) (Some e.1) (value_at pos_cmp e.0 es)) (tied_itself pos_total e.0)

pub behind_one : (e : Pos × NodePtr) (es : Level) (at : Pos) (node : NodePtr) → IsMap pos_cmp (e ∷ es) → value_at pos_cmp at es ≡ Some node → value_at pos_cmp at (e ∷ es) ≡ Some node
behind_one e es at node rises is =
    at_or_not at e.0 (value_at pos_cmp at (e ∷ es) ≡ Some node) (λ same. absurd (before_apart e.0 at (above-head e es at rises (ap is_some is)) (sym same)))
    (λ apart. ap (λ b. cond b (Some e.1) (value_at pos_cmp at es)) apart ∙ is)

pub each_of_level : (P : NodePtr → Type 0) (nodes : Level) → IsMap pos_cmp nodes → ((at : Pos) (node : NodePtr) → value_at pos_cmp at nodes ≡ Some node → P node) → AllByRecursion P (values_of nodes)
each_of_level P [] rises so = tt
each_of_level P (e ∷ es) rises so =
    (so e.0 e.1 (first_there e es), each_of_level P es (sorted_tail pos_cmp e.0 (keys_of es) rises) (λ at node is. so at node (behind_one e es at node rises is)))

-- The levels are maps.
abbrev pub AreMaps : Levels → Type 0
AreMaps levels = (level : ℕ) → IsMap pos_cmp (level_of levels level)

pub each_of_levels : (P : NodePtr → Type 0) (levels : Levels) → AreMaps levels → ((level : ℕ) (at : Pos) (node : NodePtr) → IsNodeIn levels level at node → P node) → AllByRecursion P (flat_map values_of levels)
each_of_levels P [] rise so = tt
each_of_levels P (nodes ∷ levels) rise so =
    both_all P (values_of nodes) (flat_map values_of levels) (each_of_level P nodes (rise zero) (so zero)) (each_of_levels P levels (λ level. rise (suc level)) (λ level. so (suc level)))

-- the levels at a place
abbrev pub levels_at : List Levels → ℕ → Levels
levels_at trees place = slice_index_or trees place []

pub each_of_places : (P : NodePtr → Type 0) (trees : List Levels) → ((place : ℕ) → AreMaps (levels_at trees place)) → ((place level : ℕ) (at : Pos) (node : NodePtr) → IsNodeIn (levels_at trees place) level at node → P node) → AllByRecursion P (nodes_of trees)
each_of_places P [] rise so = tt
each_of_places P (levels ∷ trees) rise so =
    both_all P (flat_map values_of levels) (nodes_of trees) (each_of_levels P levels (rise zero) (so zero)) (each_of_places P trees (λ place. rise (suc place)) (λ place. so (suc place)))

-- the btree with a number
pub btree_at : (code : ℕ) → code < 9 → (btree : Btree) × (btree_code btree ≡ code)
btree_at zero less = (Extents, refl)
btree_at (suc zero) less = (Inodes, refl)
btree_at (suc (suc zero)) less = (Dirents, refl)
btree_at (suc (suc (suc zero))) less = (Subvols, refl)
btree_at (suc (suc (suc (suc zero)))) less = (Snapshots, refl)
btree_at (suc (suc (suc (suc (suc zero))))) less = (Alloc, refl)
btree_at (suc (suc (suc (suc (suc (suc zero)))))) less = (Backptrs, refl)
btree_at (suc (suc (suc (suc (suc (suc (suc zero))))))) less = (Deleted, refl)
btree_at (suc (suc (suc (suc (suc (suc (suc (suc zero)))))))) less = (Counters, refl)
btree_at (suc (suc (suc (suc (suc (suc (suc (suc (suc code))))))))) less = absurd (omega (arith, less))

no_nodes : IsMap {X = NodePtr} pos_cmp []
unfolding IsStrictlySortedBy
no_nodes = tt

pub place_within : (trees : List Levels) (place level : ℕ) (at : Pos) (node : NodePtr) → IsNodeIn (levels_at trees place) level at node → place < length trees
place_within [] place level at node is = absurd (true≢false (sym (ap is_some is)))
place_within (levels ∷ trees) zero level at node is = omega arith
place_within (levels ∷ trees) (suc place) level at node is = omega (arith, place_within trees place level at node is)

-- ---- btrees that stand

pub root_at : (roots : List NodePtr) (place : ℕ) → place < length roots → (root : NodePtr) × (slice_get roots place ≡ Some root)
root_at [] place less = absurd (omega (arith, less))
root_at (root ∷ roots) zero less = (root, refl)
root_at (root ∷ roots) (suc place) less = root_at roots place (omega (arith, less))

module _ (sets : SetsOf) (roots : List NodePtr) (trees : List Levels) (content : Btree → Contents) (stand : StandAsBtrees sets roots trees content) where
  -- Each stands under its root.
  pub rooted : (btree : Btree) → (root : NodePtr) × StandsAsBtree sets btree root (levels_of trees btree) (content btree)
  rooted btree =
      let nine = stand.roots_are in
      let less = code-below btree in
      let root = root_at roots (btree_code btree) (omega (arith, nine, less)) in
      (root.0, stand.each btree root.0 root.1)

  -- Its levels rise.
  pub levels_rise : (btree : Btree) (level : ℕ) → IsMap pos_cmp (level_of (levels_of trees btree) level)
  levels_rise btree level = by (nat_lt level (length (levels_of trees btree))) refl
    where
      by : (b : Bool) → nat_lt level (length (levels_of trees btree)) ≡ b → IsMap pos_cmp (level_of (levels_of trees btree) level)
      by true is = ((rooted btree).1.tree.each level (ltb-true level (length (levels_of trees btree)) is)).row.rises
      by false is =
          let past = ltb-false level (length (levels_of trees btree)) is in
          subst (IsMap pos_cmp) (sym (sym (unwrap_or-slice_get (levels_of trees btree) level []) ∙ ap (λ o. unwrap_or o []) (slice_get_past (levels_of trees btree) level past))) no_nodes

  pub places_rise : (place : ℕ) → AreMaps (levels_at trees place)
  places_rise place level = by (nat_lt place 9) refl
    where
      by : (b : Bool) → nat_lt place 9 ≡ b → IsMap pos_cmp (level_of (levels_at trees place) level)
      by true is =
          let btree = btree_at place (ltb-true place 9 is) in
          subst (λ n. IsMap pos_cmp (level_of (levels_at trees n) level)) btree.1 (levels_rise btree.0 level)
      by false is =
          let past = ltb-false place 9 is in
          let nine = stand.trees_are in
          subst (λ (ls : Levels). IsMap pos_cmp (level_of ls level)) (sym (sym (unwrap_or-slice_get trees place []) ∙ ap (λ o. unwrap_or o []) (slice_get_past trees place (omega (arith, past, nine))))) no_nodes

  -- What holds of each node of each btree holds of all nodes.
  pub each_node : (P : NodePtr → Type 0) → ((btree : Btree) (level : ℕ) (at : Pos) (node : NodePtr) → IsNodeIn (levels_of trees btree) level at node → P node) → All P (nodes_of trees)
  each_node P so = All-from_recursion P (nodes_of trees) (each_of_places P trees places_rise (λ place level at node is.
      let nine = stand.trees_are in
      let within = place_within trees place level at node is in
      let btree = btree_at place (omega (arith, nine, within)) in
      so btree.0 level at node (subst (λ n. IsNodeIn (levels_at trees n) level at node) (sym btree.1) is)))

-- ---- where the sets of nodes end

-- the end of a node's sets
abbrev pub end_of : Contents → NodePtr → NodeEnd
end_of content node = record { birth = node.birth; block = (content node).end }

-- The end is that of a node of the levels.
pub record IsEndUnder (content : Contents) (levels : Levels) (end : NodeEnd) : Type 0 where
  pub level : ℕ
  pub at : Pos
  pub node : NodePtr
  pub there : IsNodeIn levels level at node
  pub same : end ≡ end_of content node

module _ (content : Contents) where
  level_end : (nodes : Level) (at : Pos) (node : NodePtr) → value_at pos_cmp at nodes ≡ Some node → Contains (ends_in content nodes) (end_of content node)
  level_end [] at node is = absurd (true≢false (sym (ap is_some is)))
  level_end (e ∷ es) at node is = by (is_at (pos_cmp at) e.0) is (level_end es at node)
    where
      by : (b : Bool) → cond b (Some e.1) (value_at pos_cmp at es) ≡ Some node → (value_at pos_cmp at es ≡ Some node → Contains (ends_in content es) (end_of content node)) → Contains (ends_in content (e ∷ es)) (end_of content node)
      by true is later = (0, omega arith, ap (end_of content) (same_Some e.1 node is))
      by false is later = Contains-append_right (end_of content e.1 ∷ []) (ends_in content es) (end_of content node) (later is)

  -- A node's end is among those of its btree,
  pub levels_end : (levels : Levels) (level : ℕ) (at : Pos) (node : NodePtr) → IsNodeIn levels level at node → Contains (set_ends content levels) (end_of content node)
  levels_end [] level at node is = absurd (true≢false (sym (ap is_some is)))
  levels_end (nodes ∷ levels) zero at node is = Contains-append_right (set_ends content levels) (ends_in content nodes) (end_of content node) (level_end nodes at node is)
  levels_end (nodes ∷ levels) (suc level) at node is = Contains-append_left (set_ends content levels) (ends_in content nodes) (end_of content node) (levels_end levels level at node is)

  of_level_end : (nodes : Level) → IsMap pos_cmp nodes → (end : NodeEnd) → Contains (ends_in content nodes) end → (at : Pos) × (node : NodePtr) × (value_at pos_cmp at nodes ≡ Some node) × (end ≡ end_of content node)
  of_level_end [] rises end there = absurd (let low = there.1 in omega (arith, low))
  of_level_end (e ∷ es) rises end there = ⊎_elim
      (λ (first : Contains (end_of content e.1 ∷ []) end). (e.0, e.1, first_there e es, one first))
      (λ (later : Contains (ends_in content es) end).
      let found = of_level_end es (sorted_tail pos_cmp e.0 (keys_of es) rises) end later in
      (found.0, found.1, behind_one e es found.0 found.1 rises found.2, found.3))
      (Contains-append_cases (end_of content e.1 ∷ []) (ends_in content es) end there)
    where
      one : Contains (end_of content e.1 ∷ []) end → end ≡ end_of content e.1
      one (zero, low, is) = sym is
      one (suc k, low, is) = absurd (omega (arith, low))

  -- and each of these is that of a node.
  pub of_levels_end : (levels : Levels) → AreMaps levels → (end : NodeEnd) → Contains (set_ends content levels) end → IsEndUnder content levels end
  of_levels_end [] rise end there = absurd (let low = there.1 in omega (arith, low))
  of_levels_end (nodes ∷ levels) rise end there = ⊎_elim
      (λ (upper : Contains (set_ends content levels) end).
      let found = of_levels_end levels (λ level. rise (suc level)) end upper in
      record { level = suc found.level; at = found.at; node = found.node; there = found.there; same = found.same })
      (λ (own : Contains (ends_in content nodes) end).
      let found = of_level_end nodes (rise zero) end own in
      record { level = zero; at = found.0; node = found.1; there = found.2; same = found.3 })
      (Contains-append_cases (set_ends content levels) (ends_in content nodes) end there)

-- What one member of a list gives is among what all give, and back.
pub given_by : {X Y : Type 0} (f : X → List Y) (xs : List X) (x : X) (y : Y) → Contains xs x → Contains (f x) y → Contains (flat_map f xs) y
given_by f [] x y there own = absurd (let low = there.1 in omega (arith, low))
given_by f (e ∷ xs) x y (zero, low, is) own = Contains-append_left (f e) (flat_map f xs) y (subst (λ v. Contains (f v) y) (sym is) own)
given_by f (e ∷ xs) x y (suc k, low, is) own = Contains-append_right (f e) (flat_map f xs) y (given_by f xs x y (k, (let lower : k < length xs = omega (arith, low) in lower), is) own)

pub giver_of : {X Y : Type 0} (f : X → List Y) (xs : List X) (y : Y) → Contains (flat_map f xs) y → (x : X) × Contains (f x) y
giver_of f [] y there = absurd (let low = there.1 in omega (arith, low))
giver_of f (x ∷ xs) y there = ⊎_elim
    (λ (own : Contains (f x) y). (x, own))
    (λ (later : Contains (flat_map f xs) y). giver_of f xs y later)
    (Contains-append_cases (f x) (flat_map f xs) y there)

-- Each btree is one of all.
one_of_all : (btree : Btree) → Contains all_btrees btree
one_of_all Extents = (0, omega arith, refl)
one_of_all Inodes = (1, omega arith, refl)
one_of_all Dirents = (2, omega arith, refl)
one_of_all Subvols = (3, omega arith, refl)
one_of_all Snapshots = (4, omega arith, refl)
one_of_all Alloc = (5, omega arith, refl)
one_of_all Backptrs = (6, omega arith, refl)
one_of_all Deleted = (7, omega arith, refl)
one_of_all Counters = (8, omega arith, refl)

-- The end of a node's sets is among those of all btrees.
pub has_end : (trees : List Levels) (content : Btree → Contents) (btree : Btree) (level : ℕ) (at : Pos) (node : NodePtr) → IsNodeIn (levels_of trees btree) level at node → Contains (reads_of content trees).ends (end_of (content btree) node)
has_end trees content btree level at node is =
    given_by (λ b. set_ends (content b) (levels_of trees b)) all_btrees btree (end_of (content btree) node) (one_of_all btree) (levels_end (content btree) (levels_of trees btree) level at node is)

-- Where no two nodes have one birth, an end that names the birth of a node is the end of its sets.
pub own_end : (sets : SetsOf) (roots : List NodePtr) (trees : List Levels) (content : Btree → Contents) → StandAsBtrees sets roots trees content → (btree : Btree) (level : ℕ) (at : Pos) (node : NodePtr) → IsNodeIn (levels_of trees btree) level at node
    → (end : NodeEnd) → Contains (reads_of content trees).ends end → end.birth ≡ node.birth → end ≡ end_of (content btree) node
own_end sets roots trees content stand btree level at node is end there birth =
    let giver = giver_of (λ b. set_ends (content b) (levels_of trees b)) all_btrees end there in
    let other : Btree = giver.0 in
    let found : IsEndUnder (content other) (levels_of trees other) end = of_levels_end (content other) (levels_of trees other) (levels_rise sets roots trees content stand other) end giver.1 in
    let own : NodeName = record { btree = btree; level = level; greatest = at } in
    let name : NodeName = record { btree = other; level = found.level; greatest = found.at } in
    let births : found.node.birth ≡ node.birth = sym (ap (λ (e : NodeEnd). e.birth) found.same) ∙ birth in
    let one : birth_of trees name ≡ Some node.birth = ap (option_map (λ (n : NodePtr). n.birth)) found.there ∙ ap Some births in
    let two : birth_of trees own ≡ Some node.birth = ap (option_map (λ (n : NodePtr). n.birth)) is in
    let names : name ≡ own = stand.births name own node.birth one two in
    let nodes : found.node ≡ node = same_Some found.node node (sym found.there ∙ ap (node_of trees) names ∙ is) in
    found.same ∙ (λ i. end_of (content (names i).btree) (nodes i))
