-- A btree that can be read from its root stands, and so do nine.
use Rattle.std.proofs.Common.{◌≡◌, ℕ, zero, suc, ◌+◌, ◌-◌, ◌<◌, ◌≤◌, ⊎_elim, List, [], ◌∷◌, ◌++◌, length, map, Option, Some, None, Result, Ok, Err, get_or, refl, sym, ap, subst, ◌∙◌, arith}
use Rattle.std.specs.Prelude.{All, is_some, slice_get}
use Rattle.std.specs.List.{AllByRecursion, flat_map, zip}
use Rattle.std.specs.List.Sorted.{IsStrictlySortedBy}
use Rattle.std.specs.Map.{values_of}
use Rattle.std.specs.Option.{option_map_or}
use Rattle.std.proofs.lemmas.Bool.{cases_lt, true≢false}
use Rattle.std.proofs.lemmas.List.{get_or_append_left, get_or_past, get_or_push, length-append}
use Rattle.std.proofs.lemmas.List.Elements.{All-cons, All-nil, recursion_from_All}
use Rattle.std.proofs.lemmas.Option.{same_Some}
use Rattle.image_view.specs.Trees.{BtreeRead, NodeRead, SetsOf, TreesRead, all_btrees, btree_of, each_of, ends_of, first_place, first_twin, joined, no_btree, nodes_of, read_down, read_level, trees_of, with_own_births, with_roots}
use Rattle.image_view.specs.Trees.{children_of as read_children}
use Rattle.image_view.specs.UpdatedTrees.{IsOfLeaf}
use Rattle.interior.specs.Contents.{entry_of}
use Rattle.key_codec.specs.Combined.{bind_ok, ok_is}
use Rattle.key_codec.specs.Formats.{◌>>=◌}
use Rattle.tree_nodes.specs.Levels.{EndsAt, IsLevel, IsNested, IsNodeOf, IsTree, Level, Levels, children_of, level_of}
use Rattle.tree_nodes.specs.TreeLaws.{level-there}
use Rattle.vol_types.specs.Btrees.{btree_code}
use Rattle.vol_types.specs.Maps.{value_at}
use Rattle.vol_types.specs.Positions.{greatest_pos, least_pos, pos_cmp}
use Rattle.vol_types.specs.Ranges.{IsNode, IsValue}
use Rattle.vol_types.specs.Widths.{PosFits}
use Rattle.vol_types.specs.declared.keys.Update.{Update}
use Rattle.vol_types.specs.declared.pointers.NodePtr.{NodePtr}
use Rattle.vol_types.specs.declared.pointers.Place.{Place}
use Rattle.vol_types.specs.declared.positions.Btree.{Btree}
use Rattle.vol_types.specs.declared.positions.Btree.TheVariants.{Extents, Inodes, Dirents, Subvols, Snapshots, Alloc, Backptrs, Deleted, Counters}
use Rattle.vol_types.specs.declared.positions.Pos.{Pos}
use Rattle.btree_laws.specs.HeldContents.{ComeTo}
use Rattle.btree_laws.specs.Standing.{AreOwnEntries, Contents, IsNodeIn, StandAsBtrees, StandsAsBtree, read_of, wanted_at}
use Rattle.btree_laws.proofs.OwnBirths.{births_differ}
use Rattle.btree_laws.proofs.ReadLevels.{level_comes, level_entries, lists_are_below, upper_reads}
use Rattle.btree_laws.proofs.Reading.{AreNumbered, btree_read}
use Rattle.btree_laws.proofs.Twins.{each_node}

-- a btree that was read, and no fault
abbrev was_read : BtreeRead → Result BtreeRead Place
was_read read = Ok read

-- the nodes of all lists, one list after the other
abbrev all_children : List Level → Level
all_children lists = flat_map (λ children. children) lists

module _ (sets : SetsOf) (content : Btree → Contents) (come : ComeTo sets content) (updates : List Update) (leaves : AllByRecursion IsOfLeaf updates) (btree : Btree) where
  -- ---- from a level down

  -- The level's nodes have their contents.
  abbrev Comes : Level → Type 0
  Comes nodes = (at : Pos) (node : NodePtr) → value_at pos_cmp at nodes ≡ Some node → sets (wanted_at btree nodes at node) ≡ Ok (content btree node)

  -- Each node of a level above another one ends where one of that does, and has its children as entries.
  record IsOver (above below : Level) : Type 0 where
    nested : IsNested above below
    children : (at : Pos) (node : NodePtr) → value_at pos_cmp at above ≡ Some node → (content btree node).entries ≡ map entry_of (children_of at above below)

  -- The btree has these levels, from this one down.
  record IsDown (level : ℕ) (nodes : Level) (levels : Levels) : Type 0 where
    count : length levels ≡ suc level
    top : level_of levels level ≡ nodes
    each : (lower : ℕ) → lower < suc level → IsLevel lower (level_of levels lower)
    comes : (lower : ℕ) → lower < suc level → Comes (level_of levels lower)
    over : (lower : ℕ) → lower < level → IsOver (level_of levels (suc lower)) (level_of levels lower)

  leaves_down : (nodes : Level) → IsLevel 0 nodes → Comes nodes → IsDown 0 nodes (nodes ∷ [])
  leaves_down nodes is comes = record {
    count = refl;
    top = refl;
    each = λ lower lt. let here : 0 ≡ lower = omega (arith, lt) in subst (λ n. IsLevel n (level_of (nodes ∷ []) n)) here is;
    comes = λ lower lt. let here : 0 ≡ lower = omega (arith, lt) in subst (λ n. Comes (level_of (nodes ∷ []) n)) here comes;
    over = λ lower lt. absurd (omega (arith, lt));
  }

  -- a level over those below it
  level_over : (level : ℕ) (nodes below : Level) (levels : Levels) → IsLevel (suc level) nodes → Comes nodes → IsOver nodes below → IsDown level below levels → IsDown (suc level) nodes (levels ++ nodes ∷ [])
  level_over level nodes below levels is comes over down =
      let all : Levels = levels ++ nodes ∷ [] in
      let count = down.count in
      let lower_is : (lower : ℕ) → lower < suc level → level_of all lower ≡ level_of levels lower = λ lower lt. get_or_append_left levels (nodes ∷ []) [] lower (omega (arith, lt, count)) in
      let top_is : level_of all (suc level) ≡ nodes = get_or_push levels nodes [] (suc level) count in
      let each_level : (P : ℕ → Level → Type 0) → ((lower : ℕ) → lower < suc level → P lower (level_of levels lower)) → P (suc level) nodes → (lower : ℕ) → lower < suc (suc level) → P lower (level_of all lower) = λ P lower_all top lower lt. ⊎_elim
      (λ (under : lower < suc level). subst (P lower) (sym (lower_is lower under)) (lower_all lower under))
      (λ (not_under : suc level ≤ lower). let here : suc level ≡ lower = omega (arith, lt, not_under) in subst (λ n. P n (level_of all n)) here (subst (P (suc level)) (sym top_is) top))
      (cases_lt lower (suc level)) in
      record {
        count = length-append levels (nodes ∷ []) ∙ (let e : length levels + 1 ≡ suc (suc level) = omega (arith, count) in e);
        top = top_is;
        each = each_level (λ lower nodes. IsLevel lower nodes) down.each is;
        comes = each_level (λ lower nodes. Comes nodes) down.comes comes;
        over = λ lower lt. ⊎_elim
            (λ (under : lower < level). subst (λ (up : Level). IsOver up (level_of all lower)) (sym (lower_is (suc lower) (omega (arith, under)))) (subst (IsOver (level_of levels (suc lower))) (sym (lower_is lower (omega (arith, under)))) (down.over lower under)))
            (λ (not_under : level ≤ lower).
            let here : level ≡ lower = omega (arith, lt, not_under) in
            subst (λ n. IsOver (level_of all (suc n)) (level_of all n)) here (subst (λ (up : Level). IsOver up (level_of all level)) (sym top_is) (subst (IsOver nodes) (sym (lower_is level (omega arith) ∙ down.top)) over)))
            (cases_lt lower level);
      }

  -- The nodes of a level are numbered by it.
  numbered : (level : ℕ) (nodes : Level) → IsLevel level nodes → AreNumbered level nodes
  numbered level nodes is = by (values_of nodes) (recursion_from_All (IsNodeOf level) (values_of nodes) is.each)
    where
      by : (all : List NodePtr) → AllByRecursion (IsNodeOf level) all → AllByRecursion (λ (node : NodePtr). node.level ≡ level) all
      by [] each = tt
      by (node ∷ all) each = (each.0.numbered, by all each.1)

  -- A level that was read stands over those below it, which were read down from the nodes to which it leads.
  down_over : (level : ℕ) (nodes : Level) (read : BtreeRead) (first : List NodeRead) (lists : List Level) (rest : BtreeRead) → IsLevel (suc level) nodes → read_level sets updates btree least_pos nodes ≡ Ok first → each_of (read_children level) first ≡ Ok lists
      → (IsLevel level (all_children lists) → IsDown level (all_children lists) rest.levels) → was_read (record { entries = rest.entries; levels = rest.levels ++ nodes ∷ []; ends = ends_of first ++ rest.ends }) ≡ Ok read → IsDown (suc level) nodes read.levels
  down_over level nodes read first lists rest is reads leads down same =
      let entries = level_entries sets content come updates leaves btree nodes is.row.rises first reads in
      let values = each_node (λ (node : NodePtr). AllByRecursion IsValue (values_of (content btree node).entries)) nodes is.row.rises (λ at node there. recursion_from_All IsValue (values_of (content btree node).entries) (entries at node there).in_range) in
      let plain = upper_reads sets content come updates leaves btree level least_pos nodes first (numbered (suc level) nodes is) reads in
      let below = lists_are_below (content btree) level nodes is entries lists values (ap (each_of (read_children level)) plain ∙ leads) in
      let comes = level_comes sets content come updates leaves btree nodes is.row.rises first reads in
      subst (IsDown (suc level) nodes) (ap (λ (r : BtreeRead). r.levels) (ok_is (record { entries = rest.entries; levels = rest.levels ++ nodes ∷ []; ends = ends_of first ++ rest.ends }) read same))
      (level_over level nodes (all_children lists) rest.levels is comes (record { nested = below.nested; children = below.children }) (down below.level_is))

  -- What is read from a level down has levels that stand, from this one down.
  down_is : (level : ℕ) (nodes : Level) (read : BtreeRead) → IsLevel level nodes → read_down sets updates btree level nodes ≡ Ok read → IsDown level nodes read.levels
  down_is zero nodes read is e =
      let by_leaves : List NodeRead → Result BtreeRead Place = λ reads. Ok (record { entries = flat_map (λ node. node.entries) reads; levels = nodes ∷ []; ends = ends_of reads }) in
      let step = bind_ok (read_level sets updates btree least_pos nodes) by_leaves read e in
      subst (IsDown 0 nodes) (ap (λ (r : BtreeRead). r.levels) (ok_is (record { entries = flat_map (λ (node : NodeRead). node.entries) step.0; levels = nodes ∷ []; ends = ends_of step.0 }) read step.2))
      (leaves_down nodes is (level_comes sets content come updates leaves btree nodes is.row.rises step.0 step.1))
  down_is (suc level) nodes read is e =
      let with_rest : List NodeRead → BtreeRead → Result BtreeRead Place = λ reads rest. Ok (record { entries = rest.entries; levels = rest.levels ++ nodes ∷ []; ends = ends_of reads ++ rest.ends }) in
      let down_by : List NodeRead → List Level → Result BtreeRead Place = λ reads lists. read_down sets updates btree level (flat_map (λ children. children) lists) >>= with_rest reads in
      let children_by : List NodeRead → Result BtreeRead Place = λ reads. each_of (read_children level) reads >>= down_by reads in
      let first = bind_ok (read_level sets updates btree least_pos nodes) children_by read e in
      let lists = bind_ok (each_of (read_children level) first.0) (down_by first.0) read first.2 in
      let rest = bind_ok (read_down sets updates btree level (all_children lists.0)) (with_rest first.0) read lists.2 in
      down_over level nodes read first.0 lists.0 rest.0 is first.1 lists.1 (λ lower. down_is level (all_children lists.0) rest.0 lower rest.1) rest.2

  -- ---- a btree

  -- a root as the only node of its level
  root_level : (root : NodePtr) → IsNode root → IsLevel root.level ((greatest_pos, root) ∷ [])
  unfolding IsStrictlySortedBy
  root_level root is = record {
    row = record { rises = (tt, tt); fits = All-cons PosFits greatest_pos [] (record { inode = omega arith; offset = omega arith; snapshot = omega arith }) (All-nil PosFits) };
    ends = refl;
    each = All-cons (IsNodeOf root.level) root [] (record { numbered = refl; in_range = is }) (All-nil (IsNodeOf root.level));
  }

  -- no node ends anywhere where there is no level
  none_ends : (levels : Levels) (level : ℕ) (at : Pos) → length levels ≤ level → EndsAt (level_of levels level) at → ⊥
  none_ends levels level at past ends = true≢false (sym ends ∙ ap (λ (nodes : Level). is_some (value_at pos_cmp at nodes)) (get_or_past levels level [] past))

  tree_down : (root : NodePtr) (levels : Levels) → IsDown root.level ((greatest_pos, root) ∷ []) levels → IsTree levels
  tree_down root levels is =
      let count = is.count in
      record {
        each = λ level lt. is.each level (omega (arith, lt, count));
        nested = λ level at. ⊎_elim
            (λ (lower : level < root.level). let up : suc level ≡ level + 1 = omega arith in subst (λ n. EndsAt (level_of levels n) at → EndsAt (level_of levels level) at) up ((is.over level lower).nested at))
            (λ (not_lower : root.level ≤ level). λ there. absurd (none_ends levels (level + 1) at (omega (arith, not_lower, count)) there))
            (cases_lt level root.level);
        root =
            let last : length levels - 1 ≡ root.level = omega (arith, count) in
            ap (λ n. length (level_of levels n)) last ∙ ap length is.top;
      }

  down_stands : (root : NodePtr) (levels : Levels) → IsDown root.level ((greatest_pos, root) ∷ []) levels → StandsAsBtree sets btree root levels (content btree)
  down_stands root levels is = record {
    tree = tree_down root levels is;
    top = (let last : length levels - 1 ≡ root.level = (let count = is.count in omega (arith, count)) in ap (level_of levels) last ∙ is.top);
    each = λ level at node there.
        let less = level-there levels level at (ap is_some there) in
        let within : level < suc root.level = (let count = is.count in omega (arith, less, count)) in
        record { comes = is.comes level within at node there; entries = own level at node within there };
  }
    where
      own : (level : ℕ) (at : Pos) (node : NodePtr) → level < suc root.level → IsNodeIn levels level at node → AreOwnEntries levels level at (content btree node).entries
      own zero at node within there = (come.entries (wanted_at btree (level_of levels 0) at node) (content btree node) (is.comes zero within at node there)).keys
      own (suc level) at node within there =
          let down : level ≡ suc level - 1 = omega arith in
          (is.over level (omega (arith, within))).children at node there ∙ ap (λ n. map entry_of (children_of at (level_of levels (suc level)) (level_of levels n))) down

  -- A btree that is read from its root stands.
  pub found_stands : (root : NodePtr) (read : BtreeRead) → IsNode root → btree_of sets updates (btree, root) ≡ Ok read → StandsAsBtree sets btree root read.levels (content btree)
  found_stands root read is e = down_stands root read.levels (down_is root.level ((greatest_pos, root) ∷ []) read (root_level root is) e)

-- Without updates it is read as what stands.
pub found_read : (sets : SetsOf) (content : Btree → Contents) (btree : Btree) (root : NodePtr) (read : BtreeRead) → ComeTo sets content → IsNode root → btree_of sets [] (btree, root) ≡ Ok read
    → StandsAsBtree sets btree root read.levels (content btree) × (read ≡ read_of (content btree) read.levels)
found_read sets content btree root read come is e =
    let stands = found_stands sets content come [] tt btree root read is e in
    (stands, ok_is read (read_of (content btree) read.levels) (sym e ∙ btree_read sets btree root read.levels (content btree) stands))

-- ---- nine btrees

each-length : {F A B : Type 0} (f : A → Result B F) (xs : List A) (ys : List B) → each_of f xs ≡ Ok ys → length ys ≡ length xs
each-length {F} {A} {B} f [] ys is = ap length (sym (ok_is [] ys is))
each-length {F} {A} {B} f (x ∷ xs) ys is =
    let with_first : B → List B → Result (List B) F = λ y others. Ok (y ∷ others) in
    let rest_by : B → Result (List B) F = λ y. each_of f xs >>= with_first y in
    let first = bind_ok (f x) rest_by ys is in
    let rest = bind_ok (each_of f xs) (with_first first.0) ys first.2 in
    ap length (sym (ok_is (first.0 ∷ rest.0) ys rest.2)) ∙ ap suc (each-length f xs rest.0 rest.1)

each-at : {F A B : Type 0} (f : A → Result B F) (xs : List A) (ys : List B) (d : B) (place : ℕ) (x : A) → each_of f xs ≡ Ok ys → slice_get xs place ≡ Some x → f x ≡ Ok (get_or ys place d)
each-at {F} {A} {B} f [] ys d place x is at = absurd cc
each-at {F} {A} {B} f (y ∷ xs) ys d zero x is at =
    let with_first : B → List B → Result (List B) F = λ y others. Ok (y ∷ others) in
    let rest_by : B → Result (List B) F = λ y. each_of f xs >>= with_first y in
    let first = bind_ok (f y) rest_by ys is in
    let rest = bind_ok (each_of f xs) (with_first first.0) ys first.2 in
    ap f (sym (same_Some y x at)) ∙ first.1 ∙ ap (λ (zs : List B). Ok (get_or zs 0 d)) (ok_is (first.0 ∷ rest.0) ys rest.2)
each-at {F} {A} {B} f (y ∷ xs) ys d (suc place) x is at =
    let with_first : B → List B → Result (List B) F = λ y others. Ok (y ∷ others) in
    let rest_by : B → Result (List B) F = λ y. each_of f xs >>= with_first y in
    let first = bind_ok (f y) rest_by ys is in
    let rest = bind_ok (each_of f xs) (with_first first.0) ys first.2 in
    each-at f xs rest.0 d place x rest.1 at ∙ ap (λ (zs : List B). Ok (get_or zs (suc place) d)) (ok_is (first.0 ∷ rest.0) ys rest.2)

-- What stands at a place of both of two lists stands there as a pair.
paired : {A B : Type 0} (xs : List A) (ys : List B) (place : ℕ) (x : A) (y : B) → slice_get xs place ≡ Some x → slice_get ys place ≡ Some y → slice_get (zip xs ys) place ≡ Some (x, y)
paired [] ys place x y first second = absurd (true≢false (sym (ap is_some first)))
paired (a ∷ xs) [] place x y first second = absurd (true≢false (sym (ap is_some second)))
paired (a ∷ xs) (b ∷ ys) zero x y first second = λ i. Some (same_Some a x first i, same_Some b y second i)
paired (a ∷ xs) (b ∷ ys) (suc place) x y first second = paired xs ys place x y first second

-- A btree stands at the place of its number.
numbered_btree : (btree : Btree) → slice_get all_btrees (btree_code btree) ≡ Some btree
numbered_btree Extents = refl
numbered_btree Inodes = refl
numbered_btree Dirents = refl
numbered_btree Subvols = refl
numbered_btree Snapshots = refl
numbered_btree Alloc = refl
numbered_btree Backptrs = refl
numbered_btree Deleted = refl
numbered_btree Counters = refl

nine_pairs : (roots : List NodePtr) → length roots ≡ 9 → length (with_roots roots) ≡ 9
nine_pairs [] nine = absurd (omega (arith, nine))
nine_pairs (a ∷ []) nine = absurd (omega (arith, nine))
nine_pairs (a ∷ b ∷ []) nine = absurd (omega (arith, nine))
nine_pairs (a ∷ b ∷ c ∷ []) nine = absurd (omega (arith, nine))
nine_pairs (a ∷ b ∷ c ∷ d ∷ []) nine = absurd (omega (arith, nine))
nine_pairs (a ∷ b ∷ c ∷ d ∷ e ∷ []) nine = absurd (omega (arith, nine))
nine_pairs (a ∷ b ∷ c ∷ d ∷ e ∷ f ∷ []) nine = absurd (omega (arith, nine))
nine_pairs (a ∷ b ∷ c ∷ d ∷ e ∷ f ∷ g ∷ []) nine = absurd (omega (arith, nine))
nine_pairs (a ∷ b ∷ c ∷ d ∷ e ∷ f ∷ g ∷ h ∷ []) nine = absurd (omega (arith, nine))
nine_pairs (a ∷ b ∷ c ∷ d ∷ e ∷ f ∷ g ∷ h ∷ i ∷ more) nine = refl

levels_at : (btrees : List BtreeRead) (place : ℕ) → get_or (map (λ (btree : BtreeRead). btree.levels) btrees) place [] ≡ (get_or btrees place no_btree).levels
levels_at [] place = refl
levels_at (b ∷ btrees) zero = refl
levels_at (b ∷ btrees) (suc place) = levels_at btrees place

as_many : (btrees : List BtreeRead) → length (map (λ (btree : BtreeRead). btree.levels) btrees) ≡ length btrees
as_many [] = refl
as_many (b ∷ btrees) = ap suc (as_many btrees)

root_in_range : (roots : List NodePtr) (place : ℕ) (root : NodePtr) → AllByRecursion IsNode roots → slice_get roots place ≡ Some root → IsNode root
root_in_range [] place root all is = absurd (true≢false (sym (ap is_some is)))
root_in_range (r ∷ roots) zero root all is = subst IsNode (same_Some r root is) all.0
root_in_range (r ∷ roots) (suc place) root all is = root_in_range roots place root all.1 is

own_births : (twin : Option NodePtr) (all read : TreesRead) → option_map_or (λ (node : NodePtr). Err (first_place node)) twin (Ok all) ≡ Ok read → (twin ≡ None) × (all ≡ read)
own_births None all read is = (refl, ok_is all read is)
own_births (Some node) all read is = absurd cc

module _ (sets : SetsOf) (content : Btree → Contents) (roots : List NodePtr) (updates : List Update) (come : ComeTo sets content) (nine : length roots ≡ 9) (in_range : All IsNode roots) (leaves : All IsOfLeaf updates) where
  joined_stand : (btrees : List BtreeRead) → each_of (btree_of sets updates) (with_roots roots) ≡ Ok btrees → first_twin (nodes_of (joined btrees).nodes) ≡ None → StandAsBtrees sets roots (joined btrees).nodes content
  joined_stand btrees is apart = record {
    roots_are = nine;
    trees_are = as_many btrees ∙ each-length (btree_of sets updates) (with_roots roots) btrees is ∙ nine_pairs roots nine;
    each = λ btree root at.
        let pair = paired all_btrees roots (btree_code btree) btree root (numbered_btree btree) at in
        let read = each-at (btree_of sets updates) (with_roots roots) btrees no_btree (btree_code btree) (btree, root) is pair in
        subst (λ (levels : Levels). StandsAsBtree sets btree root levels (content btree)) (sym (levels_at btrees (btree_code btree)))
        (found_stands sets content come updates (recursion_from_All IsOfLeaf updates leaves) btree root (get_or btrees (btree_code btree) no_btree) (root_in_range roots (btree_code btree) root (recursion_from_All IsNode roots in_range) at) read);
    births = births_differ (joined btrees).nodes apart;
  }

  -- Nine btrees that are read from their roots stand.
  pub btrees_stand : (read : TreesRead) → trees_of sets updates roots ≡ Ok read → StandAsBtrees sets roots read.nodes content
  unfolding trees_of
  btrees_stand read is =
      let btrees = bind_ok (each_of (btree_of sets updates) (with_roots roots)) with_own_trees read is in
      let own = own_births (first_twin (nodes_of (joined btrees.0).nodes)) (joined btrees.0) read btrees.2 in
      subst (λ (r : TreesRead). StandAsBtrees sets roots r.nodes content) own.1 (joined_stand btrees.0 btrees.1 own.0)
    where
      with_own_trees : List BtreeRead → Result TreesRead Place
      with_own_trees btrees = with_own_births (joined btrees)
