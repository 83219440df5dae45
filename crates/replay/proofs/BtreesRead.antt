-- Btrees that were read are those of a key map: the nodes of each are a tree, whose leaves cut its keys.
use Rattle.std.proofs.Common.{◌≡◌, ℕ, zero, suc, ◌+◌, ◌-◌, ◌<◌, ◌≤◌, ⊎_elim, List, [], ◌∷◌, ◌++◌, length, map, Option, Some, Result, Ok, get_or, refl, sym, ap, subst, ◌∙◌, arith}
use Rattle.std.specs.List.{AllByRecursion, flat_map, zip}
use Rattle.std.specs.List.Sorted.{IsStrictlySortedBy}
use Rattle.std.specs.Map.{keys_of, values_of}
use Rattle.std.specs.Prelude.{All, is_some, option_map, slice_get}
use Rattle.std.proofs.lemmas.Bool.{cases_lt, true≢false}
use Rattle.std.proofs.lemmas.List.{get_or_append_left, get_or_past, get_or_push, length-append}
use Rattle.std.proofs.lemmas.List.Elements.{All-cons, All-nil}
use Rattle.birth_index.specs.Births.{levels_of}
use Rattle.btree_map.specs.Trees.{IsBtree, IsTrees, cut_of, keys_in}
use Rattle.image_view.specs.Trees.{BtreeRead, NodeRead, SetsOf, TreesRead, all_btrees, btree_of, children_of, each_of, ends_of, joined, no_btree, read_down, read_level, with_roots}
use Rattle.key_codec.specs.Combined.{bind_ok, ok_is}
use Rattle.key_codec.specs.Formats.{◌>>=◌}
use Rattle.tree_keys.specs.Cuts.{Cut, IsCut}
use Rattle.tree_nodes.specs.Levels.{EndsAt, IsLevel, IsNested, IsNodeOf, Level, Levels, level_of}
use Rattle.vol_types.specs.Btrees.{btree_code}
use Rattle.vol_types.specs.KeyMapLaws.{entries_of-key_map}
use Rattle.vol_types.specs.KeyMaps.{entries_of}
use Rattle.vol_types.specs.Maps.{value_at}
use Rattle.vol_types.specs.Positions.{greatest_pos, least_pos, pos_cmp}
use Rattle.vol_types.specs.Ranges.{IsNode}
use Rattle.vol_types.specs.Standing.{MayStand}
use Rattle.vol_types.specs.Widths.{PosFits}
use Rattle.vol_types.specs.declared.keys.Update.{Update}
use Rattle.vol_types.specs.declared.pointers.NodeEnd.{NodeEnd}
use Rattle.vol_types.specs.declared.pointers.NodePtr.{NodePtr}
use Rattle.vol_types.specs.declared.pointers.Place.{Place}
use Rattle.vol_types.specs.declared.positions.Btree.{Btree}
use Rattle.vol_types.specs.declared.positions.Btree.TheVariants.{Extents, Inodes, Dirents, Subvols, Snapshots, Alloc, Backptrs, Deleted, Counters}
use Rattle.vol_types.specs.declared.positions.Pos.{Pos}
use Rattle.replay.specs.Volumes.{cut_read, trees_read}
use Rattle.replay.proofs.LevelsRead.{AreChildren, AreRead, AreSound, IsSoundUpdate, all_children, all_entries, children_are, end-ends_at, ends_at-end, entries_fit, entries_rise, entries_stand, level_is_read}

-- the keys of a btree that was read, cut at the ends of its leaves
abbrev cut_down : BtreeRead → Cut
cut_down read = record { entries = read.entries; ends = keys_of (level_of read.levels 0) }

-- The btree was read from this level down.
pub record IsDown (btree : Btree) (level : ℕ) (nodes : Level) (read : BtreeRead) : Type 0 where
  pub count : length read.levels ≡ suc level
  pub top : level_of read.levels level ≡ nodes
  pub each : (lower : ℕ) → lower < suc level → IsLevel lower (level_of read.levels lower)
  pub nested : (lower : ℕ) → lower < level → IsNested (level_of read.levels (lower + 1)) (level_of read.levels lower)
  pub keys : IsCut (cut_down read)
  pub stand : All (MayStand btree 0) (values_of read.entries)

-- ---- from a level down

-- the leaves, with their entries
leaves_down : (btree : Btree) (nodes : Level) (reads : List NodeRead) → IsLevel 0 nodes → AreRead btree least_pos nodes reads → IsDown btree 0 nodes (record { entries = all_entries reads; levels = nodes ∷ []; ends = ends_of reads })
leaves_down btree nodes reads is are =
    let values = entries_stand btree 0 least_pos nodes reads is.each are in
    record {
      count = refl;
      top = refl;
      each = λ lower lt. let here : 0 ≡ lower = omega (arith, lt) in subst (λ n. IsLevel n (level_of (nodes ∷ []) n)) here is;
      nested = λ lower lt. absurd (omega (arith, lt));
      keys = record {
        rises = entries_rise btree least_pos nodes reads is.row are;
        fit = entries_fit btree least_pos nodes reads are;
        in_range = values.0;
        ends = record { rise = is.row.rises; fit = is.row.fits; whole = ends_at-end nodes greatest_pos is.ends };
      };
      stand = values.1;
    }

-- The level below, as it is made of the entries of this one.
level_below : (btree : Btree) (level : ℕ) (nodes : Level) (reads : List NodeRead) (below : Level) → IsLevel (suc level) nodes → AreRead btree least_pos nodes reads → AreChildren level nodes reads below → IsLevel level below × IsNested nodes below
level_below btree level nodes reads below is are children = (
  record {
    row = record {
      rises = subst (IsStrictlySortedBy pos_cmp) (sym children.keys) (entries_rise btree least_pos nodes reads is.row are);
      fits = subst (All PosFits) (sym children.keys) (entries_fit btree least_pos nodes reads are);
    };
    ends = end-ends_at below greatest_pos (children.ends greatest_pos (ends_at-end nodes greatest_pos is.ends));
    each = children.each;
  },
  λ at there. end-ends_at below at (children.ends at (ends_at-end nodes at there)),
)

-- a level over those below it
level_over : (btree : Btree) (level : ℕ) (nodes below : Level) (rest : BtreeRead) (ends : List NodeEnd) → IsLevel (suc level) nodes → IsNested nodes below → IsDown btree level below rest
    → IsDown btree (suc level) nodes (record { entries = rest.entries; levels = rest.levels ++ nodes ∷ []; ends = ends })
level_over btree level nodes below rest ends is nested down =
    let joined : Levels = rest.levels ++ nodes ∷ [] in
    let lower_is : (lower : ℕ) → lower < suc level → level_of joined lower ≡ level_of rest.levels lower = λ lower lt. get_or_append_left rest.levels (nodes ∷ []) [] lower (omega (arith, lt, down.count)) in
    let top_is : level_of joined (suc level) ≡ nodes = get_or_push rest.levels nodes [] (suc level) down.count in
    record {
      count = length-append rest.levels (nodes ∷ []) ∙ (let e : length rest.levels + 1 ≡ suc (suc level) = omega (arith, down.count) in e);
      top = top_is;
      each = λ lower lt. ⊎_elim
          (λ (under : lower < suc level). subst (IsLevel lower) (sym (lower_is lower under)) (down.each lower under))
          (λ (not_under : suc level ≤ lower). let here : suc level ≡ lower = omega (arith, lt, not_under) in subst (λ n. IsLevel n (level_of joined n)) here (subst (IsLevel (suc level)) (sym top_is) is))
          (cases_lt lower (suc level));
      nested = λ lower lt. ⊎_elim
          (λ (under : lower < level). subst (λ (up : Level). IsNested up (level_of joined lower)) (sym (lower_is (lower + 1) (omega (arith, under)))) (subst (IsNested (level_of rest.levels (lower + 1))) (sym (lower_is lower (omega (arith, under)))) (down.nested lower under)))
          (λ (not_under : level ≤ lower).
          let here : level ≡ lower = omega (arith, lt, not_under) in
          let up_is : level_of joined (level + 1) ≡ nodes = (let e : level + 1 ≡ suc level = omega arith in ap (level_of joined) e) ∙ top_is in
          subst (λ n. IsNested (level_of joined (n + 1)) (level_of joined n)) here (subst (λ (up : Level). IsNested up (level_of joined level)) (sym up_is) (subst (IsNested nodes) (sym (lower_is level (omega arith) ∙ down.top)) nested)))
          (cases_lt lower level);
      keys = subst (λ (leaves : Level). IsCut (record { entries = rest.entries; ends = keys_of leaves })) (sym (lower_is 0 (omega arith))) down.keys;
      stand = down.stand;
    }

-- a btree that was read, and no fault
abbrev was_read : BtreeRead → Result BtreeRead Place
was_read read = Ok read

module _ (sets : SetsOf) (updates : List Update) (sound : AreSound sets) (may : AllByRecursion IsSoundUpdate updates) where
  -- A level that was read over those below it, which were read down from its children.
  down_over : (btree : Btree) (level : ℕ) (nodes : Level) (read : BtreeRead) (first : List NodeRead) (lists : List Level) (rest : BtreeRead) → IsLevel (suc level) nodes → read_level sets updates btree least_pos nodes ≡ Ok first
      → each_of (children_of level) first ≡ Ok lists → (IsLevel level (all_children lists) → IsDown btree level (all_children lists) rest)
      → was_read (record { entries = rest.entries; levels = rest.levels ++ nodes ∷ []; ends = ends_of first ++ rest.ends }) ≡ Ok read → IsDown btree (suc level) nodes read
  down_over btree level nodes read first lists rest is reads leads down same =
      let are = level_is_read sets updates sound may btree least_pos nodes first reads in
      let below = level_below btree level nodes first (all_children lists) is are (children_are btree level least_pos nodes first lists are leads) in
      subst (IsDown btree (suc level) nodes) (ok_is (record { entries = rest.entries; levels = rest.levels ++ nodes ∷ []; ends = ends_of first ++ rest.ends }) read same) (level_over btree level nodes (all_children lists) rest (ends_of first ++ rest.ends) is below.1 (down below.0))

  -- What is read from a level down is a tree from this level down.
  down_is : (btree : Btree) (level : ℕ) (nodes : Level) (read : BtreeRead) → IsLevel level nodes → read_down sets updates btree level nodes ≡ Ok read → IsDown btree level nodes read
  down_is btree zero nodes read is e =
      let leaves : List NodeRead → Result BtreeRead Place = λ reads. Ok (record { entries = flat_map (λ node. node.entries) reads; levels = nodes ∷ []; ends = ends_of reads }) in
      let step = bind_ok (read_level sets updates btree least_pos nodes) leaves read e in
      subst (IsDown btree 0 nodes) (ok_is (record { entries = all_entries step.0; levels = nodes ∷ []; ends = ends_of step.0 }) read step.2)
      (leaves_down btree nodes step.0 is (level_is_read sets updates sound may btree least_pos nodes step.0 step.1))
  down_is btree (suc level) nodes read is e =
      let with_rest : List NodeRead → BtreeRead → Result BtreeRead Place = λ reads rest. Ok (record { entries = rest.entries; levels = rest.levels ++ nodes ∷ []; ends = ends_of reads ++ rest.ends }) in
      let down_by : List NodeRead → List Level → Result BtreeRead Place = λ reads lists. read_down sets updates btree level (flat_map (λ children. children) lists) >>= with_rest reads in
      let children_by : List NodeRead → Result BtreeRead Place = λ reads. each_of (children_of level) reads >>= down_by reads in
      let first = bind_ok (read_level sets updates btree least_pos nodes) children_by read e in
      let lists = bind_ok (each_of (children_of level) first.0) (down_by first.0) read first.2 in
      let rest = bind_ok (read_down sets updates btree level (all_children lists.0)) (with_rest first.0) read lists.2 in
      down_over btree level nodes read first.0 lists.0 rest.0 is first.1 lists.1 (λ lower. down_is btree level (all_children lists.0) rest.0 lower rest.1) rest.2

-- ---- a btree

-- a root as the only node of its level
root_level : (root : NodePtr) → IsNode root → IsLevel root.level ((greatest_pos, root) ∷ [])
unfolding IsStrictlySortedBy
root_level root is = record {
  row = record { rises = (tt, tt); fits = All-cons PosFits greatest_pos [] (record { inode = omega arith; offset = omega arith; snapshot = omega arith }) (All-nil PosFits) };
  ends = refl;
  each = All-cons (IsNodeOf root.level) root [] (record { numbered = refl; in_range = is }) (All-nil (IsNodeOf root.level));
}

-- no node ends anywhere where there is no level
none_ends : (levels : Levels) (level : ℕ) (at : Pos) → length levels ≤ level → EndsAt (level_of levels level) at → ⊥
none_ends levels level at past ends = true≢false (sym ends ∙ ap (λ (nodes : Level). is_some (value_at pos_cmp at nodes)) (get_or_past levels level [] past))

-- A btree that was read from its root down is one.
tree_down : (btree : Btree) (root : NodePtr) (read : BtreeRead) → IsDown btree root.level ((greatest_pos, root) ∷ []) read → IsBtree btree (cut_down read) read.levels
tree_down btree root read is = record {
  keys = is.keys;
  nodes = record {
    each = λ level lt. is.each level (omega (arith, lt, is.count));
    nested = λ level at there. ⊎_elim
        (λ (lower : level < root.level). is.nested level lower at there)
        (λ (not_lower : root.level ≤ level). absurd (none_ends read.levels (level + 1) at (omega (arith, not_lower, is.count)) there))
        (cases_lt level root.level);
    root =
        let last : length read.levels - 1 ≡ root.level = omega (arith, is.count) in
        ap (λ n. length (level_of read.levels n)) last ∙ ap length is.top;
  };
  leaves = refl;
  stand = is.stand;
}

-- ---- all btrees

each-length : {F A B : Type 0} (f : A → Result B F) (xs : List A) (ys : List B) → each_of f xs ≡ Ok ys → length ys ≡ length xs
each-length {F} {A} {B} f [] ys is = ap length (sym (ok_is [] ys is))
each-length {F} {A} {B} f (x ∷ xs) ys is =
    let with_first : B → List B → Result (List B) F = λ y others. Ok (y ∷ others) in
    let rest_by : B → Result (List B) F = λ y. each_of f xs >>= with_first y in
    let first = bind_ok (f x) rest_by ys is in
    let rest = bind_ok (each_of f xs) (with_first first.0) ys first.2 in
    ap length (sym (ok_is (first.0 ∷ rest.0) ys rest.2)) ∙ ap suc (each-length f xs rest.0 rest.1)

each-at : {F A B : Type 0} (f : A → Result B F) (xs : List A) (ys : List B) (d : B) (place : ℕ) (x : A) → each_of f xs ≡ Ok ys → slice_get xs place ≡ Some x → f x ≡ Ok (get_or ys place d)
each-at {F} {A} {B} f [] ys d place x is at = absurd cc
each-at {F} {A} {B} f (y ∷ xs) ys d zero x is at =
    let with_first : B → List B → Result (List B) F = λ y others. Ok (y ∷ others) in
    let rest_by : B → Result (List B) F = λ y. each_of f xs >>= with_first y in
    let first = bind_ok (f y) rest_by ys is in
    let rest = bind_ok (each_of f xs) (with_first first.0) ys first.2 in
    let same : y ≡ x = cc in
    ap f (sym same) ∙ first.1 ∙ ap (λ (zs : List B). Ok (get_or zs 0 d)) (ok_is (first.0 ∷ rest.0) ys rest.2)
each-at {F} {A} {B} f (y ∷ xs) ys d (suc place) x is at =
    let with_first : B → List B → Result (List B) F = λ y others. Ok (y ∷ others) in
    let rest_by : B → Result (List B) F = λ y. each_of f xs >>= with_first y in
    let first = bind_ok (f y) rest_by ys is in
    let rest = bind_ok (each_of f xs) (with_first first.0) ys first.2 in
    each-at f xs rest.0 d place x rest.1 at ∙ ap (λ (zs : List B). Ok (get_or zs (suc place) d)) (ok_is (first.0 ∷ rest.0) ys rest.2)

-- Each btree has a root, where there are nine.
root_at : (roots : List NodePtr) → length roots ≡ 9 → All IsNode roots → (btree : Btree) → (root : NodePtr) × (slice_get (with_roots roots) (btree_code btree) ≡ Some (btree, root)) × IsNode root
root_at [] nine are btree = absurd (omega (arith, nine))
root_at (a ∷ []) nine are btree = absurd (omega (arith, nine))
root_at (a ∷ b ∷ []) nine are btree = absurd (omega (arith, nine))
root_at (a ∷ b ∷ c ∷ []) nine are btree = absurd (omega (arith, nine))
root_at (a ∷ b ∷ c ∷ d ∷ []) nine are btree = absurd (omega (arith, nine))
root_at (a ∷ b ∷ c ∷ d ∷ e ∷ []) nine are btree = absurd (omega (arith, nine))
root_at (a ∷ b ∷ c ∷ d ∷ e ∷ f ∷ []) nine are btree = absurd (omega (arith, nine))
root_at (a ∷ b ∷ c ∷ d ∷ e ∷ f ∷ g ∷ []) nine are btree = absurd (omega (arith, nine))
root_at (a ∷ b ∷ c ∷ d ∷ e ∷ f ∷ g ∷ h ∷ []) nine are btree = absurd (omega (arith, nine))
root_at (a ∷ b ∷ c ∷ d ∷ e ∷ f ∷ g ∷ h ∷ i ∷ j ∷ more) nine are btree = absurd (omega (arith, nine))
root_at (a ∷ b ∷ c ∷ d ∷ e ∷ f ∷ g ∷ h ∷ i ∷ []) nine are Extents = (a, refl, are 0 a (omega arith))
root_at (a ∷ b ∷ c ∷ d ∷ e ∷ f ∷ g ∷ h ∷ i ∷ []) nine are Inodes = (b, refl, are 1 a (omega arith))
root_at (a ∷ b ∷ c ∷ d ∷ e ∷ f ∷ g ∷ h ∷ i ∷ []) nine are Dirents = (c, refl, are 2 a (omega arith))
root_at (a ∷ b ∷ c ∷ d ∷ e ∷ f ∷ g ∷ h ∷ i ∷ []) nine are Subvols = (d, refl, are 3 a (omega arith))
root_at (a ∷ b ∷ c ∷ d ∷ e ∷ f ∷ g ∷ h ∷ i ∷ []) nine are Snapshots = (e, refl, are 4 a (omega arith))
root_at (a ∷ b ∷ c ∷ d ∷ e ∷ f ∷ g ∷ h ∷ i ∷ []) nine are Alloc = (f, refl, are 5 a (omega arith))
root_at (a ∷ b ∷ c ∷ d ∷ e ∷ f ∷ g ∷ h ∷ i ∷ []) nine are Backptrs = (g, refl, are 6 a (omega arith))
root_at (a ∷ b ∷ c ∷ d ∷ e ∷ f ∷ g ∷ h ∷ i ∷ []) nine are Deleted = (h, refl, are 7 a (omega arith))
root_at (a ∷ b ∷ c ∷ d ∷ e ∷ f ∷ g ∷ h ∷ i ∷ []) nine are Counters = (i, refl, are 8 a (omega arith))

-- what stands behind a pair of two lists is of the second one
second_at : {A B : Type 0} (xs : List A) (ys : List B) (place : ℕ) (pair : A × B) → slice_get (zip xs ys) place ≡ Some pair → slice_get ys place ≡ Some pair.1
second_at [] ys place pair at = absurd cc
second_at (x ∷ xs) [] place pair at = absurd cc
second_at {A} {B} (x ∷ xs) (y ∷ ys) zero pair at = ap (λ (o : Option (A × B)). option_map (λ (p : A × B). p.1) o) at
second_at (x ∷ xs) (y ∷ ys) (suc place) pair at = second_at xs ys place pair at

nine_pairs : (roots : List NodePtr) → length roots ≡ 9 → length (with_roots roots) ≡ 9
nine_pairs [] nine = absurd (omega (arith, nine))
nine_pairs (a ∷ []) nine = absurd (omega (arith, nine))
nine_pairs (a ∷ b ∷ []) nine = absurd (omega (arith, nine))
nine_pairs (a ∷ b ∷ c ∷ []) nine = absurd (omega (arith, nine))
nine_pairs (a ∷ b ∷ c ∷ d ∷ []) nine = absurd (omega (arith, nine))
nine_pairs (a ∷ b ∷ c ∷ d ∷ e ∷ []) nine = absurd (omega (arith, nine))
nine_pairs (a ∷ b ∷ c ∷ d ∷ e ∷ f ∷ []) nine = absurd (omega (arith, nine))
nine_pairs (a ∷ b ∷ c ∷ d ∷ e ∷ f ∷ g ∷ []) nine = absurd (omega (arith, nine))
nine_pairs (a ∷ b ∷ c ∷ d ∷ e ∷ f ∷ g ∷ h ∷ []) nine = absurd (omega (arith, nine))
nine_pairs (a ∷ b ∷ c ∷ d ∷ e ∷ f ∷ g ∷ h ∷ i ∷ more) nine = refl

-- Each btree has a root among nine.
pub root_of : (roots : List NodePtr) → length roots ≡ 9 → All IsNode roots → (btree : Btree) → (root : NodePtr) × (slice_get roots (btree_code btree) ≡ Some root)
root_of roots nine are btree = let root = root_at roots nine are btree in (root.0, second_at all_btrees roots (btree_code btree) (btree, root.0) root.1)

levels_at : (btrees : List BtreeRead) (place : ℕ) → get_or (map (λ (btree : BtreeRead). btree.levels) btrees) place [] ≡ (get_or btrees place no_btree).levels
levels_at [] place = refl
levels_at (b ∷ btrees) zero = refl
levels_at (b ∷ btrees) (suc place) = levels_at btrees place

-- the keys of a btree among those of all, each cut at the ends of its leaves
cut_at : (read : TreesRead) (btree : Btree) → cut_of (map (cut_read read) all_btrees) btree ≡ cut_read read btree
cut_at read Extents = refl
cut_at read Inodes = refl
cut_at read Dirents = refl
cut_at read Subvols = refl
cut_at read Snapshots = refl
cut_at read Alloc = refl
cut_at read Backptrs = refl
cut_at read Deleted = refl
cut_at read Counters = refl

-- The key map of the cuts is the one that was read.
pub keys_are : (read : TreesRead) → keys_in (trees_read read) ≡ read.keys
keys_are read = refl

module _ (sets : SetsOf) (updates : List Update) (sound : AreSound sets) (may : AllByRecursion IsSoundUpdate updates) (roots : List NodePtr) (nine : length roots ≡ 9) (are : All IsNode roots) where
  -- Each btree that was read is one.
  each_btree : (btrees : List BtreeRead) → each_of (btree_of sets updates) (with_roots roots) ≡ Ok btrees → (btree : Btree) → IsBtree btree (cut_down (get_or btrees (btree_code btree) no_btree)) (get_or btrees (btree_code btree) no_btree).levels
  each_btree btrees is btree =
      let root = root_at roots nine are btree in
      let read = each-at (btree_of sets updates) (with_roots roots) btrees no_btree (btree_code btree) (btree, root.0) is root.1 in
      tree_down btree root.0 (get_or btrees (btree_code btree) no_btree) (down_is sets updates sound may btree root.0.level ((greatest_pos, root.0) ∷ []) (get_or btrees (btree_code btree) no_btree) (root_level root.0 root.2) read)

  -- Each btree that was read has the levels up to its root's.
  pub each_height : (btrees : List BtreeRead) → each_of (btree_of sets updates) (with_roots roots) ≡ Ok btrees → (btree : Btree) → (root : NodePtr) × (slice_get roots (btree_code btree) ≡ Some root) × (length (levels_of (joined btrees).nodes btree) ≡ suc root.level)
  each_height btrees is btree =
      let root = root_at roots nine are btree in
      let read = each-at (btree_of sets updates) (with_roots roots) btrees no_btree (btree_code btree) (btree, root.0) is root.1 in
      let down = down_is sets updates sound may btree root.0.level ((greatest_pos, root.0) ∷ []) (get_or btrees (btree_code btree) no_btree) (root_level root.0 root.2) read in
      (root.0, second_at all_btrees roots (btree_code btree) (btree, root.0) root.1, ap length (levels_at btrees (btree_code btree)) ∙ down.count)

  -- So all are those of a key map.
  pub joined_are : (btrees : List BtreeRead) → each_of (btree_of sets updates) (with_roots roots) ≡ Ok btrees → IsTrees (trees_read (joined btrees))
  joined_are btrees is = record {
    key_count = refl;
    node_count = as_many btrees ∙ each-length (btree_of sets updates) (with_roots roots) btrees is ∙ nine_pairs roots nine;
    each = λ btree.
        let read : BtreeRead = get_or btrees (btree_code btree) no_btree in
        let levels : levels_of (joined btrees).nodes btree ≡ read.levels = levels_at btrees (btree_code btree) in
        let entries : entries_of (joined btrees).keys btree ≡ read.entries = entries_of-key_map (λ b. (get_or btrees (btree_code b) no_btree).entries) btree in
        let cut : cut_of (map (cut_read (joined btrees)) all_btrees) btree ≡ cut_down read = cut_at (joined btrees) btree ∙ (λ i. record { entries = entries i; ends = keys_of (level_of (levels i) 0) }) in
        subst (λ (c : Cut). IsBtree btree c (levels_of (joined btrees).nodes btree)) (sym cut) (subst (IsBtree btree (cut_down read)) (sym levels) (each_btree btrees is btree));
  }
    where
      as_many : (xs : List BtreeRead) → length (map (λ (btree : BtreeRead). btree.levels) xs) ≡ length xs
      as_many [] = refl
      as_many (x ∷ xs) = ap suc (as_many xs)
