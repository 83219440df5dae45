-- Each node that was read has an end that was found, which is where its sets end, and each end is one of a node.
use Rattle.std.proofs.Common.{◌≡◌, ◌⊎◌, inl, inr, ⊎_elim, ℕ, zero, suc, ◌<◌, List, [], ◌∷◌, ◌++◌, length, map, Option, Some, None, Result, Ok, Err, refl, sym, ap, subst, ◌∙◌, arith}
use Rattle.std.specs.List.{AllByRecursion, filter, flat_map}
use Rattle.std.specs.Map.{values_of}
use Rattle.std.specs.Option.{option_map_or}
use Rattle.std.specs.Prelude.{Contains, unwrap_or}
use Rattle.std.proofs.lemmas.Grind.{flat_map-append}
use Rattle.std.proofs.lemmas.List.{map-append}
use Rattle.key_codec.specs.Combined.{bind_ok, ok_is}
use Rattle.key_codec.specs.Formats.{◌>>=◌}
use Rattle.node_store.specs.NodeContents.{NodeContent}
use Rattle.tree_nodes.specs.Levels.{Level}
use Rattle.vol_types.specs.Positions.{greatest_pos, least_pos, next_pos}
use Rattle.vol_types.specs.declared.keys.Update.{Update}
use Rattle.vol_types.specs.declared.pointers.NodeEnd.{NodeEnd}
use Rattle.vol_types.specs.declared.pointers.NodePtr.{NodePtr}
use Rattle.vol_types.specs.declared.pointers.Place.{Place}
use Rattle.vol_types.specs.declared.positions.Btree.{Btree}
use Rattle.vol_types.specs.declared.positions.Pos.{Pos}
use Rattle.image_view.specs.Trees.{BtreeRead, NodeRead, SetsOf, TreesRead, Wanted, btree_of, children_of, each_of, ends_of, first_place, first_twin, is_of_node, joined, nodes_of, read_down, read_level, read_node, trees_of, updated, with_own_births, with_roots}

-- ---- members of lists

-- It is one of the list.
abbrev pub IsIn : {X : Type 0} → X → List X → Type 0
IsIn x [] = ⊥
IsIn x (y ∷ ys) = (x ≡ y) ⊎ IsIn x ys

pub in_left : {X : Type 0} (x : X) (xs ys : List X) → IsIn x xs → IsIn x (xs ++ ys)
in_left x [] ys is = absurd is
in_left x (y ∷ xs) ys is = ⊎_elim (λ (here : x ≡ y). inl here) (λ (later : IsIn x xs). inr (in_left x xs ys later)) is

pub in_right : {X : Type 0} (x : X) (xs ys : List X) → IsIn x ys → IsIn x (xs ++ ys)
in_right x [] ys is = is
in_right x (y ∷ xs) ys is = inr (in_right x xs ys is)

pub in_either : {X : Type 0} (x : X) (xs ys : List X) → IsIn x (xs ++ ys) → IsIn x xs ⊎ IsIn x ys
in_either x [] ys is = inr is
in_either x (y ∷ xs) ys is = ⊎_elim
    (λ (here : x ≡ y). inl (inl here))
    (λ (later : IsIn x (xs ++ ys)). ⊎_elim (λ (one : IsIn x xs). inl (inr one)) (λ (other : IsIn x ys). inr other) (in_either x xs ys later))
    is

pub in_contained : {X : Type 0} (x : X) (xs : List X) → Contains xs x → IsIn x xs
in_contained x [] there = absurd (omega (arith, there.1))
in_contained x (y ∷ xs) (zero, within, at) = inl (sym at)
in_contained x (y ∷ xs) (suc k, within, at) = inr (in_contained x xs (k, (let lower : k < length xs = omega (arith, within) in lower), at))

pub contained_in : {X : Type 0} (x : X) (xs : List X) → IsIn x xs → Contains xs x
contained_in x [] is = absurd is
contained_in x (y ∷ xs) is = ⊎_elim
    (λ (here : x ≡ y). (0, omega arith, sym here))
    (λ (later : IsIn x xs). let there = contained_in x xs later in (suc there.0, (let l = there.1 in omega (arith, l)), there.2))
    is

all_both : {X : Type 0} (P : X → Type 0) (xs ys : List X) → AllByRecursion P xs → AllByRecursion P ys → AllByRecursion P (xs ++ ys)
all_both P [] ys one other = other
all_both P (x ∷ xs) ys one other = (one.0, all_both P xs ys one.1 other)

-- ---- nodes and their ends

-- The node was read so: its sets come to what ends there.
pub record IsReadBy (sets : SetsOf) (read : NodeRead) : Type 0 where
  pub wanted : Wanted
  pub pointer_is : wanted.pointer ≡ read.pointer
  pub content : NodeContent
  pub comes : sets wanted ≡ Ok content
  pub end_is : content.end ≡ read.end

-- where nodes that were read lie
abbrev pub pointers : List NodeRead → List NodePtr
pointers reads = map (λ (node : NodeRead). node.pointer) reads

-- Some nodes were read, each with its end; in which order isn't said.
pub record AreReadBy (sets : SetsOf) (nodes : List NodePtr) (ends : List NodeEnd) : Type 0 where
  pub reads : List NodeRead
  pub each : AllByRecursion (IsReadBy sets) reads
  pub ends_are : ends_of reads ≡ ends
  pub into : (x : NodePtr) → IsIn x (pointers reads) → IsIn x nodes
  pub from : (x : NodePtr) → IsIn x nodes → IsIn x (pointers reads)

none_read : (sets : SetsOf) → AreReadBy sets [] []
none_read sets = record { reads = []; each = tt; ends_are = refl; into = λ x is. is; from = λ x is. is }

module _ (sets : SetsOf) (ns ms : List NodePtr) (es fs : List NodeEnd) (one : AreReadBy sets ns es) (other : AreReadBy sets ms fs) where
  abbrev reads : List NodeRead
  reads = one.reads ++ other.reads

  both_each : AllByRecursion (IsReadBy sets) reads
  both_each = all_both (IsReadBy sets) one.reads other.reads one.each other.each

  both_ends : ends_of reads ≡ es ++ fs
  both_ends =
      map-append (λ (node : NodeRead). record { birth = node.pointer.birth; block = node.end }) one.reads other.reads
      ∙ ap (λ (xs : List NodeEnd). xs ++ ends_of other.reads) one.ends_are ∙ ap (λ (xs : List NodeEnd). es ++ xs) other.ends_are

  parts : pointers reads ≡ pointers one.reads ++ pointers other.reads
  parts = map-append (λ (node : NodeRead). node.pointer) one.reads other.reads

  into_either : (x : NodePtr) → IsIn x (pointers reads) → IsIn x ns ⊎ IsIn x ms
  into_either x is = ⊎_elim
      (λ (first : IsIn x (pointers one.reads)). inl (one.into x first))
      (λ (second : IsIn x (pointers other.reads)). inr (other.into x second))
      (in_either x (pointers one.reads) (pointers other.reads) (subst (λ (ps : List NodePtr). IsIn x ps) parts is))

  from_one : (x : NodePtr) → IsIn x ns → IsIn x (pointers reads)
  from_one x is = subst (λ (ps : List NodePtr). IsIn x ps) (sym parts) (in_left x (pointers one.reads) (pointers other.reads) (one.from x is))

  from_other : (x : NodePtr) → IsIn x ms → IsIn x (pointers reads)
  from_other x is = subst (λ (ps : List NodePtr). IsIn x ps) (sym parts) (in_right x (pointers one.reads) (pointers other.reads) (other.from x is))

  -- Nodes of two parts,
  both_read : AreReadBy sets (ns ++ ms) (es ++ fs)
  both_read = record {
    reads = reads;
    each = both_each;
    ends_are = both_ends;
    into = λ x is. ⊎_elim (λ (first : IsIn x ns). in_left x ns ms first) (λ (second : IsIn x ms). in_right x ns ms second) (into_either x is);
    from = λ x is. ⊎_elim (λ (first : IsIn x ns). from_one x first) (λ (second : IsIn x ms). from_other x second) (in_either x ns ms is);
  }

  -- or of a part above another one, which stands before it.
  above_read : AreReadBy sets (ms ++ ns) (es ++ fs)
  above_read = record {
    reads = reads;
    each = both_each;
    ends_are = both_ends;
    into = λ x is. ⊎_elim (λ (first : IsIn x ns). in_right x ms ns first) (λ (second : IsIn x ms). in_left x ms ns second) (into_either x is);
    from = λ x is. ⊎_elim (λ (second : IsIn x ms). from_other x second) (λ (first : IsIn x ns). from_one x first) (in_either x ms ns is);
  }

module _ (sets : SetsOf) (updates : List Update) where
  -- ---- level by level

  level_read : (btree : Btree) (least : Pos) (nodes : Level) (reads : List NodeRead) → read_level sets updates btree least nodes ≡ Ok reads → AllByRecursion (IsReadBy sets) reads × (pointers reads ≡ values_of nodes)
  level_read btree least [] reads is =
      let same : [] ≡ reads = ok_is [] reads is in
      (subst (λ (rs : List NodeRead). AllByRecursion (IsReadBy sets) rs) same tt, ap (λ (rs : List NodeRead). pointers rs) (sym same))
  level_read btree least (node ∷ nodes) reads is =
      let wanted : Wanted = record { btree = btree; least = least; greatest = node.0; pointer = node.1 } in
      let next : Pos = unwrap_or (next_pos node.0) greatest_pos in
      let made_of : NodeContent → NodeRead = λ content. record { greatest = node.0; pointer = node.1; entries = updated (filter (is_of_node wanted) updates) content.entries; end = content.end } in
      let first = bind_ok (read_node sets updates wanted) (λ (first : NodeRead). read_level sets updates btree next nodes >>= (λ others. Ok (first ∷ others))) reads is in
      let own = bind_ok (sets wanted) (λ (content : NodeContent). Ok (made_of content)) first.0 first.1 in
      let rest = bind_ok (read_level sets updates btree next nodes) (λ others. Ok (first.0 ∷ others)) reads first.2 in
      let later = level_read btree next nodes rest.0 rest.1 in
      let made : made_of own.0 ≡ first.0 = ok_is (made_of own.0) first.0 own.2 in
      let here : IsReadBy sets first.0 = record { wanted = wanted; pointer_is = ap (λ (r : NodeRead). r.pointer) made; content = own.0; comes = own.1; end_is = ap (λ (r : NodeRead). r.end) made } in
      let all : first.0 ∷ rest.0 ≡ reads = ok_is (first.0 ∷ rest.0) reads rest.2 in (
        subst (λ (rs : List NodeRead). AllByRecursion (IsReadBy sets) rs) all (here, later.0),
        ap (λ (rs : List NodeRead). pointers rs) (sym all) ∙ ap (λ (p : NodePtr). p ∷ pointers rest.0) (sym here.pointer_is) ∙ ap (λ (ps : List NodePtr). node.1 ∷ ps) later.1,
      )

  one_level : (nodes : Level) (reads : List NodeRead) → AllByRecursion (IsReadBy sets) reads × (pointers reads ≡ values_of nodes) → AreReadBy sets (values_of nodes ++ []) (ends_of reads)
  one_level nodes reads are = record {
    reads = reads;
    each = are.0;
    ends_are = refl;
    into = λ x is. in_left x (values_of nodes) [] (subst (λ (ps : List NodePtr). IsIn x ps) are.1 is);
    from = λ x is. subst (λ (ps : List NodePtr). IsIn x ps) (sym are.1) (⊎_elim (λ (one : IsIn x (values_of nodes)). one) (λ (none : ⊥). absurd none) (in_either x (values_of nodes) [] is));
  }

  -- A btree from a level down.
  down_read : (btree : Btree) (level : ℕ) (nodes : Level) (read : BtreeRead) → read_down sets updates btree level nodes ≡ Ok read → AreReadBy sets (flat_map values_of read.levels) read.ends
  down_read btree zero nodes read is =
      let leaves : List NodeRead → BtreeRead = λ reads. record { entries = flat_map (λ (node : NodeRead). node.entries) reads; levels = nodes ∷ []; ends = ends_of reads } in
      let level = bind_ok (read_level sets updates btree least_pos nodes) (λ (reads : List NodeRead). Ok (leaves reads)) read is in
      let made : leaves level.0 ≡ read = ok_is (leaves level.0) read level.2 in
      subst (λ (r : BtreeRead). AreReadBy sets (flat_map values_of r.levels) r.ends) made (one_level nodes level.0 (level_read btree least_pos nodes level.0 level.1))
  down_read btree (suc level) nodes read is =
      let over : List NodeRead → BtreeRead → BtreeRead = λ reads rest. record { entries = rest.entries; levels = rest.levels ++ nodes ∷ []; ends = ends_of reads ++ rest.ends } in
      let with_rest : List NodeRead → BtreeRead → Result BtreeRead Place = λ reads rest. Ok (over reads rest) in
      let down_from : List NodeRead → List Level → Result BtreeRead Place = λ reads below. read_down sets updates btree level (flat_map (λ children. children) below) >>= with_rest reads in
      let first = bind_ok (read_level sets updates btree least_pos nodes) (λ (reads : List NodeRead). each_of (children_of level) reads >>= down_from reads) read is in
      let below = bind_ok (each_of (children_of level) first.0) (down_from first.0) read first.2 in
      let rest = bind_ok (read_down sets updates btree level (flat_map (λ children. children) below.0)) (with_rest first.0) read below.2 in
      let made : over first.0 rest.0 ≡ read = ok_is (over first.0 rest.0) read rest.2 in
      subst (λ (r : BtreeRead). AreReadBy sets (flat_map values_of r.levels) r.ends) made
      (subst (λ (ps : List NodePtr). AreReadBy sets ps (ends_of first.0 ++ rest.0.ends)) (sym (flat_map-append values_of rest.0.levels (nodes ∷ [])))
      (above_read sets (values_of nodes ++ []) (flat_map values_of rest.0.levels) (ends_of first.0) rest.0.ends
      (one_level nodes first.0 (level_read btree least_pos nodes first.0 first.1)) (down_read btree level (flat_map (λ children. children) below.0) rest.0 rest.1)))

  -- All btrees.
  btrees_read : (pairs : List (Btree × NodePtr)) (reads : List BtreeRead) → each_of (btree_of sets updates) pairs ≡ Ok reads → AreReadBy sets (nodes_of (map (λ btree. btree.levels) reads)) (flat_map (λ btree. btree.ends) reads)
  btrees_read [] reads is = subst (λ (rs : List BtreeRead). AreReadBy sets (nodes_of (map (λ btree. btree.levels) rs)) (flat_map (λ btree. btree.ends) rs)) (ok_is [] reads is) (none_read sets)
  btrees_read (pair ∷ pairs) reads is =
      let with_rest : BtreeRead → List BtreeRead → Result (List BtreeRead) Place = λ read rest. Ok (read ∷ rest) in
      let first = bind_ok (btree_of sets updates pair) (λ (read : BtreeRead). each_of (btree_of sets updates) pairs >>= with_rest read) reads is in
      let rest = bind_ok (each_of (btree_of sets updates) pairs) (with_rest first.0) reads first.2 in
      subst (λ (rs : List BtreeRead). AreReadBy sets (nodes_of (map (λ btree. btree.levels) rs)) (flat_map (λ btree. btree.ends) rs)) (ok_is (first.0 ∷ rest.0) reads rest.2)
      (both_read sets (flat_map values_of first.0.levels) (nodes_of (map (λ btree. btree.levels) rest.0)) first.0.ends (flat_map (λ btree. btree.ends) rest.0)
      (down_read pair.0 pair.1.level ((greatest_pos, pair.1) ∷ []) first.0 first.1) (btrees_read pairs rest.0 rest.1))

pub own_births : (twin : Option NodePtr) (all read : TreesRead) → option_map_or (λ (node : NodePtr). Err (first_place node)) twin (Ok all) ≡ Ok read → (twin ≡ None) × (all ≡ read)
own_births None all read is = (refl, ok_is all read is)
own_births (Some node) all read is = absurd cc

-- What roots and updates mean: each node with its end, and no node has the birth of a later one.
pub trees_read_by : (sets : SetsOf) (updates : List Update) (roots : List NodePtr) (read : TreesRead) → trees_of sets updates roots ≡ Ok read → AreReadBy sets (nodes_of read.nodes) read.ends × (first_twin (nodes_of read.nodes) ≡ None)
unfolding trees_of
trees_read_by sets updates roots read is =
    let btrees = bind_ok (each_of (btree_of sets updates) (with_roots roots)) (λ (btrees : List BtreeRead). with_own_births (joined btrees)) read is in
    let own = own_births (first_twin (nodes_of (joined btrees.0).nodes)) (joined btrees.0) read btrees.2 in (
      subst (λ (r : TreesRead). AreReadBy sets (nodes_of r.nodes) r.ends) own.1 (btrees_read sets updates (with_roots roots) btrees.0 btrees.1),
      subst (λ (r : TreesRead). first_twin (nodes_of r.nodes) ≡ None) own.1 own.0,
    )

-- ---- which end a node has

-- A node that was read has an end that was found, and its sets come to what ends there.
pub record HasEnd (sets : SetsOf) (ends : List NodeEnd) (node : NodePtr) : Type 0 where
  pub wanted : Wanted
  pub pointer_is : wanted.pointer ≡ node
  pub content : NodeContent
  pub comes : sets wanted ≡ Ok content
  pub there : Contains ends (record { birth = node.birth; block = content.end })

end_of_read : (sets : SetsOf) (reads : List NodeRead) → AllByRecursion (IsReadBy sets) reads → (node : NodePtr) → IsIn node (pointers reads) → HasEnd sets (ends_of reads) node
end_of_read sets [] each node is = absurd is
end_of_read sets (read ∷ reads) each node is = ⊎_elim
    (λ (here : node ≡ read.pointer). record {
      wanted = each.0.wanted;
      pointer_is = each.0.pointer_is ∙ sym here;
      content = each.0.content;
      comes = each.0.comes;
      there = (0, omega arith, (λ i. record { birth = (ap (λ (p : NodePtr). p.birth) (sym here)) i; block = (sym each.0.end_is) i }));
    })
    (λ (later : IsIn node (pointers reads)).
    let has = end_of_read sets reads each.1 node later in
    let there = has.there in
    record {
      wanted = has.wanted;
      pointer_is = has.pointer_is;
      content = has.content;
      comes = has.comes;
      there = (suc there.0, (let lower = there.1 in omega (arith, lower)), there.2);
    })
    is

pub has_end : (sets : SetsOf) (nodes : List NodePtr) (ends : List NodeEnd) → AreReadBy sets nodes ends → (node : NodePtr) → IsIn node nodes → HasEnd sets ends node
has_end sets nodes ends are node is = subst (λ (es : List NodeEnd). HasEnd sets es node) are.ends_are (end_of_read sets are.reads are.each node (are.from node is))

-- An end is that of a node that was read.
pub record IsEndOfOne (sets : SetsOf) (nodes : List NodePtr) (end : NodeEnd) : Type 0 where
  pub wanted : Wanted
  pub one : IsIn wanted.pointer nodes
  pub born : wanted.pointer.birth ≡ end.birth
  pub content : NodeContent
  pub comes : sets wanted ≡ Ok content
  pub end_is : content.end ≡ end.block

read_of_end : (sets : SetsOf) (reads : List NodeRead) → AllByRecursion (IsReadBy sets) reads → (end : NodeEnd) → IsIn end (ends_of reads) → IsEndOfOne sets (pointers reads) end
read_of_end sets [] each end is = absurd is
read_of_end sets (read ∷ reads) each end is = ⊎_elim
    (λ (here : end ≡ record { birth = read.pointer.birth; block = read.end }). record {
      wanted = each.0.wanted;
      one = inl each.0.pointer_is;
      born = ap (λ (p : NodePtr). p.birth) each.0.pointer_is ∙ ap (λ (e : NodeEnd). e.birth) (sym here);
      content = each.0.content;
      comes = each.0.comes;
      end_is = each.0.end_is ∙ ap (λ (e : NodeEnd). e.block) (sym here);
    })
    (λ (later : IsIn end (ends_of reads)).
    let of_one = read_of_end sets reads each.1 end later in
    record {
      wanted = of_one.wanted;
      one = inr of_one.one;
      born = of_one.born;
      content = of_one.content;
      comes = of_one.comes;
      end_is = of_one.end_is;
    })
    is

pub end_of_one : (sets : SetsOf) (nodes : List NodePtr) (ends : List NodeEnd) → AreReadBy sets nodes ends → (end : NodeEnd) → Contains ends end → IsEndOfOne sets nodes end
end_of_one sets nodes ends are end there =
    let of_one = read_of_end sets are.reads are.each end (in_contained end (ends_of are.reads) (subst (λ (es : List NodeEnd). Contains es end) (sym are.ends_are) there)) in
    record {
      wanted = of_one.wanted;
      one = are.into of_one.wanted.pointer of_one.one;
      born = of_one.born;
      content = of_one.content;
      comes = of_one.comes;
      end_is = of_one.end_is;
    }
