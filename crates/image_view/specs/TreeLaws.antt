-- What roots and updates mean depends on the sets of the nodes that are read, and of no others.
use Rattle.std.proofs.Common.{◌≡◌, ℕ, zero, suc, List, [], ◌∷◌, ◌++◌, map, Result, Ok, Err, refl, sym, ap, subst, ◌∙◌, Option, Some, None}
use Rattle.std.specs.List.{AllByRecursion, filter, flat_map}
use Rattle.std.specs.Map.{values_of}
use Rattle.std.specs.Option.{option_map_or}
use Rattle.std.specs.Prelude.{unwrap_or}
use Rattle.std.proofs.lemmas.Grind.{flat_map-append}
use Rattle.key_codec.specs.Combined.{bind_ok, ok_is}
use Rattle.key_codec.specs.Formats.{◌>>=◌}
use Rattle.node_store.specs.NodeContents.{NodeContent}
use Rattle.tree_nodes.specs.Levels.{Level, Levels}
use Rattle.vol_types.specs.Positions.{greatest_pos, least_pos, next_pos}
use Rattle.vol_types.specs.declared.keys.Update.{Update}
use Rattle.vol_types.specs.declared.pointers.NodePtr.{NodePtr}
use Rattle.vol_types.specs.declared.pointers.Place.{Place}
use Rattle.vol_types.specs.declared.positions.Btree.{Btree}
use Rattle.vol_types.specs.declared.positions.Pos.{Pos}
use Rattle.image_view.specs.Trees.{BtreeRead, NodeRead, SetsOf, TreesRead, Wanted, btree_of, children_of, each_of, ends_of, first_place, first_twin, is_of_node, joined, nodes_of, read_down, read_level, read_node, trees_of, updated, with_own_births, with_roots}

-- The second sets of a node are the first, whatever it is looked for as.
abbrev pub HasSameSets : SetsOf → SetsOf → NodePtr → Type 0
HasSameSets one other pointer = (btree : Btree) (least greatest : Pos) → other (record { btree = btree; least = least; greatest = greatest; pointer = pointer }) ≡ one (record { btree = btree; least = least; greatest = greatest; pointer = pointer })

-- So it is of each of some nodes.
abbrev pub HaveSameSets : SetsOf → SetsOf → List NodePtr → Type 0
HaveSameSets one other pointers = AllByRecursion (HasSameSets one other) pointers

all_left : {X : Type 0} (P : X → Type 0) (xs ys : List X) → AllByRecursion P (xs ++ ys) → AllByRecursion P xs
all_left P [] ys all = tt
all_left P (x ∷ xs) ys all = (all.0, all_left P xs ys all.1)

all_right : {X : Type 0} (P : X → Type 0) (xs ys : List X) → AllByRecursion P (xs ++ ys) → AllByRecursion P ys
all_right P [] ys all = all
all_right P (x ∷ xs) ys all = all_right P xs ys all.1

module _ (one other : SetsOf) (updates : List Update) where
  -- A level is read alike where its nodes have the same sets.
  level-same : (btree : Btree) (least : Pos) (nodes : Level) → HaveSameSets one other (values_of nodes) → read_level other updates btree least nodes ≡ read_level one updates btree least nodes
  level-same btree least [] same = refl
  level-same btree least (node ∷ nodes) same =
      let wanted : Wanted = record { btree = btree; least = least; greatest = node.0; pointer = node.1 } in
      let next : Pos = unwrap_or (next_pos node.0) greatest_pos in
      let first : read_node other updates wanted ≡ read_node one updates wanted = ap (λ r. r >>= (λ read. Ok (record { greatest = node.0; pointer = node.1; entries = updated (filter (is_of_node wanted) updates) read.entries; end = read.end }))) (same.0 btree least node.0) in
      ap (λ r. r >>= (λ first. read_level other updates btree next nodes >>= (λ others. Ok (first ∷ others)))) first
      ∙ ap (λ rest. read_node one updates wanted >>= (λ first. rest >>= (λ others. Ok (first ∷ others)))) (level-same btree next nodes same.1)

  -- So is a btree from a level down.
  down-same : (btree : Btree) (level : ℕ) (nodes : Level) (read : BtreeRead) → read_down one updates btree level nodes ≡ Ok read → HaveSameSets one other (flat_map values_of read.levels) → read_down other updates btree level nodes ≡ Ok read
  down-same btree zero nodes read is same =
      let leaves : List NodeRead → Result BtreeRead Place = λ read. Ok (record { entries = flat_map (λ node. node.entries) read; levels = nodes ∷ []; ends = ends_of read }) in
      let level = bind_ok (read_level one updates btree least_pos nodes) leaves read is in
      let levels : nodes ∷ [] ≡ read.levels = ap (λ (r : BtreeRead). r.levels) (ok_is _ _ level.2) in
      let here : HaveSameSets one other (values_of nodes ++ []) = subst (λ (ls : Levels). HaveSameSets one other (flat_map values_of ls)) (sym levels) same in
      ap (λ r. r >>= leaves) (level-same btree least_pos nodes (all_left (HasSameSets one other) (values_of nodes) [] here)) ∙ is
  down-same btree (suc level) nodes read is same =
      let with_rest : List NodeRead → BtreeRead → Result BtreeRead Place = λ read rest. Ok (record { entries = rest.entries; levels = rest.levels ++ nodes ∷ []; ends = ends_of read ++ rest.ends }) in
      let down_by : SetsOf → List NodeRead → List Level → Result BtreeRead Place = λ sets read below. read_down sets updates btree level (flat_map (λ children. children) below) >>= with_rest read in
      let children_by : SetsOf → List NodeRead → Result BtreeRead Place = λ sets read. each_of (children_of level) read >>= down_by sets read in
      let first = bind_ok (read_level one updates btree least_pos nodes) (children_by one) read is in
      let below = bind_ok (each_of (children_of level) first.0) (down_by one first.0) read first.2 in
      let rest = bind_ok (read_down one updates btree level (flat_map (λ children. children) below.0)) (with_rest first.0) read below.2 in
      let levels : rest.0.levels ++ nodes ∷ [] ≡ read.levels = ap (λ (r : BtreeRead). r.levels) (ok_is _ _ rest.2) in
      let all : HaveSameSets one other (flat_map values_of rest.0.levels ++ (values_of nodes ++ [])) =
      subst (λ ps. HaveSameSets one other ps) (flat_map-append values_of rest.0.levels (nodes ∷ [])) (subst (λ (ls : Levels). HaveSameSets one other (flat_map values_of ls)) (sym levels) same) in
      let upper = all_left (HasSameSets one other) (values_of nodes) [] (all_right (HasSameSets one other) (flat_map values_of rest.0.levels) (values_of nodes ++ []) all) in
      let lower = all_left (HasSameSets one other) (flat_map values_of rest.0.levels) (values_of nodes ++ []) all in
      ap (λ r. r >>= children_by other) (level-same btree least_pos nodes upper)
      ∙ ap (λ r. r >>= children_by other) first.1
      ∙ ap (λ r. r >>= down_by other first.0) below.1
      ∙ ap (λ r. r >>= with_rest first.0) (down-same btree level (flat_map (λ children. children) below.0) rest.0 rest.1 lower)
      ∙ rest.2

  -- So are all btrees.
  btrees-same : (pairs : List (Btree × NodePtr)) (reads : List BtreeRead) → each_of (btree_of one updates) pairs ≡ Ok reads → HaveSameSets one other (nodes_of (map (λ btree. btree.levels) reads)) → each_of (btree_of other updates) pairs ≡ Ok reads
  btrees-same [] reads is same = is
  btrees-same (pair ∷ pairs) reads is same =
      let with_rest : BtreeRead → List BtreeRead → Result (List BtreeRead) Place = λ read rest. Ok (read ∷ rest) in
      let others_by : SetsOf → BtreeRead → Result (List BtreeRead) Place = λ sets read. each_of (btree_of sets updates) pairs >>= with_rest read in
      let first = bind_ok (btree_of one updates pair) (others_by one) reads is in
      let rest = bind_ok (each_of (btree_of one updates) pairs) (with_rest first.0) reads first.2 in
      let all : HaveSameSets one other (flat_map values_of first.0.levels ++ nodes_of (map (λ btree. btree.levels) rest.0)) =
      subst (λ (rs : List BtreeRead). HaveSameSets one other (nodes_of (map (λ btree. btree.levels) rs))) (sym (ok_is _ _ rest.2)) same in
      let here = all_left (HasSameSets one other) (flat_map values_of first.0.levels) (nodes_of (map (λ btree. btree.levels) rest.0)) all in
      let later = all_right (HasSameSets one other) (flat_map values_of first.0.levels) (nodes_of (map (λ btree. btree.levels) rest.0)) all in
      ap (λ r. r >>= others_by other) (down-same pair.0 pair.1.level ((greatest_pos, pair.1) ∷ []) first.0 first.1 here)
      ∙ ap (λ r. r >>= with_rest first.0) (btrees-same pairs rest.0 rest.1 later)
      ∙ rest.2

-- What the sets of each node that is read say of it, all nodes have that were read.
module _ (P : NodePtr → Type 0) (sets : SetsOf) (updates : List Update) (has : (wanted : Wanted) (content : NodeContent) → sets wanted ≡ Ok content → P wanted.pointer) where
  all_both : (xs ys : List NodePtr) → AllByRecursion P xs → AllByRecursion P ys → AllByRecursion P (xs ++ ys)
  all_both [] ys one other = other
  all_both (x ∷ xs) ys one other = (one.0, all_both xs ys one.1 other)

  level-each : (btree : Btree) (least : Pos) (nodes : Level) (read : List NodeRead) → read_level sets updates btree least nodes ≡ Ok read → AllByRecursion P (values_of nodes)
  level-each btree least [] read is = tt
  level-each btree least (node ∷ nodes) read is =
      let wanted : Wanted = record { btree = btree; least = least; greatest = node.0; pointer = node.1 } in
      let next : Pos = unwrap_or (next_pos node.0) greatest_pos in
      let first = bind_ok (read_node sets updates wanted) (λ (first : NodeRead). read_level sets updates btree next nodes >>= (λ others. Ok (first ∷ others))) read is in
      let own = bind_ok (sets wanted) (λ (content : NodeContent). Ok (record { greatest = node.0; pointer = node.1; entries = updated (filter (is_of_node wanted) updates) content.entries; end = content.end })) first.0 first.1 in
      let rest = bind_ok (read_level sets updates btree next nodes) (λ others. Ok (first.0 ∷ others)) read first.2 in
      (has wanted own.0 own.1, level-each btree next nodes rest.0 rest.1)

  down-each : (btree : Btree) (level : ℕ) (nodes : Level) (read : BtreeRead) → read_down sets updates btree level nodes ≡ Ok read → AllByRecursion P (flat_map values_of read.levels)
  down-each btree zero nodes read is =
      let level = bind_ok (read_level sets updates btree least_pos nodes) (λ (read : List NodeRead). Ok (record { entries = flat_map (λ node. node.entries) read; levels = nodes ∷ []; ends = ends_of read })) read is in
      let levels : nodes ∷ [] ≡ read.levels = ap (λ (r : BtreeRead). r.levels) (ok_is _ _ level.2) in
      subst (λ (ls : Levels). AllByRecursion P (flat_map values_of ls)) levels (all_both (values_of nodes) [] (level-each btree least_pos nodes level.0 level.1) tt)
  down-each btree (suc level) nodes read is =
      let with_rest : List NodeRead → BtreeRead → Result BtreeRead Place = λ read rest. Ok (record { entries = rest.entries; levels = rest.levels ++ nodes ∷ []; ends = ends_of read ++ rest.ends }) in
      let down_from : List NodeRead → List Level → Result BtreeRead Place = λ read below. read_down sets updates btree level (flat_map (λ children. children) below) >>= with_rest read in
      let first = bind_ok (read_level sets updates btree least_pos nodes) (λ (read : List NodeRead). each_of (children_of level) read >>= down_from read) read is in
      let below = bind_ok (each_of (children_of level) first.0) (down_from first.0) read first.2 in
      let rest = bind_ok (read_down sets updates btree level (flat_map (λ children. children) below.0)) (with_rest first.0) read below.2 in
      let levels : rest.0.levels ++ nodes ∷ [] ≡ read.levels = ap (λ (r : BtreeRead). r.levels) (ok_is _ _ rest.2) in
      subst (λ (ls : Levels). AllByRecursion P (flat_map values_of ls)) levels
      (subst (λ ps. AllByRecursion P ps) (sym (flat_map-append values_of rest.0.levels (nodes ∷ [])))
      (all_both (flat_map values_of rest.0.levels) (values_of nodes ++ []) (down-each btree level (flat_map (λ children. children) below.0) rest.0 rest.1)
      (all_both (values_of nodes) [] (level-each btree least_pos nodes first.0 first.1) tt)))

  btrees-each : (pairs : List (Btree × NodePtr)) (reads : List BtreeRead) → each_of (btree_of sets updates) pairs ≡ Ok reads → AllByRecursion P (nodes_of (map (λ btree. btree.levels) reads))
  btrees-each [] reads is = subst (λ (rs : List BtreeRead). AllByRecursion P (nodes_of (map (λ btree. btree.levels) rs))) (ok_is _ _ is) tt
  btrees-each (pair ∷ pairs) reads is =
      let with_rest : BtreeRead → List BtreeRead → Result (List BtreeRead) Place = λ read rest. Ok (read ∷ rest) in
      let first = bind_ok (btree_of sets updates pair) (λ (read : BtreeRead). each_of (btree_of sets updates) pairs >>= with_rest read) reads is in
      let rest = bind_ok (each_of (btree_of sets updates) pairs) (with_rest first.0) reads first.2 in
      subst (λ (rs : List BtreeRead). AllByRecursion P (nodes_of (map (λ btree. btree.levels) rs))) (ok_is _ _ rest.2)
      (all_both (flat_map values_of first.0.levels) (nodes_of (map (λ btree. btree.levels) rest.0))
      (down-each pair.0 pair.1.level ((greatest_pos, pair.1) ∷ []) first.0 first.1) (btrees-each pairs rest.0 rest.1))

own_births-ok : (twin : Option NodePtr) (read result : TreesRead) → option_map_or (λ (node : NodePtr). Err (first_place node)) twin (Ok read) ≡ Ok result → read ≡ result
own_births-ok None read result is = ok_is read result is
own_births-ok (Some node) read result is = absurd cc

-- So it is of what roots and updates mean.
pub trees_of-each : (P : NodePtr → Type 0) (sets : SetsOf) (updates : List Update) → ((wanted : Wanted) (content : NodeContent) → sets wanted ≡ Ok content → P wanted.pointer)
    → (roots : List NodePtr) (read : TreesRead) → trees_of sets updates roots ≡ Ok read → AllByRecursion P (nodes_of read.nodes)
unfolding trees_of
trees_of-each P sets updates has roots read is =
    let btrees = bind_ok (each_of (btree_of sets updates) (with_roots roots)) (λ (btrees : List BtreeRead). with_own_births (joined btrees)) read is in
    let made : joined btrees.0 ≡ read = own_births-ok (first_twin (nodes_of (joined btrees.0).nodes)) (joined btrees.0) read btrees.2 in
    subst (λ (r : TreesRead). AllByRecursion P (nodes_of r.nodes)) made (btrees-each P sets updates has (with_roots roots) btrees.0 btrees.1)

-- What roots and updates mean stays where all nodes that were read have the same sets.
pub trees_of-same : (one other : SetsOf) (updates : List Update) (roots : List NodePtr) (read : TreesRead) → trees_of one updates roots ≡ Ok read → HaveSameSets one other (nodes_of read.nodes) → trees_of other updates roots ≡ Ok read
unfolding trees_of
trees_of-same one other updates roots read is same =
    let btrees = bind_ok (each_of (btree_of one updates) (with_roots roots)) with_own_trees read is in
    let made : joined btrees.0 ≡ read = own_births-ok (first_twin (nodes_of (joined btrees.0).nodes)) (joined btrees.0) read btrees.2 in
    ap (λ r. r >>= with_own_trees) (btrees-same one other updates (with_roots roots) btrees.0 btrees.1 (subst (λ (r : TreesRead). HaveSameSets one other (nodes_of r.nodes)) (sym made) same)) ∙ btrees.2
  where
    with_own_trees : List BtreeRead → Result TreesRead Place
    with_own_trees btrees = with_own_births (joined btrees)
