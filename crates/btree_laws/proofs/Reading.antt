-- A btree that stands is read level by level, from the root down.
use Rattle.std.proofs.Common.{◌≡◌, ℕ, zero, suc, ◌+◌, ◌-◌, ◌<◌, Bool, true, false, cond, List, [], ◌∷◌, ◌++◌, length, map, take, Some, None, Result, Ok, Err, refl, sym, ap, subst, ◌∙◌, append_assoc, arith}
use Rattle.std.specs.Prelude.{◌&&◌, IfSome, is_some, slice_get, unwrap_or}
use Rattle.std.specs.BTreeMap.{is_at}
use Rattle.std.specs.List.{AllByRecursion, cons_option, filter, filter_map, flat_map, list_all}
use Rattle.std.specs.Map.{values_of}
use Rattle.std.specs.Option.{option_map_or}
use Rattle.std.specs.Ordering.{is_eq}
use Rattle.std.proofs.lemmas.Bool.{eq-eqb}
use Rattle.std.proofs.lemmas.Cmp.{tied_itself}
use Rattle.std.proofs.lemmas.List.{append-nil}
use Rattle.std.proofs.lemmas.List.Elements.{recursion_from_All}
use Rattle.key_codec.specs.Formats.{◌>>=◌}
use Rattle.node_store.specs.NodeContents.{NodeContent}
use Rattle.image_view.specs.Trees.{BtreeRead, NodeRead, SetsOf, are_children, btree_of, child_in, each_of, ends_at, ends_of, first_place, read_down, read_level, read_node}
use Rattle.image_view.specs.Trees.{children_of as read_children}
use Rattle.interior.specs.Contents.{entry_of}
use Rattle.tree_nodes.specs.ChildLaws.{children-tile}
use Rattle.tree_nodes.specs.CoverLaws.{last-step}
use Rattle.tree_nodes.specs.Levels.{EndsAt, IsNodeOf, IsRow, Level, Levels, Tile, children_of, follower_of, last_of, least_of, level_of}
use Rattle.tree_nodes.specs.TreeLaws.{level-there}
use Rattle.vol_types.specs.KeyMaps.{Entries}
use Rattle.vol_types.specs.Maps.{IsMap, value_at}
use Rattle.vol_types.specs.PositionLaws.{pos_total}
use Rattle.vol_types.specs.Positions.{greatest_pos, is_within, least_pos, next_pos, pos_cmp}
use Rattle.vol_types.specs.declared.pointers.NodePtr.{NodePtr}
use Rattle.vol_types.specs.declared.pointers.Place.{Place}
use Rattle.vol_types.specs.declared.positions.Btree.{Btree}
use Rattle.vol_types.specs.declared.positions.Pos.{Pos}
use Rattle.vol_types.specs.declared.values.Value.{Value}
use Rattle.btree_laws.specs.Standing.{Contents, IsNodeIn, StandsAsBtree, ends_in, leaf_entries, read_of, set_ends, wanted_at}
use Rattle.btree_laws.proofs.Children.{all_children}
use Rattle.btree_laws.proofs.Levels.{behind, last_pushed, least_there, stands_there, step_on}

-- a node that was read, and no fault
abbrev ok_read : NodeRead → Result NodeRead Place
ok_read read = Ok read

-- nodes that were read, and no fault
abbrev ok_reads : List NodeRead → Result (List NodeRead) Place
ok_reads reads = Ok reads

-- levels that were read, and no fault
abbrev ok_lists : List Level → Result (List Level) Place
ok_lists lists = Ok lists

-- a btree that was read, and no fault
abbrev ok_btree : BtreeRead → Result BtreeRead Place
ok_btree read = Ok read

-- what is read of a node whose sets come to its content
abbrev pub node_read : Contents → Pos × NodePtr → NodeRead
node_read content node = record { greatest = node.0; pointer = node.1; entries = (content node.1).entries; end = (content node.1).end }

-- what is read of some nodes
abbrev pub nodes_read : Contents → Level → List NodeRead
nodes_read content nodes = map (node_read content) nodes

-- ---- one level

module _ (sets : SetsOf) (btree : Btree) (content : Contents) (whole : Level) (rises : IsMap pos_cmp whole) (comes : (at : Pos) (node : NodePtr) → value_at pos_cmp at whole ≡ Some node → sets (wanted_at btree whole at node) ≡ Ok (content node)) where
  -- A node behind others is read.
  one_read : (front : Level) (e : Pos × NodePtr) (back : Level) → front ++ e ∷ back ≡ whole → read_node sets [] (record { btree = btree; least = behind front; greatest = e.0; pointer = e.1 }) ≡ ok_read (node_read content e)
  one_read front e back is =
      ap (λ r. r >>= (λ (read : NodeContent). ok_read (record { greatest = e.0; pointer = e.1; entries = read.entries; end = read.end })))
      (ap (λ least. sets (record { btree = btree; least = least; greatest = e.0; pointer = e.1 })) (sym (least_there whole front e back rises is)) ∙ comes e.0 e.1 (stands_there whole front e back rises is))

  -- So are all.
  rest_read : (front nodes : Level) → front ++ nodes ≡ whole → read_level sets [] btree (behind front) nodes ≡ ok_reads (nodes_read content nodes)
  rest_read front [] is = refl
  rest_read front (e ∷ es) is =
      ap (λ r. r >>= (λ first. read_level sets [] btree (unwrap_or (next_pos e.0) greatest_pos) es >>= (λ others. ok_reads (first ∷ others)))) (one_read front e es is)
      ∙ ap (λ least. read_level sets [] btree least es >>= (λ others. ok_reads (node_read content e ∷ others))) (sym (ap follower_of (last_pushed front e)))
      ∙ ap (λ r. r >>= (λ others. ok_reads (node_read content e ∷ others))) (rest_read (front ++ e ∷ []) es (step_on whole front e es is))

-- ---- children

-- The nodes are of the level.
abbrev pub AreNumbered : ℕ → Level → Type 0
AreNumbered level nodes = AllByRecursion (λ (node : NodePtr). node.level ≡ level) (values_of nodes)

-- A pointer leads to its node.
leads : (level : ℕ) (c : Pos × NodePtr) → c.1.level ≡ level → child_in level (entry_of c) ≡ Some c
leads level c is = ap (λ b. cond b (Some c) None) (eq-eqb c.1.level level is)

all_lead : (level : ℕ) (cs : Level) → AreNumbered level cs → list_all (λ entry. is_some (child_in level entry)) (map entry_of cs) ≡ true
all_lead level [] are = refl
all_lead level (c ∷ cs) are = ap (λ o. is_some o && list_all (λ entry. is_some (child_in level entry)) (map entry_of cs)) (leads level c are.0) ∙ all_lead level cs are.1

-- The pointers of nodes lead to these.
led_back : (level : ℕ) (cs : Level) → AreNumbered level cs → filter_map (child_in level) (map entry_of cs) ≡ cs
led_back level [] are = refl
led_back level (c ∷ cs) are = ap (λ o. cons_option o (filter_map (child_in level) (map entry_of cs))) (leads level c are.0) ∙ ap (λ rest. c ∷ rest) (led_back level cs are.1)

-- The pointers of nodes end where these do.
ends_there : (at : Pos) (cs : Level) → 0 < length cs → IfSome (last_of cs) (λ c. c.0 ≡ at) → ends_at at (map entry_of cs) ≡ true
ends_there at [] some last = absurd (omega (arith, some))
ends_there at (c ∷ []) some last = ap is_eq (ap (pos_cmp at) last ∙ tied_itself pos_total at)
ends_there at (c ∷ d ∷ ds) some last =
    let place : suc (suc (length (map entry_of ds))) - 1 ≡ suc (suc (length (map entry_of ds)) - 1) = omega arith in
    let here : last_of (c ∷ d ∷ ds) ≡ last_of (d ∷ ds) = last-step c (d ∷ ds) ∙ sym (last-step d ds ∙ ap Some (sym (one (last-step d ds)))) in
    ap (λ n. option_map_or (λ (entry : Pos × Value). is_at (pos_cmp at) entry.0) (slice_get (map entry_of (c ∷ d ∷ ds)) n) false) place
    ∙ ends_there at (d ∷ ds) (omega arith) (subst (λ o. IfSome o (λ n. n.0 ≡ at)) here last)
  where
    one : last_of (d ∷ ds) ≡ Some (unwrap_or (last_of ds) d) → unwrap_or (last_of (d ∷ ds)) c ≡ unwrap_or (last_of ds) d
    one is = ap (λ o. unwrap_or o c) is

module _ (content : Contents) (level : ℕ) (above below : Level) (row : IsRow above) (own : (at : Pos) (node : NodePtr) → value_at pos_cmp at above ≡ Some node → (content node).entries ≡ map entry_of (children_of at above below))
    (tiles : (at : Pos) → EndsAt above at → Tile below (least_of at above) at (children_of at above below)) (numbered : (at : Pos) → AreNumbered level (children_of at above below)) where
  -- The children of a node are read.
  one_list : (e : Pos × NodePtr) → value_at pos_cmp e.0 above ≡ Some e.1 → read_children level (node_read content e) ≡ Ok (children_of e.0 above below)
  one_list e there =
      let cs = children_of e.0 above below in
      let tile = tiles e.0 (ap is_some there) in
      let lead = all_lead level (children_of e.0 above below) (numbered e.0) in
      let ends = ends_there e.0 (children_of e.0 above below) tile.some tile.last in
      ap (λ (entries : Entries). cond (are_children level e.0 entries) (Ok (filter_map (child_in level) entries)) (Err (first_place e.1))) (own e.0 e.1 there)
      ∙ (λ i. cond (lead i && ends i) (Ok (filter_map (child_in level) (map entry_of cs))) (Err (first_place e.1)))
      ∙ ap (λ (ns : Level). Ok ns) (led_back level (children_of e.0 above below) (numbered e.0))

  -- So are those of all.
  all_lists : (front nodes : Level) → front ++ nodes ≡ above → each_of (read_children level) (nodes_read content nodes) ≡ ok_lists (map (λ n. children_of n.0 above below) nodes)
  all_lists front [] is = refl
  all_lists front (e ∷ es) is =
      ap (λ r. r >>= (λ first. each_of (read_children level) (nodes_read content es) >>= (λ others. ok_lists (first ∷ others)))) (one_list e (stands_there above front e es row.rises is))
      ∙ ap (λ r. r >>= (λ others. ok_lists (children_of e.0 above below ∷ others))) (all_lists (front ++ e ∷ []) es (step_on above front e es is))

-- ---- a btree

take_more : (levels : Levels) (k : ℕ) → k < length levels → take (suc k) levels ≡ take k levels ++ level_of levels k ∷ []
take_more [] k less = absurd (omega (arith, less))
take_more (nodes ∷ levels) zero less = refl
take_more (nodes ∷ levels) (suc k) less = ap (λ ls. nodes ∷ ls) (take_more levels k (omega (arith, less)))

take_all : (levels : Levels) → take (length levels) levels ≡ levels
take_all [] = refl
take_all (nodes ∷ levels) = ap (λ ls. nodes ∷ ls) (take_all levels)

-- The sets of one more level end first.
ends_above : (content : Contents) (levels : Levels) (nodes : Level) → set_ends content (levels ++ nodes ∷ []) ≡ ends_in content nodes ++ set_ends content levels
ends_above content [] nodes = sym (append-nil (ends_in content nodes))
ends_above content (first ∷ levels) nodes =
    ap (λ ends. ends ++ ends_in content first) (ends_above content levels nodes) ∙ append_assoc (ends_in content nodes) (set_ends content levels) (ends_in content first)

reads_end : (content : Contents) (nodes : Level) → ends_of (nodes_read content nodes) ≡ ends_in content nodes
reads_end content [] = refl
reads_end content (e ∷ es) = ap (λ ends. record { birth = e.1.birth; block = (content e.1).end } ∷ ends) (reads_end content es)

joined_entries : (content : Contents) (nodes : Level) → flat_map (λ (read : NodeRead). read.entries) (nodes_read content nodes) ≡ flat_map (λ leaf. (content leaf.1).entries) nodes
joined_entries content [] = refl
joined_entries content (e ∷ es) = ap (λ rest. (content e.1).entries ++ rest) (joined_entries content es)

pub joined_lists : (f : Pos × NodePtr → Level) (nodes : Level) → flat_map (λ (children : Level). children) (map f nodes) ≡ flat_map f nodes
joined_lists f [] = refl
joined_lists f (e ∷ es) = ap (λ rest. f e ++ rest) (joined_lists f es)

-- the nodes at positions that pass a test
abbrev children_by : (Pos → Bool) → Level → Level
children_by p nodes = filter (λ child. p child.0) nodes

-- What holds of the pointers of a level holds of those of a part.
part_all : (P : NodePtr → Type 0) (p : Pos → Bool) (nodes : Level) → AllByRecursion P (values_of nodes) → AllByRecursion P (values_of (children_by p nodes))
part_all P p [] all = tt
part_all P p (e ∷ es) all = by (p e.0) (part_all P p es all.1)
  where
    by : (b : Bool) → AllByRecursion P (values_of (children_by p es)) → AllByRecursion P (values_of (cond b (e ∷ children_by p es) (children_by p es)))
    by true later = (all.0, later)
    by false later = later

module _ (sets : SetsOf) (btree : Btree) (root : NodePtr) (levels : Levels) (content : Contents) (stands : StandsAsBtree sets btree root levels content) where
  -- what is read of the first levels
  abbrev first_levels : ℕ → BtreeRead
  first_levels k = record { entries = leaf_entries content levels; levels = take (suc k) levels; ends = set_ends content (take (suc k) levels) }

  row_of : (k : ℕ) → k < length levels → IsRow (level_of levels k)
  row_of k less = (stands.tree.each k less).row

  level_read : (k : ℕ) → k < length levels → read_level sets [] btree least_pos (level_of levels k) ≡ ok_reads (nodes_read content (level_of levels k))
  level_read k less = rest_read sets btree content (level_of levels k) (row_of k less).rises (λ at node is. (stands.each k at node is).comes) [] (level_of levels k) refl

  numbered_there : (k : ℕ) → k < length levels → AreNumbered k (level_of levels k)
  numbered_there k less = each (values_of (level_of levels k)) (recursion_from_All (IsNodeOf k) (values_of (level_of levels k)) (stands.tree.each k less).each)
    where
      each : (nodes : List NodePtr) → AllByRecursion (IsNodeOf k) nodes → AllByRecursion (λ (node : NodePtr). node.level ≡ k) nodes
      each [] all = tt
      each (node ∷ nodes) all = (all.0.numbered, each nodes all.1)

  -- The children of a level are the level below.
  lists_read : (k : ℕ) → suc k < length levels → each_of (read_children k) (nodes_read content (level_of levels (suc k))) ≡ ok_lists (map (λ n. children_of n.0 (level_of levels (suc k)) (level_of levels k)) (level_of levels (suc k)))
  lists_read k less =
      let below : k < length levels = omega (arith, less) in
      let up : k + 1 ≡ suc k = omega arith in
      let down : suc k - 1 ≡ k = omega arith in
      let nested : (at : Pos) → EndsAt (level_of levels (suc k)) at → EndsAt (level_of levels k) at = subst (λ n. (at : Pos) → EndsAt (level_of levels n) at → EndsAt (level_of levels k) at) up (stands.tree.nested k) in
      all_lists content k (level_of levels (suc k)) (level_of levels k) (row_of (suc k) less)
      (λ at node is. (stands.each (suc k) at node is).entries ∙ ap (λ n. map entry_of (children_of at (level_of levels (suc k)) (level_of levels n))) down)
      (λ at ends. children-tile (level_of levels (suc k)) (level_of levels k) (row_of (suc k) less) (row_of k below) nested at ends)
      (λ at. part_all (λ (node : NodePtr). node.level ≡ k) (is_within (least_of at (level_of levels (suc k))) at) (level_of levels k) (numbered_there k below))
      [] (level_of levels (suc k)) refl

  -- From each level down the btree is read.
  down_read : (k : ℕ) → k < length levels → read_down sets [] btree k (level_of levels k) ≡ ok_btree (first_levels k)
  down_read zero less =
      let nodes = level_of levels zero in
      let one : nodes ∷ [] ≡ take 1 levels = sym (take_more levels zero less) in
      ap (λ r. r >>= (λ reads. ok_btree (record { entries = flat_map (λ (read : NodeRead). read.entries) reads; levels = nodes ∷ []; ends = ends_of reads }))) (level_read zero less)
      ∙ (λ i. ok_btree (record { entries = joined_entries content nodes i; levels = one i; ends = (reads_end content nodes ∙ ap (set_ends content) one) i }))
  down_read (suc k) less =
      let nodes = level_of levels (suc k) in
      let below = level_of levels k in
      let lower : k < length levels = omega (arith, less) in
      let with_rest : List NodeRead → BtreeRead → Result BtreeRead Place = λ reads rest. ok_btree (record { entries = rest.entries; levels = rest.levels ++ nodes ∷ []; ends = ends_of reads ++ rest.ends }) in
      let down_from : List NodeRead → List Level → Result BtreeRead Place = λ reads lists. read_down sets [] btree k (flat_map (λ children. children) lists) >>= with_rest reads in
      let more : take (suc k) levels ++ nodes ∷ [] ≡ take (suc (suc k)) levels = sym (take_more levels (suc k) less) in
      let all : flat_map (λ (children : Level). children) (map (λ n. children_of n.0 nodes below) nodes) ≡ below =
      joined_lists (λ n. children_of n.0 nodes below) nodes ∙ all_children nodes below (row_of (suc k) less) (row_of k lower) (stands.tree.each (suc k) less).ends in
      ap (λ r. r >>= (λ reads. each_of (read_children k) reads >>= down_from reads)) (level_read (suc k) less)
      ∙ ap (λ r. r >>= down_from (nodes_read content nodes)) (lists_read k less)
      ∙ ap (λ ns. read_down sets [] btree k ns >>= with_rest (nodes_read content nodes)) all
      ∙ ap (λ r. r >>= with_rest (nodes_read content nodes)) (down_read k lower)
      ∙ (λ i. ok_btree (record { entries = leaf_entries content levels; levels = more i; ends = (ap (λ ends. ends ++ set_ends content (take (suc k) levels)) (reads_end content nodes) ∙ sym (ends_above content (take (suc k) levels) nodes) ∙ ap (set_ends content) more) i }))

  -- The root is of the last level.
  root_there : IsNodeIn levels (length levels - 1) greatest_pos root
  root_there = ap (value_at pos_cmp greatest_pos) stands.top ∙ ap (λ r. cond (is_eq r) (Some root) None) (tied_itself pos_total greatest_pos)

  root_level : root.level ≡ length levels - 1
  root_level = (subst (λ (nodes : Level). AreNumbered (length levels - 1) nodes) stands.top (numbered_there (length levels - 1) (level-there levels (length levels - 1) greatest_pos (ap is_some root_there)))).0

  -- It is read whole from its root.
  pub btree_read : btree_of sets [] (btree, root) ≡ Ok (read_of content levels)
  btree_read =
      let less = level-there levels (length levels - 1) greatest_pos (ap is_some root_there) in
      let whole : suc (length levels - 1) ≡ length levels = omega (arith, less) in
      let all : take (suc (length levels - 1)) levels ≡ levels = ap (λ n. take n levels) whole ∙ take_all levels in
      (λ i. read_down sets [] btree (root_level i) (sym stands.top i))
      ∙ down_read (length levels - 1) less
      ∙ ap (λ (ls : Levels). ok_btree (record { entries = leaf_entries content levels; levels = ls; ends = set_ends content ls })) all
