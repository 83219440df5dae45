-- The index of nodes that were changed: one got another pointer, or was divided, or was divided under a new root.
use Rattle.std.proofs.Common.{◌≡◌, ℕ, ◌+◌, ◌<◌, Bool, true, false, cond, Option, Some, None, List, [], ◌∷◌, ◌++◌, length, refl, sym, ap, ◌∙◌, ⊎_elim, arith}
use Rattle.std.specs.Prelude.{◌≢◌, ◌==◌, ◌&&◌, IsSome, option_map, slice_index_or, slice_set}
use Rattle.std.specs.BTreeMap.{is_at}
use Rattle.std.specs.Ordering.{nat_cmp}
use Rattle.std.proofs.Math.Seq.{get_or-append_seam}
use Rattle.std.proofs.lemmas.Bool.{true≢false, cases_lt, eqb-true, eq-eqb}
use Rattle.std.proofs.lemmas.Cmp.{nat_cmp_total}
use Rattle.std.proofs.lemmas.List.{get_or_append_left, get_or_past, get_or-set_same, get_or-set_other, length-append, length-set}
use Rattle.std.proofs.lemmas.Option.{none-some as none_some}
use Rattle.birth_index.specs.Births.{Finds, Index, IsFree, IsIndex, birth_of, grown, halves, levels_of, name_at, node_of, renamed, replaced, root_above}
use Rattle.birth_index.specs.FindLaws.{Finds-alike, Finds-with, Finds-without, drop_birth, free_without, put_birth}
use Rattle.birth_index.specs.NameLaws.{apart_births, apart_names, one_name, same_itself, same_name}
use Rattle.birth_index.specs.declared.name.NodeName.{NodeName}
use Rattle.tree_nodes.specs.Levels.{Level, Levels, divided, halved, level_of, under_root, with_node}
use Rattle.tree_nodes.specs.TreeLaws.{level-there}
use Rattle.vol_types.specs.Btrees.{btree_code}
use Rattle.vol_types.specs.MapLaws.{value_at-with_value}
use Rattle.vol_types.specs.Maps.{value_at, with_value, without}
use Rattle.vol_types.specs.PositionLaws.{pos_total}
use Rattle.vol_types.specs.Positions.{greatest_pos, pos_cmp}
use Rattle.vol_types.specs.declared.pointers.NodePtr.{NodePtr}
use Rattle.vol_types.specs.declared.positions.Btree.{Btree}
use Rattle.vol_types.specs.declared.positions.Pos.{Pos}

-- the birth of a node, if there is one
abbrev birth_in : Option NodePtr → Option ℕ
birth_in o = option_map (λ (node : NodePtr). node.birth) o

-- the node of a name among levels
abbrev pub look : Levels → NodeName → Option NodePtr
look levels name = value_at pos_cmp name.greatest (level_of levels name.level)

-- whether a name is that of a position of a level
abbrev pub is_there : ℕ → Pos → NodeName → Bool
is_there level at name = (level == name.level) && is_at (pos_cmp at) name.greatest

-- the birth of what was put
birth-put : (b : Bool) (node : NodePtr) (o : Option NodePtr) → birth_in (cond b (Some node) o) ≡ cond b (Some node.birth) (birth_in o)
birth-put true node o = refl
birth-put false node o = refl

differ : (one other : ℕ) → (one == other) ≡ false → other ≢ one
differ one other is same = true≢false (sym (eq-eqb one other (sym same)) ∙ is)

module _ (levels : Levels) (level : ℕ) (there : level < length levels) where
  -- a level that was set has its nodes, and each other one has its own
  look-set : (nodes : Level) (name : NodeName) → look (slice_set levels level nodes) name ≡ cond (level == name.level) (value_at pos_cmp name.greatest nodes) (look levels name)
  look-set nodes name = by (level == name.level) refl
    where
      by : (b : Bool) → (level == name.level) ≡ b → look (slice_set levels level nodes) name ≡ cond b (value_at pos_cmp name.greatest nodes) (look levels name)
      by true is =
          ap (λ (k : ℕ). value_at pos_cmp name.greatest (level_of (slice_set levels level nodes) k)) (sym (eqb-true level name.level is))
          ∙ ap (value_at pos_cmp name.greatest) (get_or-set_same levels level nodes [] there)
      by false is = ap (value_at pos_cmp name.greatest) (get_or-set_other levels level name.level nodes [] (differ level name.level is))

  -- where a node was put it is found
  look-put : (at : Pos) (node : NodePtr) (nodes : Level) (name : NodeName) → look (slice_set levels level (with_value pos_cmp at node nodes)) name ≡ cond (is_there level at name) (Some node) (look (slice_set levels level nodes) name)
  look-put at node nodes name =
      look-set (with_value pos_cmp at node nodes) name ∙ by (level == name.level)
      ∙ ap (cond (is_there level at name) (Some node)) (sym (look-set nodes name))
    where
      by : (b : Bool) → cond b (value_at pos_cmp name.greatest (with_value pos_cmp at node nodes)) (look levels name) ≡ cond (b && is_at (pos_cmp at) name.greatest) (Some node) (cond b (value_at pos_cmp name.greatest nodes) (look levels name))
      by true = value_at-with_value pos_total at node name.greatest nodes
      by false = refl

  -- what was set to what it was is as it was
  look-same : (name : NodeName) → look (slice_set levels level (level_of levels level)) name ≡ look levels name
  look-same name = look-set (level_of levels level) name ∙ by (level == name.level) refl
    where
      by : (b : Bool) → (level == name.level) ≡ b → cond b (value_at pos_cmp name.greatest (level_of levels level)) (look levels name) ≡ look levels name
      by true is = ap (λ (k : ℕ). value_at pos_cmp name.greatest (level_of levels k)) (eqb-true level name.level is)
      by false is = refl

  pub look-with_node : (at : Pos) (fresh : NodePtr) (name : NodeName) → look (with_node level at fresh levels) name ≡ cond (is_there level at name) (Some fresh) (look levels name)
  look-with_node at fresh name = look-put at fresh (level_of levels level) name ∙ ap (cond (is_there level at name) (Some fresh)) (look-same name)

  look-divided : (greatest at : Pos) (first second : NodePtr) (name : NodeName)
      → look (divided level greatest at first second levels) name ≡ cond (is_there level greatest name) (Some second) (look (with_node level at first levels) name)
  look-divided greatest at first second name = look-put greatest second (with_value pos_cmp at first (level_of levels level)) name

-- under a root all are found, and it is
look-under_root : (levels : Levels) (root : NodePtr) (name : NodeName) → look (under_root root levels) name ≡ cond (is_there (length levels) greatest_pos name) (Some root) (look levels name)
look-under_root levels root name = by (length levels == name.level) refl
  where
    below : name.level ≢ length levels → level_of (under_root root levels) name.level ≡ level_of levels name.level
    below apart = ⊎_elim
        (λ lt. get_or_append_left levels (((greatest_pos, root) ∷ []) ∷ []) [] name.level lt)
        (λ ge. get_or_past (levels ++ ((greatest_pos, root) ∷ []) ∷ []) name.level [] (omega (arith, ge, apart, length-append levels (((greatest_pos, root) ∷ []) ∷ []))) ∙ sym (get_or_past levels name.level [] ge))
        (cases_lt name.level (length levels))

    by : (b : Bool) → (length levels == name.level) ≡ b → look (under_root root levels) name ≡ cond (b && is_at (pos_cmp greatest_pos) name.greatest) (Some root) (look levels name)
    by true is =
        let here = eqb-true (length levels) name.level is in
        ap (λ (k : ℕ). value_at pos_cmp name.greatest (level_of (under_root root levels) k)) (sym here)
        ∙ ap (value_at pos_cmp name.greatest) (get_or-append_seam levels ((greatest_pos, root) ∷ []) [] [])
        ∙ value_at-with_value pos_total greatest_pos root name.greatest []
        ∙ ap (λ (nodes : Level). cond (is_at (pos_cmp greatest_pos) name.greatest) (Some root) (value_at pos_cmp name.greatest nodes)) (sym (get_or_past levels (length levels) [] (omega arith)) ∙ ap (level_of levels) here)
    by false is = ap (value_at pos_cmp name.greatest) (below (differ (length levels) name.level is))

-- the node of a name where a btree has other levels
abbrev pub beside : List Levels → Btree → Levels → NodeName → Option NodePtr
beside nodes btree levels name = cond (btree_code btree == btree_code name.btree) (look levels name) (node_of nodes name)

module _ (nodes : List Levels) (btree : Btree) where
  pub node_of-set : btree_code btree < length nodes → (levels : Levels) (name : NodeName) → node_of (slice_set nodes (btree_code btree) levels) name ≡ beside nodes btree levels name
  node_of-set there levels name = by (btree_code btree == btree_code name.btree) refl
    where
      by : (b : Bool) → (btree_code btree == btree_code name.btree) ≡ b → node_of (slice_set nodes (btree_code btree) levels) name ≡ cond b (look levels name) (node_of nodes name)
      by true is =
          ap (λ (code : ℕ). look (slice_index_or (slice_set nodes (btree_code btree) levels) code []) name) (sym (eqb-true (btree_code btree) (btree_code name.btree) is))
          ∙ ap (λ (ls : Levels). look ls name) (get_or-set_same nodes (btree_code btree) levels [] there)
      by false is = ap (λ (ls : Levels). look ls name) (get_or-set_other nodes (btree_code btree) (btree_code name.btree) levels [] (differ (btree_code btree) (btree_code name.btree) is))

  pub beside-same : (name : NodeName) → beside nodes btree (levels_of nodes btree) name ≡ node_of nodes name
  beside-same name = by (btree_code btree == btree_code name.btree) refl
    where
      by : (b : Bool) → (btree_code btree == btree_code name.btree) ≡ b → cond b (look (levels_of nodes btree) name) (node_of nodes name) ≡ node_of nodes name
      by true is = ap (λ (code : ℕ). look (slice_index_or nodes code []) name) (eqb-true (btree_code btree) (btree_code name.btree) is)
      by false is = refl

  -- a node that was put among the levels is found beside the others
  pub beside-put : (before after : Levels) (level : ℕ) (at : Pos) (node : NodePtr) (name : NodeName) → look after name ≡ cond (is_there level at name) (Some node) (look before name)
      → beside nodes btree after name ≡ cond (same_name (record { btree = btree; level = level; greatest = at }) name) (Some node) (beside nodes btree before name)
  beside-put before after level at node name put = by (btree_code btree == btree_code name.btree)
    where
      by : (b : Bool) → cond b (look after name) (node_of nodes name) ≡ cond ((b && (level == name.level)) && is_at (pos_cmp at) name.greatest) (Some node) (cond b (look before name) (node_of nodes name))
      by true = put
      by false = refl

module _ (births : NodeName → Option ℕ) (name : NodeName) where
  -- nothing is left where a birth was dropped
  dropped : drop_birth name births name ≡ None
  dropped = ap (λ (b : Bool). cond b None (births name)) (same_itself name)

  -- one that was dropped and put is put
  put-dropped : (birth : ℕ) (other : NodeName) → put_birth name birth (drop_birth name births) other ≡ put_birth name birth births other
  put-dropped birth other = by (same_name name other)
    where
      by : (b : Bool) → cond b (Some birth) (cond b None (births other)) ≡ cond b (Some birth) (births other)
      by true = refl
      by false = refl

  -- two that were put at two names, in either order
  put-both : (new : NodeName) → name ≢ new → (birth later : ℕ) (other : NodeName) → put_birth new later (put_birth name birth (drop_birth name births)) other ≡ put_birth name birth (put_birth new later births) other
  put-both new apart birth later other = by (same_name name other) (same_name new other) refl refl
    where
      by : (b t : Bool) → same_name name other ≡ b → same_name new other ≡ t → cond t (Some later) (cond b (Some birth) (cond b None (births other))) ≡ cond b (Some birth) (cond t (Some later) (births other))
      by true true is too = absurd (apart (one_name name other is ∙ sym (one_name new other too)))
      by true false is too = refl
      by false true is too = refl
      by false false is too = refl

some_node : (o : Option NodePtr) (birth : ℕ) → birth_in o ≡ Some birth → IsSome o
some_node None birth is = absurd (none_some birth is)
some_node (Some node) birth is = refl

module _ (nodes : List Levels) (name : NodeName) (there : btree_code name.btree < length nodes) (gone : ℕ) (has : birth_of nodes name ≡ Some gone) where
  level_there : name.level < length (levels_of nodes name.btree)
  level_there = level-there (levels_of nodes name.btree) name.level name.greatest (some_node (node_of nodes name) gone has)

  -- the births after one node got another pointer, beside the others
  birth-beside : (at : Pos) (fresh : NodePtr) (other : NodeName)
      → birth_in (beside nodes name.btree (with_node name.level at fresh (levels_of nodes name.btree)) other) ≡ put_birth (name_at name at) fresh.birth (birth_of nodes) other
  birth-beside at fresh other =
      let levels = levels_of nodes name.btree in
      ap birth_in (beside-put nodes name.btree levels (with_node name.level at fresh levels) name.level at fresh other (look-with_node levels name.level level_there at fresh other))
      ∙ birth-put (same_name (name_at name at) other) fresh (beside nodes name.btree levels other)
      ∙ ap (λ (o : Option NodePtr). cond (same_name (name_at name at) other) (Some fresh.birth) (birth_in o)) (beside-same nodes name.btree other)

  -- the births after a node got another pointer
  birth-with_node : (fresh : NodePtr) (other : NodeName)
      → birth_of (slice_set nodes (btree_code name.btree) (with_node name.level name.greatest fresh (levels_of nodes name.btree))) other ≡ put_birth name fresh.birth (birth_of nodes) other
  birth-with_node fresh other =
      ap birth_in (node_of-set nodes name.btree there (with_node name.level name.greatest fresh (levels_of nodes name.btree)) other) ∙ birth-beside name.greatest fresh other

  -- the births after a node was divided
  birth-divided : (at : Pos) (first second : NodePtr) (other : NodeName)
      → birth_of (slice_set nodes (btree_code name.btree) (divided name.level name.greatest at first second (levels_of nodes name.btree))) other
      ≡ put_birth name second.birth (put_birth (name_at name at) first.birth (birth_of nodes)) other
  birth-divided at first second other =
      let levels = levels_of nodes name.btree in
      let after = divided name.level name.greatest at first second levels in
      let before = with_node name.level at first levels in
      ap birth_in (node_of-set nodes name.btree there after other ∙ beside-put nodes name.btree before after name.level name.greatest second other (look-divided levels name.level level_there name.greatest at first second other))
      ∙ birth-put (same_name name other) second (beside nodes name.btree before other)
      ∙ ap (cond (same_name name other) (Some second.birth)) (birth-beside at first other)

  -- the births under a new root
  birth-rooted : (levels : Levels) (root : NodePtr) (other : NodeName) → length levels ≡ name.level + 1
      → birth_of (slice_set nodes (btree_code name.btree) (under_root root levels)) other ≡ put_birth (root_above name) root.birth (birth_of (slice_set nodes (btree_code name.btree) levels)) other
  birth-rooted levels root other count =
      let found = look-under_root levels root other ∙ ap (λ (n : ℕ). cond (is_there n greatest_pos other) (Some root) (look levels other)) count in
      ap birth_in (node_of-set nodes name.btree there (under_root root levels) other ∙ beside-put nodes name.btree levels (under_root root levels) (name.level + 1) greatest_pos root other found)
      ∙ birth-put (same_name (root_above name) other) root (beside nodes name.btree levels other)
      ∙ ap (λ (o : Option NodePtr). cond (same_name (root_above name) other) (Some root.birth) (birth_in o)) (sym (node_of-set nodes name.btree there levels other))

  -- and no node was there
  no_root : (levels : Levels) → length levels ≡ name.level + 1 → birth_of (slice_set nodes (btree_code name.btree) levels) (root_above name) ≡ None
  no_root levels count =
      ap birth_in (node_of-set nodes name.btree there levels (root_above name)
      ∙ ap (λ (b : Bool). cond b (look levels (root_above name)) (node_of nodes (root_above name))) (eq-eqb (btree_code name.btree) (btree_code name.btree) refl)
      ∙ ap (value_at pos_cmp greatest_pos) (get_or_past levels (name.level + 1) [] (omega (arith, count))))

-- a birth that was put leaves another that was not there
free_past : (index : Index) (birth other : ℕ) (name : NodeName) → other ≢ birth → value_at nat_cmp other index ≡ None → value_at nat_cmp other (with_value nat_cmp birth name index) ≡ None
free_past index birth other name apart free =
    value_at-with_value nat_cmp_total birth name other index
    ∙ ap (λ (b : Bool). cond b (Some name) (value_at nat_cmp other index)) (apart_births birth other (λ same. apart (sym same))) ∙ free

module _ (index : Index) (nodes : List Levels) (name : NodeName) (gone : ℕ) (is : IsIndex index nodes) (there : btree_code name.btree < length nodes) (has : birth_of nodes name ≡ Some gone) where
  -- the index with a new node of this name
  Finds-fresh : (birth : ℕ) → IsFree nodes name birth → Finds (with_value nat_cmp birth name (without nat_cmp gone index)) (put_birth name birth (drop_birth name (birth_of nodes)))
  Finds-fresh birth free =
      Finds-with (without nat_cmp gone index) (drop_birth name (birth_of nodes)) name (Finds-without index (birth_of nodes) name is gone has) birth (dropped (birth_of nodes) name)
      (free_without index (birth_of nodes) name is gone has birth free)

  -- Where a node gets another pointer, its new birth leads to it.
  pub index-renamed : (fresh : NodePtr) → IsFree nodes name fresh.birth
      → IsIndex (renamed gone name fresh.birth index) (slice_set nodes (btree_code name.btree) (with_node name.level name.greatest fresh (levels_of nodes name.btree)))
  index-renamed fresh free =
      Finds-alike (renamed gone name fresh.birth index) (put_birth name fresh.birth (drop_birth name (birth_of nodes))) (birth_of (slice_set nodes (btree_code name.btree) (with_node name.level name.greatest fresh (levels_of nodes name.btree))))
      (Finds-fresh fresh.birth free) (λ other. put-dropped (birth_of nodes) name fresh.birth other ∙ sym (birth-with_node nodes name there gone has fresh other))

  module _ (at : Pos) (first second : NodePtr) (new : birth_of nodes (name_at name at) ≡ None) (one : IsFree nodes name first.birth) (other : IsFree nodes name second.birth) (apart : first.birth ≢ second.birth) where
    names_differ : name ≢ name_at name at
    names_differ same = none_some gone (sym new ∙ ap (birth_of nodes) (sym same) ∙ has)

    Finds-halves : Finds (replaced gone (halves name at first.birth second.birth) index) (put_birth (name_at name at) first.birth (put_birth name second.birth (drop_birth name (birth_of nodes))))
    Finds-halves =
        Finds-with (with_value nat_cmp second.birth name (without nat_cmp gone index)) (put_birth name second.birth (drop_birth name (birth_of nodes))) (name_at name at) (Finds-fresh second.birth other) first.birth
        (ap (λ (b : Bool). cond b (Some second.birth) (cond b None (birth_of nodes (name_at name at)))) (apart_names name (name_at name at) names_differ) ∙ new)
        (free_past (without nat_cmp gone index) second.birth first.birth name apart (free_without index (birth_of nodes) name is gone has first.birth one))

    -- Where a node is divided, the births of both halves lead to them.
    pub index-divided : IsIndex (replaced gone (halves name at first.birth second.birth) index) (slice_set nodes (btree_code name.btree) (divided name.level name.greatest at first second (levels_of nodes name.btree)))
    index-divided =
        Finds-alike (replaced gone (halves name at first.birth second.birth) index) (put_birth (name_at name at) first.birth (put_birth name second.birth (drop_birth name (birth_of nodes))))
        (birth_of (slice_set nodes (btree_code name.btree) (divided name.level name.greatest at first second (levels_of nodes name.btree)))) Finds-halves
        (λ q. put-both (birth_of nodes) name (name_at name at) names_differ second.birth first.birth q ∙ sym (birth-divided nodes name there gone has at first second q))

    -- Where a root is divided, the birth of the new root leads to it as well.
    pub index-grown : (root : NodePtr) → IsFree nodes name root.birth → root.birth ≢ first.birth → root.birth ≢ second.birth → name.level + 1 ≡ length (levels_of nodes name.btree)
        → IsIndex (replaced gone (grown name at first.birth second.birth root.birth) index) (slice_set nodes (btree_code name.btree) (under_root root (divided name.level name.greatest at first second (levels_of nodes name.btree))))
    index-grown root free from_first from_second top =
        let levels = levels_of nodes name.btree in
        let after = divided name.level name.greatest at first second levels in
        let count : length after ≡ name.level + 1 = length-set levels name.level (halved name.greatest at first second (level_of levels name.level)) ∙ sym top in
        let before = replaced gone (halves name at first.birth second.birth) index in
        Finds-alike (replaced gone (grown name at first.birth second.birth root.birth) index) (put_birth (root_above name) root.birth (birth_of (slice_set nodes (btree_code name.btree) after))) (birth_of (slice_set nodes (btree_code name.btree) (under_root root after)))
        (Finds-with before (birth_of (slice_set nodes (btree_code name.btree) after)) (root_above name) index-divided root.birth (no_root nodes name there gone has after count)
        (free_past (with_value nat_cmp second.birth name (without nat_cmp gone index)) first.birth root.birth (name_at name at) from_first
        (free_past (without nat_cmp gone index) second.birth root.birth name from_second (free_without index (birth_of nodes) name is gone has root.birth free))))
        (λ q. sym (birth-rooted nodes name there gone has after root q count))
