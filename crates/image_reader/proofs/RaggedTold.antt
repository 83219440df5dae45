-- Which births are those of ragged nodes, node by node and part by part.
use Rattle.std.proofs.Common.{◌≡◌, ⊎_elim, inl, inr, ◌⊎◌, ℕ, Bool, true, false, cond, List, [], ◌∷◌, ◌++◌, map, All, Contains, refl, ap, sym, ◌∙◌, subst, arith}
use Rattle.std.specs.Prelude.{◌↔◌}
use Rattle.std.specs.List.{filter, flat_map}
use Rattle.std.specs.Map.{values_of}
use Rattle.std.proofs.lemmas.List.Elements.{All-head, All-tail, Contains-append_cases, Contains-append_left, Contains-append_right, Contains-push, Contains-push_cases}
use Rattle.dev_model.specs.Disk.{Image}
use Rattle.image_view.specs.Trees.{nodes_of}
use Rattle.std.proofs.lemmas.Grind.{flat_map-append}
use Rattle.tree_nodes.specs.Levels.{Level, Levels}
use Rattle.vol_types.specs.declared.pointers.NodePtr.{NodePtr}
use Rattle.image_reader.specs.Answers.{AreRagged, HasRagged, IsRagged}
use Rattle.image_reader.specs.Nodes.{ragged_births}
use Rattle.image_reader.specs.Volumes.{btree_in}
use Rattle.image_reader.specs.declared.found.FoundBtree.{FoundBtree}
use Rattle.image_reader.specs.declared.nodes.FoundNode.{FoundNode}
use Rattle.image_reader.proofs.Steps.{append_none}

none_in : {X : Type 0} (x : X) → Contains [] x → ⊥
none_in x one = omega (arith, one.1)

only_one : {X : Type 0} (x y : X) → Contains (x ∷ []) y → x ≡ y
only_one x y one = ⊎_elim (λ (none : Contains [] y). absurd (none_in y none)) (λ (is : x ≡ y). is) (Contains-push_cases [] x y one)

-- the birth of a node, if it is ragged
abbrev birth_if : FoundNode → List ℕ
birth_if node = cond node.ragged (node.pointer.birth ∷ []) []

pub births_more : (node : FoundNode) (nodes : List FoundNode) → ragged_births (node ∷ nodes) ≡ birth_if node ++ ragged_births nodes
births_more node nodes = by node.ragged
  where
    by : (b : Bool) → map (λ (n : FoundNode). n.pointer.birth) (cond b (node ∷ filter (λ n. n.ragged) nodes) (filter (λ n. n.ragged) nodes)) ≡ cond b (node.pointer.birth ∷ []) [] ++ ragged_births nodes
    by true = refl
    by false = refl

module _ (id : List ℕ) (image : Image) where
  has_left : (ps qs : List NodePtr) (birth : ℕ) → HasRagged id image ps birth → HasRagged id image (ps ++ qs) birth
  has_left ps qs birth has = record { pointer = has.pointer; one = Contains-append_left ps qs has.pointer has.one; born = has.born; ragged = has.ragged }

  has_right : (ps qs : List NodePtr) (birth : ℕ) → HasRagged id image qs birth → HasRagged id image (ps ++ qs) birth
  has_right ps qs birth has = record { pointer = has.pointer; one = Contains-append_right ps qs has.pointer has.one; born = has.born; ragged = has.ragged }

  has_either : (ps qs : List NodePtr) (birth : ℕ) → HasRagged id image (ps ++ qs) birth → HasRagged id image ps birth ⊎ HasRagged id image qs birth
  has_either ps qs birth has = ⊎_elim
      (λ (one : Contains ps has.pointer). inl (record { pointer = has.pointer; one = one; born = has.born; ragged = has.ragged }))
      (λ (one : Contains qs has.pointer). inr (record { pointer = has.pointer; one = one; born = has.born; ragged = has.ragged }))
      (Contains-append_cases ps qs has.pointer has.one)

  -- No node is ragged of none.
  pub ragged_none : AreRagged id image [] []
  ragged_none birth = (λ one. absurd (none_in birth one), λ has. absurd (none_in has.pointer has.one))

  module _ (ps qs : List NodePtr) (bs cs : List ℕ) (one : AreRagged id image ps bs) (other : AreRagged id image qs cs) where
    -- Those of two parts are those of both,
    pub ragged_both : AreRagged id image (ps ++ qs) (bs ++ cs)
    ragged_both birth = (
      λ there. ⊎_elim (λ (b : Contains bs birth). has_left ps qs birth ((one birth).0 b)) (λ (c : Contains cs birth). has_right ps qs birth ((other birth).0 c)) (Contains-append_cases bs cs birth there),
      λ has. ⊎_elim (λ (h : HasRagged id image ps birth). Contains-append_left bs cs birth ((one birth).1 h)) (λ (h : HasRagged id image qs birth). Contains-append_right bs cs birth ((other birth).1 h)) (has_either ps qs birth has),
    )

    -- in either order.
    pub ragged_turned : AreRagged id image (ps ++ qs) (cs ++ bs)
    ragged_turned birth = (
      λ there. ⊎_elim (λ (c : Contains cs birth). has_right ps qs birth ((other birth).0 c)) (λ (b : Contains bs birth). has_left ps qs birth ((one birth).0 b)) (Contains-append_cases cs bs birth there),
      λ has. ⊎_elim (λ (h : HasRagged id image ps birth). Contains-append_right cs bs birth ((one birth).1 h)) (λ (h : HasRagged id image qs birth). Contains-append_left cs bs birth ((other birth).1 h)) (has_either ps qs birth has),
    )

  -- Of one node.
  ragged_one : (node : FoundNode) → ((node.ragged ≡ true) ↔ IsRagged id image node.pointer) → AreRagged id image (node.pointer ∷ []) (birth_if node)
  ragged_one node told birth = by node.ragged refl
    where
      same : (has : HasRagged id image (node.pointer ∷ []) birth) → node.pointer ≡ has.pointer
      same has = only_one node.pointer has.pointer has.one

      by : (b : Bool) → node.ragged ≡ b → Contains (cond b (node.pointer.birth ∷ []) []) birth ↔ HasRagged id image (node.pointer ∷ []) birth
      by true is = (
        λ one. record { pointer = node.pointer; one = Contains-push [] node.pointer; born = only_one node.pointer.birth birth one; ragged = told.0 is },
        λ has. subst (Contains (node.pointer.birth ∷ [])) (ap (λ (p : NodePtr). p.birth) (same has) ∙ has.born) (Contains-push [] node.pointer.birth),
      )
      by false is = (
        λ one. absurd (none_in birth one),
        λ has. let ragged : node.ragged ≡ true = told.1 (subst (IsRagged id image) (sym (same has)) has.ragged) in absurd cc,
      )

  -- Of the nodes of a level.
  pub ragged_level : (nodes : List FoundNode) → All (λ node. (node.ragged ≡ true) ↔ IsRagged id image node.pointer) nodes → AreRagged id image (map (λ node. node.pointer) nodes) (ragged_births nodes)
  ragged_level [] all = ragged_none
  ragged_level (node ∷ nodes) all =
      subst (AreRagged id image (node.pointer ∷ map (λ (n : FoundNode). n.pointer) nodes)) (sym (births_more node nodes))
      (ragged_both (node.pointer ∷ []) (map (λ (n : FoundNode). n.pointer) nodes) (birth_if node) (ragged_births nodes)
      (ragged_one node (All-head (λ (n : FoundNode). (n.ragged ≡ true) ↔ IsRagged id image n.pointer) node nodes all))
      (ragged_level nodes (All-tail (λ (n : FoundNode). (n.ragged ≡ true) ↔ IsRagged id image n.pointer) node nodes all)))

  -- Of the nodes of all btrees.
  pub ragged_btrees : (btrees : List FoundBtree) → All (λ btree. AreRagged id image (flat_map values_of btree.levels) btree.ragged) btrees
      → AreRagged id image (nodes_of (map (λ btree. btree.levels) (map btree_in btrees))) (flat_map (λ btree. btree.ragged) btrees)
  ragged_btrees [] all = ragged_none
  ragged_btrees (b ∷ bs) all =
      ragged_both (flat_map values_of b.levels) (nodes_of (map (λ btree. btree.levels) (map btree_in bs))) b.ragged (flat_map (λ (btree : FoundBtree). btree.ragged) bs)
      (All-head (λ (btree : FoundBtree). AreRagged id image (flat_map values_of btree.levels) btree.ragged) b bs all)
      (ragged_btrees bs (All-tail (λ (btree : FoundBtree). AreRagged id image (flat_map values_of btree.levels) btree.ragged) b bs all))

  -- the births of a level, by its nodes
  abbrev own_pointers : List FoundNode → List NodePtr
  own_pointers read = map (λ (node : FoundNode). node.pointer) read

  -- Of a btree of leaves alone.
  pub ragged_leaves : (read : List FoundNode) (nodes : Level) (btree : FoundBtree) → All (λ node. (node.ragged ≡ true) ↔ IsRagged id image node.pointer) read → own_pointers read ≡ values_of nodes
      → btree.levels ≡ nodes ∷ [] → btree.ragged ≡ ragged_births read → AreRagged id image (flat_map values_of btree.levels) btree.ragged
  ragged_leaves read nodes btree all pointers levels births =
      subst (λ (ps : List NodePtr). AreRagged id image ps btree.ragged) (sym (ap (λ (ls : Levels). flat_map values_of ls) levels ∙ append_none (values_of nodes) ∙ sym pointers))
      (subst (AreRagged id image (own_pointers read)) (sym births) (ragged_level read all))

  -- Of a level above the rest of a btree.
  pub ragged_upper : (read : List FoundNode) (nodes : Level) (rest btree : FoundBtree) → All (λ node. (node.ragged ≡ true) ↔ IsRagged id image node.pointer) read → own_pointers read ≡ values_of nodes
      → AreRagged id image (flat_map values_of rest.levels) rest.ragged → btree.levels ≡ rest.levels ++ nodes ∷ [] → btree.ragged ≡ ragged_births read ++ rest.ragged → AreRagged id image (flat_map values_of btree.levels) btree.ragged
  ragged_upper read nodes rest btree all pointers lower levels births =
      subst (λ (ps : List NodePtr). AreRagged id image ps btree.ragged)
      (sym (ap (λ (ls : Levels). flat_map values_of ls) levels ∙ flat_map-append values_of rest.levels (nodes ∷ []) ∙ ap (λ ps. flat_map values_of rest.levels ++ ps) (append_none (values_of nodes) ∙ sym pointers)))
      (subst (AreRagged id image (flat_map values_of rest.levels ++ own_pointers read)) (sym births)
      (ragged_turned (flat_map values_of rest.levels) (own_pointers read) rest.ragged (ragged_births read) lower (ragged_level read all)))
