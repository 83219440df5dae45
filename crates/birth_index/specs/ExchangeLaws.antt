-- What nodes are after the pointers of several were exchanged.
use Rattle.std.proofs.Common.{◌≡◌, ℕ, suc, ◌<◌, Bool, true, false, cond, Option, Some, List, [], ◌∷◌, length, refl, sym, ap, ◌∙◌, subst, ⊎_elim, arith}
use Rattle.std.specs.Prelude.{◌≢◌, ◌==◌, All, IsSome, option_map, slice_index_or, slice_set}
use Rattle.std.specs.List.{AllPairs}
use Rattle.std.proofs.lemmas.Bool.{cases_lt, eqb-true, eq-eqb, true≢false}
use Rattle.std.proofs.lemmas.List.{get_or_past, get_or-set_same, get_or-set_other}
use Rattle.std.proofs.lemmas.List.Elements.{All-cons, All-head, All-nil, All-tail}
use Rattle.std.proofs.lemmas.List.Kept.{AllPairs-cons}
use Rattle.std.proofs.lemmas.Option.{same_Some}
use Rattle.birth_index.specs.Births.{birth_of, levels_of, node_of}
use Rattle.birth_index.specs.ChangeLaws.{beside-put, beside-same, look-with_node, node_of-set}
use Rattle.birth_index.specs.Exchanges.{AreOfOtherNodes, AreExchanges, HaveOneNode, IsExchange, IsOfRoot, exchanged, one_node, with_pointer, with_roots}
use Rattle.birth_index.specs.NameLaws.{apart_names, one_btree, same_itself, same_name}
use Rattle.birth_index.specs.PlaceLaws.{btree-there}
use Rattle.birth_index.specs.declared.name.Exchange.{Exchange}
use Rattle.birth_index.specs.declared.name.NodeName.{NodeName}
use Rattle.tree_nodes.specs.Levels.{EndsAt, IsNodeOf, Levels, level_of, with_node}
use Rattle.tree_nodes.specs.TreeLaws.{level-there}
use Rattle.vol_types.specs.Btrees.{btree_code}
use Rattle.vol_types.specs.Maps.{value_at}
use Rattle.vol_types.specs.Positions.{greatest_pos, pos_cmp}
use Rattle.vol_types.specs.declared.pointers.NodePtr.{NodePtr}
use Rattle.vol_types.specs.declared.positions.Btree.{Btree}

-- the birth of a node, if there is one
abbrev birth_in : Option NodePtr → Option ℕ
birth_in o = option_map (λ (node : NodePtr). node.birth) o

pairs-head : {X : Type 0} (R : X → X → Type 0) (x : X) (xs : List X) → AllPairs R (x ∷ xs) → All (R x) xs
pairs-head R x xs pairs place none lt = pairs 0 (suc place) none (omega arith) (omega (arith, lt))

pairs-tail : {X : Type 0} (R : X → X → Type 0) (x : X) (xs : List X) → AllPairs R (x ∷ xs) → AllPairs R xs
pairs-tail R x xs pairs one other none before lt = pairs (suc one) (suc other) none (omega (arith, before)) (omega (arith, lt))

module _ (nodes : List Levels) (change : Exchange) (is : IsExchange nodes change) where
  -- The btree of a node that gets another pointer is there.
  pub exchange-there : btree_code change.name.btree < length nodes
  exchange-there = btree-there nodes change.name.btree change.name.level change.name.greatest is.there

  -- the nodes after one got another pointer
  node_of-with_pointer : (other : NodeName) → node_of (with_pointer change nodes) other ≡ cond (same_name change.name other) (Some change.pointer) (node_of nodes other)
  node_of-with_pointer other =
      let name = change.name in
      let levels = levels_of nodes name.btree in
      let after = with_node name.level name.greatest change.pointer levels in
      node_of-set nodes name.btree exchange-there after other
      ∙ beside-put nodes name.btree levels after name.level name.greatest change.pointer other (look-with_node levels name.level (level-there levels name.level name.greatest is.there) name.greatest change.pointer other)
      ∙ ap (cond (same_name name other) (Some change.pointer)) (beside-same nodes name.btree other)

  own-with_pointer : node_of (with_pointer change nodes) change.name ≡ Some change.pointer
  own-with_pointer = node_of-with_pointer change.name ∙ ap (λ (b : Bool). cond b (Some change.pointer) (node_of nodes change.name)) (same_itself change.name)

  -- Where one node got another pointer, each other one has its own.
  pub other-with_pointer : (other : NodeName) → change.name ≢ other → node_of (with_pointer change nodes) other ≡ node_of nodes other
  other-with_pointer other apart = node_of-with_pointer other ∙ ap (λ (b : Bool). cond b (Some change.pointer) (node_of nodes other)) (apart_names change.name other apart)

  -- a change that may be made may still be made after another
  exchange-later : (later : Exchange) → AreOfOtherNodes change later → IsExchange nodes later → IsExchange (with_pointer change nodes) later
  exchange-later later apart other = record {
    there = subst IsSome (sym (other-with_pointer later.name apart.names)) other.there;
    node = other.node;
    unused = λ name has. by name (same_name change.name name) (sym (ap birth_in (node_of-with_pointer name)) ∙ has);
  }
    where
      by : (name : NodeName) (b : Bool) → birth_in (cond b (Some change.pointer) (node_of nodes name)) ≡ Some later.pointer.birth → ⊥
      by name true has = apart.births (same_Some change.pointer.birth later.pointer.birth has)
      by name false has = other.unused name has

-- A node that is there may get a pointer of its level, with a birth that no node has.
pub exchange-named : (nodes : List Levels) (name : NodeName) (birth : ℕ) (change : Exchange) → change.name ≡ name → IsNodeOf name.level change.pointer → change.pointer.birth ≡ birth → EndsAt (level_of (levels_of nodes name.btree) name.level) name.greatest
    → ((other : NodeName) → birth_of nodes other ≢ Some birth) → IsExchange nodes change
exchange-named nodes name birth change named node born there free = record {
  there = subst (λ (n : NodeName). EndsAt (level_of (levels_of nodes n.btree) n.level) n.greatest) (sym named) there;
  node = subst (λ (n : NodeName). IsNodeOf n.level change.pointer) (sym named) node;
  unused = λ other has. free other (has ∙ ap Some born);
}

-- No pointers may be exchanged,
pub exchanges-none : (nodes : List Levels) → AreExchanges nodes []
exchanges-none nodes = record { each = All-nil (IsExchange nodes); apart = λ one other none before lt. absurd (omega (arith, lt)) }

-- and further ones before others, which are apart from them.
pub exchanges-cons : (nodes : List Levels) (change : Exchange) (changes : List Exchange) → IsExchange nodes change → All (AreOfOtherNodes change) changes → AreExchanges nodes changes → AreExchanges nodes (change ∷ changes)
exchanges-cons nodes change changes is apart are = record {
  each = All-cons (IsExchange nodes) change changes is are.each;
  apart = AllPairs-cons AreOfOtherNodes change changes apart are.apart;
}

module _ (nodes : List Levels) (change : Exchange) (changes : List Exchange) (are : AreExchanges nodes (change ∷ changes)) where
  -- The first of several changes may be made.
  pub exchanges-head : IsExchange nodes change
  exchanges-head = All-head (IsExchange nodes) change changes are.each

  -- It is apart from those that follow.
  pub exchanges-apart : All (AreOfOtherNodes change) changes
  exchanges-apart = pairs-head AreOfOtherNodes change changes are.apart

  -- Those that follow may be made after it.
  pub exchanges-later : AreExchanges (with_pointer change nodes) changes
  exchanges-later = record {
    each = λ place none lt. exchange-later nodes change exchanges-head (slice_index_or changes place none) (exchanges-apart place none lt) (All-tail (IsExchange nodes) change changes are.each place none lt);
    apart = pairs-tail AreOfOtherNodes change changes are.apart;
  }

-- Nodes that aren't named have their own pointers.
pub node_of-others : (nodes : List Levels) (changes : List Exchange) (name : NodeName) → AreExchanges nodes changes → All (λ (change : Exchange). change.name ≢ name) changes → node_of (exchanged changes nodes) name ≡ node_of nodes name
node_of-others nodes [] name are apart = refl
node_of-others nodes (change ∷ changes) name are apart =
    let P : Exchange → Type 0 = λ change. change.name ≢ name in
    node_of-others (with_pointer change nodes) changes name (exchanges-later nodes change changes are) (All-tail P change changes apart)
    ∙ other-with_pointer nodes change (exchanges-head nodes change changes are) name (All-head P change changes apart)

-- Nodes that are named have the pointers that are named with them.
pub node_of-named : (nodes : List Levels) (changes : List Exchange) → AreExchanges nodes changes → All (λ (change : Exchange). node_of (exchanged changes nodes) change.name ≡ Some change.pointer) changes
node_of-named nodes [] are = All-nil (λ (change : Exchange). node_of nodes change.name ≡ Some change.pointer)
node_of-named nodes (change ∷ changes) are =
    let later = exchanges-later nodes change changes are in
    let apart = exchanges-apart nodes change changes are in
    All-cons (λ (c : Exchange). node_of (exchanged changes (with_pointer change nodes)) c.name ≡ Some c.pointer) change changes
    (node_of-others (with_pointer change nodes) changes change.name later (λ place none lt same. (apart place none lt).names (sym same)) ∙ own-with_pointer nodes change (exchanges-head nodes change changes are))
    (node_of-named (with_pointer change nodes) changes later)

-- A btree of which no node is named has its own levels.
pub levels_of-others : (nodes : List Levels) (changes : List Exchange) (btree : Btree) → All (λ (change : Exchange). change.name.btree ≢ btree) changes → levels_of (exchanged changes nodes) btree ≡ levels_of nodes btree
levels_of-others nodes [] btree apart = refl
levels_of-others nodes (change ∷ changes) btree apart =
    let P : Exchange → Type 0 = λ change. change.name.btree ≢ btree in
    let name = change.name in
    levels_of-others (with_pointer change nodes) changes btree (All-tail P change changes apart)
    ∙ get_or-set_other nodes (btree_code name.btree) (btree_code btree) (with_node name.level name.greatest change.pointer (levels_of nodes name.btree)) [] (λ same. All-head P change changes apart (sym (one_btree btree name.btree same)))

module _ (nodes : List Levels) (have : HaveOneNode nodes) where
  there : (btree : Btree) → btree_code btree < length nodes
  there btree =
      let one = have btree in
      ⊎_elim (λ lt. lt) (λ ge. let none : 1 ≡ 0 = ap length (sym one.1 ∙ get_or_past nodes (btree_code btree) [] ge) in absurd (omega (arith, none))) (cases_lt (btree_code btree) (length nodes))

  module _ (change : Exchange) (root : IsOfRoot change) where
    put-root : with_pointer change nodes ≡ slice_set nodes (btree_code change.name.btree) (one_node change.pointer)
    put-root =
        let levels = levels_of nodes change.name.btree in
        ap (slice_set nodes (btree_code change.name.btree))
        (ap (λ (name : NodeName). with_node name.level name.greatest change.pointer levels) root ∙ ap (with_node 0 greatest_pos change.pointer) (have change.name.btree).1)

    -- each btree is one node still
    have-later : HaveOneNode (with_pointer change nodes)
    have-later btree = subst (λ (after : List Levels). (node : NodePtr) × (levels_of after btree ≡ one_node node)) (sym put-root) (by (btree_code change.name.btree == btree_code btree) refl)
      where
        by : (b : Bool) → (btree_code change.name.btree == btree_code btree) ≡ b → (node : NodePtr) × (levels_of (slice_set nodes (btree_code change.name.btree) (one_node change.pointer)) btree ≡ one_node node)
        by true is = (
          change.pointer,
          ap (λ (code : ℕ). slice_index_or (slice_set nodes (btree_code change.name.btree) (one_node change.pointer)) code []) (sym (eqb-true (btree_code change.name.btree) (btree_code btree) is))
              ∙ get_or-set_same nodes (btree_code change.name.btree) (one_node change.pointer) [] (there change.name.btree),
        )
        by false is =
            ((have btree).0, get_or-set_other nodes (btree_code change.name.btree) (btree_code btree) (one_node change.pointer) [] (λ same. true≢false (sym (eq-eqb (btree_code change.name.btree) (btree_code btree) (sym same)) ∙ is)) ∙ (have btree).1)

-- Where each btree is one node, it is one node still,
pub one_node-stays : (nodes : List Levels) (changes : List Exchange) → HaveOneNode nodes → All IsOfRoot changes → HaveOneNode (exchanged changes nodes)
one_node-stays nodes [] have roots = have
one_node-stays nodes (change ∷ changes) have roots =
    one_node-stays (with_pointer change nodes) changes (have-later nodes have change (All-head IsOfRoot change changes roots)) (All-tail IsOfRoot change changes roots)

-- and the pointers of changes are those of whole btrees.
pub exchanged-roots : (nodes : List Levels) (changes : List Exchange) → HaveOneNode nodes → All IsOfRoot changes → exchanged changes nodes ≡ with_roots changes nodes
exchanged-roots nodes [] have roots = refl
exchanged-roots nodes (change ∷ changes) have roots =
    let root = All-head IsOfRoot change changes roots in
    exchanged-roots (with_pointer change nodes) changes (have-later nodes have change root) (All-tail IsOfRoot change changes roots) ∙ ap (with_roots changes) (put-root nodes have change root)

-- A btree that is one node is what its root says.
one_root : (nodes : List Levels) (change : Exchange) → HaveOneNode nodes → IsOfRoot change → node_of nodes change.name ≡ Some change.pointer → levels_of nodes change.name.btree ≡ one_node change.pointer
one_root nodes change have root named =
    let levels = levels_of nodes change.name.btree in
    let one = have change.name.btree in
    let found : Some one.0 ≡ node_of nodes change.name = sym (ap (λ (name : NodeName). value_at pos_cmp name.greatest (level_of levels name.level)) root ∙ ap (λ (ls : Levels). value_at pos_cmp greatest_pos (level_of ls 0)) one.1) in
    one.1 ∙ ap one_node (same_Some one.0 change.pointer (found ∙ named))

-- Each btree that is named is the node whose pointer is named with it.
pub levels_of-roots : (nodes : List Levels) (changes : List Exchange) → AreExchanges nodes changes → HaveOneNode nodes → All IsOfRoot changes → All (λ (change : Exchange). levels_of (exchanged changes nodes) change.name.btree ≡ one_node change.pointer) changes
levels_of-roots nodes changes are have roots place none lt =
    one_root (exchanged changes nodes) (slice_index_or changes place none) (one_node-stays nodes changes have roots) (roots place none lt) (node_of-named nodes changes are place none lt)
