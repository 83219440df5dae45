-- Frozen leaves: one more of them, and all of them put in place.
use Rattle.std.proofs.Common.{◌≡◌, ℕ, ◌<◌, ◌≤◌, Bool, true, false, cond, not, Option, Some, None, List, [], ◌∷◌, ◌++◌, length, get_or-set_other, get_or-set_same, refl, sym, ap, ◌∙◌, subst, ⊎_elim, arith}
use Rattle.std.specs.Prelude.{◌≢◌, ◌↔◌, ◌==◌, ◌&&◌, All, IfSome, IsSome, is_some, option_map, slice_index_or, slice_set}
use Rattle.std.specs.List.{AllPairs}
use Rattle.std.specs.BTreeMap.{is_at}
use Rattle.std.specs.Ordering.{nat_cmp}
use Rattle.std.proofs.lemmas.Bool.{and_parts, cases_lt, eq-eqb, eqb-true, true≢false}
use Rattle.std.proofs.lemmas.List.{get_or_past}
use Rattle.std.proofs.lemmas.List.Elements.{All-cons, All-head, All-nil, All-push, All-tail}
use Rattle.std.proofs.lemmas.List.Folds.{list_any_at}
use Rattle.std.proofs.lemmas.List.Kept.{AllPairs-cons}
use Rattle.std.proofs.lemmas.List.Quantifiers.{all_pairs_push}
use Rattle.std.proofs.lemmas.Option.{same_Some}
use Rattle.birth_index.specs.Births.{BirthsDiffer, IsFree, birth_of, levels_of, node_of}
use Rattle.birth_index.specs.ExchangeLaws.{levels_of-others, other-with_pointer}
use Rattle.birth_index.specs.Exchanges.{AreExchanges, IsExchange, IsOfRoot, exchanged, one_node, only_name, with_pointer}
use Rattle.birth_index.specs.Exchanges.{AreOfOtherNodes}
use Rattle.birth_index.specs.NameLaws.{names_apart, one_btree, one_name, same_name}
use Rattle.birth_index.specs.declared.name.Exchange.{Exchange}
use Rattle.birth_index.specs.declared.name.NodeName.{NodeName}
use Rattle.btree_map.specs.FreshLaws.{tree-one_leaf}
use Rattle.dirty_nodes.specs.Dirty.{AreMarked, leaf_root, moved_pin, root_alone}
use Rattle.dirty_nodes.specs.PinLaws.{moved-fresh, moved-from, moved-other, rises-moved}
use Rattle.node_writeback.specs.declared.node.FrozenNode.{FrozenNode}
use Rattle.pin_list.specs.Pins.{least_pin}
use Rattle.tree_keys.specs.OrderLaws.{at_itself, same_from_at}
use Rattle.tree_nodes.specs.Levels.{EndsAt, IsNodeOf, IsTree, Level, Levels, level_of, with_node}
use Rattle.vol_types.specs.Btrees.{btree_code}
use Rattle.vol_types.specs.Maps.{IsMap, value_at}
use Rattle.vol_types.specs.Positions.{greatest_pos, pos_cmp}
use Rattle.vol_types.specs.declared.pointers.NodePtr.{NodePtr}
use Rattle.vol_types.specs.declared.positions.Btree.{Btree}
use Rattle.vol_types.specs.declared.positions.Pos.{Pos}
use Rattle.node_writeback.specs.Due.{is_due, is_frozen, is_pinned_up_to, no_node, root_in, root_of}
use Rattle.node_writeback.specs.Placing.{AreFrozenApart, AreFrozenLeaves, AreMovedApart, IsFrozenLeaf, MayMove, exchange_of, exchanges_of, moved_pins}
use Rattle.node_writeback.proofs.Moving.{moved_first, pairs-head, pairs-tail}

-- the birth of a node, if there is one
abbrev born : Option NodePtr → Option ℕ
born node = option_map (λ (n : NodePtr). n.birth) node

-- the node of a btree that has no other, under its name
named_alone : (root : NodePtr) → value_at pos_cmp greatest_pos ((greatest_pos, root) ∷ []) ≡ Some root
named_alone root = ap (λ (b : Bool). cond b (Some root) None) (at_itself greatest_pos)

-- A level of one node that ends at the greatest position is that one.
one_in : (level : Level) → length level ≡ 1 → EndsAt level greatest_pos → level ≡ (greatest_pos, (slice_index_or level 0 (greatest_pos, no_node)).1) ∷ []
one_in [] one ends = absurd (omega (arith, one))
one_in (e ∷ f ∷ es) one ends = absurd (omega (arith, one))
one_in (e ∷ []) one ends = by (is_at (pos_cmp greatest_pos) e.0) refl ends
  where
    by : (b : Bool) → is_at (pos_cmp greatest_pos) e.0 ≡ b → IsSome (cond b (Some e.1) None) → e ∷ [] ≡ (greatest_pos, e.1) ∷ []
    by true is some = ap (λ (p : Pos). (p, e.1) ∷ []) (sym (same_from_at greatest_pos e.0 is))
    by false is some = absurd (true≢false (sym some))

-- A btree of one level is one node.
one_level : (levels : Levels) → IsTree levels → length levels ≡ 1 → levels ≡ one_node (root_of levels)
one_level [] tree one = absurd (omega (arith, one))
one_level (l ∷ m ∷ ls) tree one = absurd (omega (arith, one))
one_level (level ∷ []) tree one = ap (λ (l : Level). l ∷ []) (one_in level tree.root (tree.each 0 (omega arith)).ends)

module _ (durable : ℕ) (nodes : List Levels) (pins : List (ℕ × ℕ)) (frozen : List FrozenNode) (btree : Btree) (due : is_due durable nodes pins frozen btree ≡ true) where
  abbrev root_birth : ℕ
  root_birth = (root_in nodes btree).birth

  due_parts : ((length (levels_of nodes btree) == 1) ≡ true) × ((not (is_frozen frozen root_birth) && is_pinned_up_to durable (value_at nat_cmp root_birth pins)) ≡ true)
  due_parts = and_parts (length (levels_of nodes btree) == 1) (not (is_frozen frozen root_birth) && is_pinned_up_to durable (value_at nat_cmp root_birth pins)) due

  due_rest : (not (is_frozen frozen root_birth) ≡ true) × (is_pinned_up_to durable (value_at nat_cmp root_birth pins) ≡ true)
  due_rest = and_parts (not (is_frozen frozen root_birth)) (is_pinned_up_to durable (value_at nat_cmp root_birth pins)) due_parts.1

  -- A leaf that is due is the only one of its btree.
  pub due-alone : IsTree (levels_of nodes btree) → levels_of nodes btree ≡ one_node (root_in nodes btree)
  due-alone tree = one_level (levels_of nodes btree) tree (eqb-true (length (levels_of nodes btree)) 1 due_parts.0)

  due_pinned : IsSome (value_at nat_cmp root_birth pins)
  due_pinned = by (value_at nat_cmp root_birth pins) due_rest.1
    where
      by : (o : Option ℕ) → is_pinned_up_to durable o ≡ true → IsSome o
      by None is = absurd (true≢false (sym is))
      by (Some pin) is = refl

  -- no frozen node has its birth
  not_frozen : (place : ℕ) (none : FrozenNode) → place < length frozen → (slice_index_or frozen place none).birth ≢ root_birth
  not_frozen place none lt same =
      let found : is_frozen frozen root_birth ≡ true = list_any_at (λ (node : FrozenNode). node.birth == root_birth) frozen place none lt (eq-eqb (slice_index_or frozen place none).birth root_birth same) in
      true≢false (sym due_rest.0 ∙ ap not found)

  -- Frozen leaves, with one that is due besides, are such ones.
  pub frozen-more : (node : FrozenNode) → node.btree ≡ btree → AreFrozenLeaves nodes pins frozen → IsTree (levels_of nodes btree) → node.birth ≡ root_birth → IsNodeOf 0 node.fresh
      → ((name : NodeName) → birth_of nodes name ≢ Some node.fresh.birth) → All (λ (other : FrozenNode). other.fresh.birth ≢ node.fresh.birth) frozen → AreFrozenLeaves nodes pins (frozen ++ node ∷ [])
  frozen-more node of are tree birth leaf unused fresh = record {
    each = All-push (IsFrozenLeaf nodes pins) frozen node are.each
        (record {
          root = root_in nodes btree;
          alone = ap (levels_of nodes) of ∙ due-alone tree;
          birth = sym birth;
          pinned = subst (λ (b : ℕ). IsSome (value_at nat_cmp b pins)) (sym birth) due_pinned;
          leaf = leaf;
          unused = unused;
        });
    apart = all_pairs_push AreFrozenApart frozen node are.apart
        (λ place none lt.
        let one = slice_index_or frozen place none in
        let is : IsFrozenLeaf nodes pins one = are.each place none lt in
        record {
          btrees = λ same. not_frozen place none lt (sym is.birth ∙ ap (λ (r : NodePtr). r.birth) (sym (ap root_of is.alone) ∙ ap (root_in nodes) (same ∙ of)));
          births = fresh place none lt;
        });
  }

module _ (nodes : List Levels) (pins : List (ℕ × ℕ)) where
  module _ (node : FrozenNode) (is : IsFrozenLeaf nodes pins node) where
    -- a frozen leaf is the node of its birth
    leaf_named : node_of nodes (only_name node.btree) ≡ Some is.root
    leaf_named = ap (λ (levels : Levels). value_at pos_cmp greatest_pos (level_of levels 0)) is.alone ∙ named_alone is.root

    leaf_born : birth_of nodes (only_name node.btree) ≡ Some node.birth
    leaf_born = ap born leaf_named ∙ ap Some is.birth

    -- It may be exchanged.
    leaf_exchange : IsExchange nodes (exchange_of node)
    leaf_exchange = record { there = ap (is_some) leaf_named; node = is.leaf; unused = is.unused }

  -- Frozen leaves have different births, which no node gets that comes in place of one.
  moved_apart : BirthsDiffer nodes → (one other : FrozenNode) → IsFrozenLeaf nodes pins one → IsFrozenLeaf nodes pins other → AreFrozenApart one other → AreMovedApart one other
  moved_apart differ one other one_is other_is apart = record {
    births = λ same. apart.btrees (ap (λ (n : NodeName). n.btree) (differ (only_name one.btree) (only_name other.btree) one.birth (leaf_born one one_is) (leaf_born other other_is ∙ ap Some (sym same))));
    fresh = λ same. one_is.unused (only_name other.btree) (leaf_born other other_is ∙ ap Some (sym same));
  }

  names_of_two : (one other : FrozenNode) → AreFrozenApart one other → AreOfOtherNodes (exchange_of one) (exchange_of other)
  names_of_two one other apart = record { names = λ same. apart.btrees (ap (λ (n : NodeName). n.btree) same); births = apart.births }

  each_exchange : (frozen : List FrozenNode) → All (IsFrozenLeaf nodes pins) frozen → All (IsExchange nodes) (exchanges_of frozen)
  each_exchange [] are = All-nil (IsExchange nodes)
  each_exchange (node ∷ frozen) are =
      All-cons (IsExchange nodes) (exchange_of node) (exchanges_of frozen) (leaf_exchange node (All-head (IsFrozenLeaf nodes pins) node frozen are)) (each_exchange frozen (All-tail (IsFrozenLeaf nodes pins) node frozen are))

  one_of_two : (node : FrozenNode) (frozen : List FrozenNode) → All (AreFrozenApart node) frozen → All (AreOfOtherNodes (exchange_of node)) (exchanges_of frozen)
  one_of_two node [] apart = All-nil (AreOfOtherNodes (exchange_of node))
  one_of_two node (other ∷ frozen) apart =
      All-cons (AreOfOtherNodes (exchange_of node)) (exchange_of other) (exchanges_of frozen) (names_of_two node other (All-head (AreFrozenApart node) other frozen apart)) (one_of_two node frozen (All-tail (AreFrozenApart node) other frozen apart))

  pairs_of_two : (frozen : List FrozenNode) → AllPairs AreFrozenApart frozen → AllPairs AreOfOtherNodes (exchanges_of frozen)
  pairs_of_two [] pairs = λ one other none before lt. absurd (omega (arith, lt))
  pairs_of_two (node ∷ frozen) pairs =
      AllPairs-cons AreOfOtherNodes (exchange_of node) (exchanges_of frozen) (one_of_two node frozen (pairs-head AreFrozenApart node frozen pairs)) (pairs_of_two frozen (pairs-tail AreFrozenApart node frozen pairs))

  -- Frozen leaves may be exchanged for what was written of them.
  pub frozen-exchanges : (frozen : List FrozenNode) → AreFrozenLeaves nodes pins frozen → AreExchanges nodes (exchanges_of frozen)
  frozen-exchanges frozen are = record { each = each_exchange frozen are.each; apart = pairs_of_two frozen are.apart }

  frozen_tail : (node : FrozenNode) (frozen : List FrozenNode) → AreFrozenLeaves nodes pins (node ∷ frozen) → AreFrozenLeaves nodes pins frozen
  frozen_tail node frozen are = record { each = All-tail (IsFrozenLeaf nodes pins) node frozen are.each; apart = pairs-tail AreFrozenApart node frozen are.apart }

-- what is marked, where only roots are
abbrev pub MarksRoots : Type 0
MarksRoots = (nodes : List Levels) (btree : Btree) (root : NodePtr) (pins marks : List (ℕ × ℕ)) → BirthsDiffer nodes → ((b : Btree) → IsTree (levels_of nodes b)) → AreMarked nodes pins marks → levels_of nodes btree ≡ root_alone root
    → IsSome (value_at nat_cmp root.birth marks) ↔ IsSome (value_at nat_cmp root.birth pins)

-- They are pinned and marked, and may get their new births one after the other.
pub frozen-may : (nodes : List Levels) (pins marks : List (ℕ × ℕ)) (frozen : List FrozenNode) → MarksRoots → BirthsDiffer nodes → ((btree : Btree) → IsTree (levels_of nodes btree)) → AreMarked nodes pins marks → AreFrozenLeaves nodes pins frozen
    → MayMove pins marks frozen
frozen-may nodes pins marks frozen alone differ trees marked are = record {
  pinned = λ place none lt. (are.each place none lt).pinned;
  marked = λ place none lt.
      let node = slice_index_or frozen place none in
      let is : IsFrozenLeaf nodes pins node = are.each place none lt in
      let same = alone nodes node.btree is.root pins marks differ trees marked is.alone in
      subst (λ (b : ℕ). IsSome (value_at nat_cmp b marks)) is.birth (same.1 (subst (λ (b : ℕ). IsSome (value_at nat_cmp b pins)) (sym is.birth) is.pinned));
  apart = λ one other none before lt.
      moved_apart nodes pins differ (slice_index_or frozen one none) (slice_index_or frozen other none) (are.each one none (omega (arith, before, lt))) (are.each other none lt) (are.apart one other none before lt);
}

-- All exchanges are of whole btrees.
pub frozen-roots : (frozen : List FrozenNode) → All IsOfRoot (exchanges_of frozen)
frozen-roots [] = All-nil IsOfRoot
frozen-roots (node ∷ frozen) = All-cons IsOfRoot (exchange_of node) (exchanges_of frozen) refl (frozen-roots frozen)

-- the exchanges are of other btrees where the nodes are
other_names : (frozen : List FrozenNode) (btree : Btree) → All (λ (node : FrozenNode). node.btree ≢ btree) frozen → All (λ (change : Exchange). change.name.btree ≢ btree) (exchanges_of frozen)
other_names [] btree apart = All-nil (λ (change : Exchange). change.name.btree ≢ btree)
other_names (node ∷ frozen) btree apart =
    let P : FrozenNode → Type 0 = λ n. n.btree ≢ btree in
    All-cons (λ (change : Exchange). change.name.btree ≢ btree) (exchange_of node) (exchanges_of frozen) (All-head P node frozen apart) (other_names frozen btree (All-tail P node frozen apart))

-- A btree of which no leaf is frozen is as it was.
pub frozen-others : (nodes : List Levels) (frozen : List FrozenNode) (btree : Btree) → All (λ (node : FrozenNode). node.btree ≢ btree) frozen → levels_of (exchanged (exchanges_of frozen) nodes) btree ≡ levels_of nodes btree
frozen-others nodes frozen btree apart = levels_of-others nodes (exchanges_of frozen) btree (other_names frozen btree apart)

-- A btree that has a node is there.
btree_there : (nodes : List Levels) (btree : Btree) (root : NodePtr) → levels_of nodes btree ≡ one_node root → btree_code btree < length nodes
btree_there nodes btree root alone =
    ⊎_elim (λ lt. lt) (λ ge. let none : 1 ≡ 0 = ap length (sym alone ∙ get_or_past nodes (btree_code btree) [] ge) in absurd (omega (arith, none))) (cases_lt (btree_code btree) (length nodes))

-- the nodes, once a leaf is put in place
module _ (nodes : List Levels) (node : FrozenNode) (root : NodePtr) (alone : levels_of nodes node.btree ≡ one_node root) where
  abbrev placed : List Levels
  placed = with_pointer (exchange_of node) nodes

  put_whole : placed ≡ slice_set nodes (btree_code node.btree) (one_node node.fresh)
  put_whole = ap (slice_set nodes (btree_code node.btree)) (ap (with_node 0 greatest_pos node.fresh) alone)

  placed_here : levels_of placed node.btree ≡ one_node node.fresh
  placed_here = ap (λ (ns : List Levels). levels_of ns node.btree) put_whole ∙ get_or-set_same nodes (btree_code node.btree) (one_node node.fresh) [] (btree_there nodes node.btree root alone)

  placed_other : (btree : Btree) → node.btree ≢ btree → levels_of placed btree ≡ levels_of nodes btree
  placed_other btree apart =
      ap (λ (ns : List Levels). levels_of ns btree) put_whole ∙ get_or-set_other nodes (btree_code node.btree) (btree_code btree) (one_node node.fresh) [] (λ same. apart (sym (one_btree btree node.btree same)))

-- Each btree of a frozen leaf is the leaf that was written.
leaves_placed : (nodes : List Levels) (frozen : List FrozenNode) → All (λ (node : FrozenNode). (root : NodePtr) × (levels_of nodes node.btree ≡ one_node root)) frozen → AllPairs AreFrozenApart frozen
    → All (λ (node : FrozenNode). levels_of (exchanged (exchanges_of frozen) nodes) node.btree ≡ one_node node.fresh) frozen
leaves_placed nodes [] alone apart = All-nil (λ (node : FrozenNode). levels_of nodes node.btree ≡ one_node node.fresh)
leaves_placed nodes (node ∷ frozen) alone apart =
    let P : FrozenNode → Type 0 = λ n. (root : NodePtr) × (levels_of nodes n.btree ≡ one_node root) in
    let here = All-head P node frozen alone in
    let later = All-tail P node frozen alone in
    let others = pairs-head AreFrozenApart node frozen apart in
    let now = with_pointer (exchange_of node) nodes in
    All-cons (λ (n : FrozenNode). levels_of (exchanged (exchanges_of frozen) now) n.btree ≡ one_node n.fresh) node frozen
    (frozen-others now frozen node.btree (λ place none lt same. (others place none lt).btrees (sym same)) ∙ placed_here nodes node here.0 here.1)
    (leaves_placed now frozen
    (λ place none lt. let one = later place none lt in (one.0, placed_other nodes node here.0 here.1 (slice_index_or frozen place none).btree (others place none lt).btrees ∙ one.1)) (pairs-tail AreFrozenApart node frozen apart))

pub frozen-leaves : (nodes : List Levels) (pins : List (ℕ × ℕ)) (frozen : List FrozenNode) → AreFrozenLeaves nodes pins frozen → All (λ (node : FrozenNode). levels_of (exchanged (exchanges_of frozen) nodes) node.btree ≡ one_node node.fresh) frozen
frozen-leaves nodes pins frozen are = leaves_placed nodes frozen (λ place none lt. let is = are.each place none lt in (is.root, is.alone)) are.apart

-- A node that isn't frozen pins what it did.
pub frozen-other_pins : (pins later : List (ℕ × ℕ)) (frozen : List FrozenNode) (birth : ℕ) → IsMap nat_cmp pins → All (λ (node : FrozenNode). (node.birth ≢ birth) × (node.fresh.birth ≢ birth)) frozen
    → value_at nat_cmp birth (moved_pins frozen later pins) ≡ value_at nat_cmp birth pins
frozen-other_pins pins later [] birth rises apart = refl
frozen-other_pins pins later (node ∷ frozen) birth rises apart =
    let P : FrozenNode → Type 0 = λ n. (n.birth ≢ birth) × (n.fresh.birth ≢ birth) in
    let here = All-head P node frozen apart in
    frozen-other_pins (moved_first node later pins) later frozen birth (rises-moved node.birth node.fresh.birth (value_at nat_cmp node.birth later) pins rises) (All-tail P node frozen apart)
    ∙ moved-other node.birth node.fresh.birth (value_at nat_cmp node.birth later) birth pins rises (λ same. here.0 (sym same)) (λ same. here.1 (sym same))

-- What comes in place of one leaf isn't what is moved of the other, before or after.
pub record AreFreshApart (one other : FrozenNode) : Type 0 where
  pub births : other.birth ≢ one.fresh.birth
  pub fresh : other.fresh.birth ≢ one.fresh.birth

pins_moved : (pins later : List (ℕ × ℕ)) (frozen : List FrozenNode) → IsMap nat_cmp pins → AllPairs AreFreshApart frozen → All (λ (node : FrozenNode). value_at nat_cmp node.fresh.birth (moved_pins frozen later pins) ≡ value_at nat_cmp node.birth later) frozen
pins_moved pins later [] rises apart = All-nil (λ (node : FrozenNode). value_at nat_cmp node.fresh.birth pins ≡ value_at nat_cmp node.birth later)
pins_moved pins later (node ∷ frozen) rises apart =
    let now = moved_first node later pins in
    let others = pairs-head AreFreshApart node frozen apart in
    let now_rises = rises-moved node.birth node.fresh.birth (value_at nat_cmp node.birth later) pins rises in
    All-cons (λ (n : FrozenNode). value_at nat_cmp n.fresh.birth (moved_pins frozen later now) ≡ value_at nat_cmp n.birth later) node frozen
    (frozen-other_pins now later frozen node.fresh.birth now_rises (λ place none lt. ((others place none lt).births, (others place none lt).fresh))
    ∙ moved-fresh node.birth node.fresh.birth (value_at nat_cmp node.birth later) pins rises)
    (pins_moved now later frozen now_rises (pairs-tail AreFreshApart node frozen apart))

-- A frozen leaf pins under its new birth what changed it since it was frozen.
pub frozen-pins : (nodes : List Levels) (pins later : List (ℕ × ℕ)) (frozen : List FrozenNode) → IsMap nat_cmp pins → BirthsDiffer nodes → AreFrozenLeaves nodes pins frozen
    → All (λ (node : FrozenNode). value_at nat_cmp node.fresh.birth (moved_pins frozen later pins) ≡ value_at nat_cmp node.birth later) frozen
frozen-pins nodes pins later frozen rises differ are =
    pins_moved pins later frozen rises
    (λ one other none before lt.
    let apart = are.apart one other none before lt in
    let moved = moved_apart nodes pins differ (slice_index_or frozen one none) (slice_index_or frozen other none) (are.each one none (omega (arith, before, lt))) (are.each other none lt) apart in
    record { births = λ same. moved.fresh (sym same); fresh = λ same. apart.births (sym same) })

-- No node pins an entry before one, where none did.
pub frozen-least : (first : ℕ) (pins later : List (ℕ × ℕ)) (frozen : List FrozenNode) → All (λ (node : FrozenNode). IfSome (value_at nat_cmp node.birth later) (λ pin. first ≤ pin)) frozen → IfSome (least_pin pins) (λ pin. first ≤ pin)
    → IfSome (least_pin (moved_pins frozen later pins)) (λ pin. first ≤ pin)
frozen-least first pins later [] from least = least
frozen-least first pins later (node ∷ frozen) from least =
    let P : FrozenNode → Type 0 = λ n. IfSome (value_at nat_cmp n.birth later) (λ pin. first ≤ pin) in
    frozen-least first (moved_first node later pins) later frozen (All-tail P node frozen from) (moved-from first node.birth node.fresh.birth (value_at nat_cmp node.birth later) pins (All-head P node frozen from) least)

-- what is marked once the root of a btree that has no other node stands under another birth
abbrev pub MovesMarks : Type 0
MovesMarks = (nodes : List Levels) (btree : Btree) (root pointer : NodePtr) (later : Option ℕ) (pins marks : List (ℕ × ℕ)) → BirthsDiffer nodes → ((b : Btree) → IsTree (levels_of nodes b)) → IsMap nat_cmp pins → IsMap nat_cmp marks → AreMarked nodes pins marks
    → levels_of nodes btree ≡ root_alone root → IsFree nodes (leaf_root btree) pointer.birth
    → AreMarked (slice_set nodes (btree_code btree) (root_alone pointer)) (moved_pin root.birth pointer.birth later pins) (moved_pin root.birth pointer.birth later marks)

-- the nodes, pins and marks once one frozen leaf is put in place
module _ (nodes : List Levels) (pins : List (ℕ × ℕ)) (node : FrozenNode) (is : IsFrozenLeaf nodes pins node) (differ : BirthsDiffer nodes) where
  abbrev now : List Levels
  now = with_pointer (exchange_of node) nodes

  -- the birth of each name
  birth_now : (name : NodeName) (b : Bool) → same_name (only_name node.btree) name ≡ b → birth_of now name ≡ cond b (Some node.fresh.birth) (birth_of nodes name)
  birth_now name true same =
      ap (birth_of now) (sym (one_name (only_name node.btree) name same))
      ∙ ap born
      (ap (λ (levels : Levels). value_at pos_cmp greatest_pos (level_of levels 0)) (placed_here nodes node is.root is.alone) ∙ named_alone node.fresh)
  birth_now name false apart = ap born (other-with_pointer nodes (exchange_of node) (leaf_exchange nodes pins node is) name (names_apart (only_name node.btree) name apart))

  -- No two nodes have one birth.
  differ_now : BirthsDiffer now
  differ_now one other birth one_has other_has =
      by (same_name (only_name node.btree) one) (same_name (only_name node.btree) other) refl refl
      (sym (birth_now one (same_name (only_name node.btree) one) refl) ∙ one_has) (sym (birth_now other (same_name (only_name node.btree) other) refl) ∙ other_has)
    where
      by : (a b : Bool) → same_name (only_name node.btree) one ≡ a → same_name (only_name node.btree) other ≡ b → cond a (Some node.fresh.birth) (birth_of nodes one) ≡ Some birth → cond b (Some node.fresh.birth) (birth_of nodes other) ≡ Some birth → one ≡ other
      by true true one_is other_is h k = sym (one_name (only_name node.btree) one one_is) ∙ one_name (only_name node.btree) other other_is
      by true false one_is other_is h k = absurd (is.unused other (k ∙ sym h))
      by false true one_is other_is h k = absurd (is.unused one (h ∙ sym k))
      by false false one_is other_is h k = differ one other birth h k

  -- Each btree is a tree.
  trees_now : ((btree : Btree) → IsTree (levels_of nodes btree)) → (btree : Btree) → IsTree (levels_of now btree)
  trees_now trees btree = by (btree_code node.btree == btree_code btree) refl
    where
      by : (b : Bool) → (btree_code node.btree == btree_code btree) ≡ b → IsTree (levels_of now btree)
      by true same =
          let one : node.btree ≡ btree = one_btree node.btree btree (eqb-true (btree_code node.btree) (btree_code btree) same) in
          subst IsTree (sym (ap (levels_of now) (sym one) ∙ placed_here nodes node is.root is.alone)) (tree-one_leaf node.fresh is.leaf)
      by false apart =
          let other : node.btree ≢ btree = λ same. true≢false (sym (eq-eqb (btree_code node.btree) (btree_code btree) (ap btree_code same)) ∙ apart) in
          subst IsTree (sym (placed_other nodes node is.root is.alone btree other)) (trees btree)

  -- Another frozen leaf stays one.
  leaf_now : (later : List (ℕ × ℕ)) → IsMap nat_cmp pins → (other : FrozenNode) → AreFrozenApart node other → IsFrozenLeaf nodes pins other → IsFrozenLeaf now (moved_first node later pins) other
  leaf_now later rises other apart other_is =
      let moved = moved_apart nodes pins differ node other is other_is apart in
      record {
        root = other_is.root;
        alone = placed_other nodes node is.root is.alone other.btree apart.btrees ∙ other_is.alone;
        birth = other_is.birth;
        pinned =
            ap is_some (moved-other node.birth node.fresh.birth (value_at nat_cmp node.birth later) other.birth pins rises (λ same. moved.births (sym same)) (λ same. moved.fresh (sym same)))
            ∙ other_is.pinned;
        leaf = other_is.leaf;
        unused = λ name has. unused_now name (same_name (only_name node.btree) name) (sym (birth_now name (same_name (only_name node.btree) name) refl) ∙ has);
      }
    where
      unused_now : (name : NodeName) (b : Bool) → cond b (Some node.fresh.birth) (birth_of nodes name) ≡ Some other.fresh.birth → ⊥
      unused_now name true has = apart.births (same_Some node.fresh.birth other.fresh.birth has)
      unused_now name false has = other_is.unused name has

  -- The marked nodes are those over dirty ones.
  marked_now : MovesMarks → ((btree : Btree) → IsTree (levels_of nodes btree)) → (marks later : List (ℕ × ℕ)) → IsMap nat_cmp pins → IsMap nat_cmp marks → AreMarked nodes pins marks
      → AreMarked now (moved_first node later pins) (moved_first node later marks)
  marked_now moves trees marks later pins_rise marks_rise marked =
      let pin = value_at nat_cmp node.birth later in
      subst (λ (ns : List Levels). AreMarked ns (moved_first node later pins) (moved_first node later marks)) (sym (put_whole nodes node is.root is.alone))
      (subst (λ (b : ℕ). AreMarked (slice_set nodes (btree_code node.btree) (root_alone node.fresh)) (moved_pin b node.fresh.birth pin pins) (moved_pin b node.fresh.birth pin marks)) is.birth
      (moves nodes node.btree is.root node.fresh pin pins marks differ trees pins_rise marks_rise marked is.alone (λ name has. absurd (is.unused name has))))

-- Once all are put in place, the marked nodes are those over dirty ones, as before.
pub frozen-marked : MovesMarks → (nodes : List Levels) (pins marks later : List (ℕ × ℕ)) (frozen : List FrozenNode) → BirthsDiffer nodes → ((btree : Btree) → IsTree (levels_of nodes btree)) → IsMap nat_cmp pins → IsMap nat_cmp marks → AreMarked nodes pins marks
    → AreFrozenLeaves nodes pins frozen → AreMarked (exchanged (exchanges_of frozen) nodes) (moved_pins frozen later pins) (moved_pins frozen later marks)
frozen-marked moves nodes pins marks later [] differ trees pins_rise marks_rise marked are = marked
frozen-marked moves nodes pins marks later (node ∷ frozen) differ trees pins_rise marks_rise marked are =
    let is = All-head (IsFrozenLeaf nodes pins) node frozen are.each in
    let rest = All-tail (IsFrozenLeaf nodes pins) node frozen are.each in
    let apart = pairs-head AreFrozenApart node frozen are.apart in
    let pin = value_at nat_cmp node.birth later in
    frozen-marked moves (with_pointer (exchange_of node) nodes) (moved_first node later pins) (moved_first node later marks) later frozen (differ_now nodes pins node is differ) (trees_now nodes pins node is differ trees)
    (rises-moved node.birth node.fresh.birth pin pins pins_rise) (rises-moved node.birth node.fresh.birth pin marks marks_rise)
    (marked_now nodes pins node is differ moves trees marks later pins_rise marks_rise marked)
    (record { each = λ place none lt. leaf_now nodes pins node is differ later pins_rise (slice_index_or frozen place none) (apart place none lt) (rest place none lt); apart = pairs-tail AreFrozenApart node frozen are.apart })
