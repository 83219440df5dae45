-- Where each btree is one node, that node is its root, is found under its only name, and no two nodes have one birth where no two roots do.
use Rattle.std.proofs.Common.{◌≡◌, ℕ, zero, suc, Bool, true, false, cond, Option, Some, None, List, refl, sym, ap, ◌∙◌}
use Rattle.std.proofs.lemmas.Option.{same_Some}
use Rattle.std.proofs.lemmas.Bool.{false≢true}
use Rattle.std.proofs.lemmas.Cmp.{tied_itself}
use Rattle.std.specs.BTreeMap.{is_at}
use Rattle.std.specs.Ordering.{is_eq}
use Rattle.std.specs.declared.cmp.Ordering.{Ordering}
use Rattle.std.specs.declared.cmp.Ordering.TheVariants.{Less, Equal, Greater}
use Rattle.std.specs.Prelude.{option_map}
use Rattle.birth_index.specs.Births.{BirthsDiffer, birth_of, levels_of, node_of}
use Rattle.birth_index.specs.Exchanges.{HaveOneNode, one_node, only_name}
use Rattle.birth_index.specs.declared.name.NodeName.{NodeName}
use Rattle.node_writeback.specs.Due.{root_in, root_of}
use Rattle.tree_nodes.specs.Levels.{Levels, level_of}
use Rattle.vol_types.specs.Maps.{value_at}
use Rattle.vol_types.specs.PositionLaws.{pos_exact, pos_total}
use Rattle.vol_types.specs.Positions.{greatest_pos, pos_cmp}
use Rattle.vol_types.specs.declared.pointers.NodePtr.{NodePtr}
use Rattle.vol_types.specs.declared.positions.Btree.{Btree}
use Rattle.vol_types.specs.declared.positions.Pos.{Pos}

equal_from : (o : Ordering) → is_eq o ≡ true → o ≡ Equal
equal_from Less is = absurd (false≢true is)
equal_from Equal is = refl
equal_from Greater is = absurd (false≢true is)

-- the birth of a node, if there is one
abbrev born : Option NodePtr → Option ℕ
born node = option_map (λ (n : NodePtr). n.birth) node

-- a name of the only node of a btree, at a level and a position, is that one
module _ (btree : Btree) (root : NodePtr) (birth : ℕ) where
  at_root : (greatest : Pos) (b : Bool) → is_at (pos_cmp greatest) greatest_pos ≡ b → born (cond b (Some root) None) ≡ Some birth → (record { btree = btree; level = 0; greatest = greatest } ≡ only_name btree) × (root.birth ≡ birth)
  at_root greatest true at is = (ap (λ (p : Pos). record { btree = btree; level = 0; greatest = p }) (pos_exact greatest greatest_pos (equal_from (pos_cmp greatest greatest_pos) at)), same_Some root.birth birth is)
  at_root greatest false at is = absurd cc

  only_named : (level : ℕ) (greatest : Pos) → born (value_at pos_cmp greatest (level_of (one_node root) level)) ≡ Some birth → (record { btree = btree; level = level; greatest = greatest } ≡ only_name btree) × (root.birth ≡ birth)
  only_named zero greatest is = at_root greatest (is_at (pos_cmp greatest) greatest_pos) refl is
  only_named (suc level) greatest is = absurd cc

module _ (nodes : List Levels) (one : HaveOneNode nodes) where
  -- The root of each btree is its only node.
  pub one_root : (btree : Btree) → levels_of nodes btree ≡ one_node (root_in nodes btree)
  one_root btree = let alone = one btree in alone.1 ∙ ap one_node (sym (ap root_of alone.1))

  -- It is the node of its only name,
  pub root_named : (btree : Btree) → node_of nodes (only_name btree) ≡ Some (root_in nodes btree)
  root_named btree =
      ap (λ (levels : Levels). value_at pos_cmp greatest_pos (level_of levels 0)) (one_root btree) ∙ ap (λ (b : Bool). cond b (Some (root_in nodes btree)) None) (ap is_eq (tied_itself pos_total greatest_pos))

  -- with its birth.
  pub root_born : (btree : Btree) → birth_of nodes (only_name btree) ≡ Some (root_in nodes btree).birth
  root_born btree = ap born (root_named btree)

  named_root : (name : NodeName) (birth : ℕ) → birth_of nodes name ≡ Some birth → (name ≡ only_name name.btree) × ((root_in nodes name.btree).birth ≡ birth)
  named_root name birth is =
      only_named name.btree (root_in nodes name.btree) birth name.level name.greatest (sym (ap (λ (levels : Levels). born (value_at pos_cmp name.greatest (level_of levels name.level))) (one_root name.btree)) ∙ is)

  -- Where the roots have different births, all nodes have.
  pub births_differ : ((one other : Btree) → (root_in nodes one).birth ≡ (root_in nodes other).birth → one ≡ other) → BirthsDiffer nodes
  births_differ differ one other birth one_is other_is =
      let first = named_root one birth one_is in
      let second = named_root other birth other_is in
      first.0 ∙ ap only_name (differ one.btree other.btree (first.1 ∙ sym second.1)) ∙ sym second.0
