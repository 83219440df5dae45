-- A leaf that is the root of its btree stands as a btree of one level, and nine such leaves stand as nine btrees.
use Rattle.std.proofs.Common.{◌≡◌, ℕ, zero, suc, ◌+◌, ◌<◌, Bool, true, false, cond, List, [], ◌∷◌, length, map, Option, Some, None, Ok, refl, sym, ap, subst, ◌∙◌, arith}
use Rattle.std.specs.Prelude.{All, is_some, option_map, slice_get, slice_index_or}
use Rattle.std.specs.BTreeMap.{is_at}
use Rattle.std.specs.List.{flat_map}
use Rattle.std.specs.List.Sorted.{IsStrictlySortedBy}
use Rattle.std.specs.Ordering.{is_eq}
use Rattle.std.proofs.lemmas.Bool.{true≢false}
use Rattle.std.proofs.lemmas.Cmp.{tied_itself}
use Rattle.std.proofs.lemmas.List.{append-nil, length-map}
use Rattle.std.proofs.lemmas.List.Elements.{All-cons, All-head, All-nil, All-tail}
use Rattle.std.proofs.lemmas.Option.{same_Some}
use Rattle.birth_index.specs.Births.{BirthsDiffer, birth_of, levels_of}
use Rattle.birth_index.specs.NameLaws.{code-below, one_btree}
use Rattle.birth_index.specs.declared.name.NodeName.{NodeName}
use Rattle.image_view.specs.NewNodes.{AreLeafRoots, leaf_trees, root_end, wanted_root}
use Rattle.image_view.specs.Trees.{SetsOf, all_btrees, with_roots}
use Rattle.node_store.specs.NodeContents.{NodeContent}
use Rattle.tree_nodes.specs.Levels.{EndsAt, IsLevel, IsNodeOf, IsTree, Levels, least_of, level_of}
use Rattle.vol_types.specs.Btrees.{btree_code}
use Rattle.vol_types.specs.KeyMapLaws.{entries_of-key_map, same_key_maps}
use Rattle.vol_types.specs.Maps.{IsMap, value_at}
use Rattle.vol_types.specs.PositionLaws.{pos_total}
use Rattle.vol_types.specs.Positions.{greatest_pos, least_pos, pos_cmp}
use Rattle.vol_types.specs.Widths.{PosFits}
use Rattle.vol_types.specs.declared.pointers.NodePtr.{NodePtr}
use Rattle.vol_types.specs.declared.positions.Btree.{Btree}
use Rattle.vol_types.specs.declared.positions.Pos.{Pos}
use Rattle.btree_laws.specs.Standing.{AreLeafKeys, Contents, IsNodeIn, StandAsBtrees, StandsAsBtree, StandsAsNode, keys_in_leaves, leaf_entries, reads_of, set_ends}
use Rattle.btree_laws.proofs.Levels.{at_or_not, least_there}
use Rattle.btree_laws.proofs.NineBtrees.{root_at}

-- the levels of a btree of one leaf
abbrev one_leaf : NodePtr → Levels
one_leaf root = ((greatest_pos, root) ∷ []) ∷ []

-- ---- one btree

module _ (root : NodePtr) where
  -- The only node of the only level is the root, at the greatest position.
  only_node : (at : Pos) (node : NodePtr) → value_at pos_cmp at ((greatest_pos, root) ∷ []) ≡ Some node → (at ≡ greatest_pos) × (root ≡ node)
  only_node at node is = by (is_at (pos_cmp at) greatest_pos) refl is
    where
      by : (b : Bool) → is_at (pos_cmp at) greatest_pos ≡ b → cond b (Some root) None ≡ Some node → (at ≡ greatest_pos) × (root ≡ node)
      by true here found = (at_or_not at greatest_pos (at ≡ greatest_pos) (λ same. same) (λ apart. absurd (true≢false (sym here ∙ apart))), same_Some root node found)
      by false here found = absurd (true≢false (sym (ap is_some found)))

  -- So it is of the levels.
  only : (level : ℕ) (at : Pos) (node : NodePtr) → IsNodeIn (one_leaf root) level at node → (level ≡ 0) × (at ≡ greatest_pos) × (root ≡ node)
  only zero at node is = let own = only_node at node is in (refl, own.0, own.1)
  only (suc level) at node is = absurd (true≢false (sym (ap is_some is)))

  one_rises : IsMap pos_cmp ((greatest_pos, root) ∷ [])
  unfolding IsStrictlySortedBy
  one_rises = (tt, tt)

  one_level : IsNodeOf 0 root → IsLevel 0 ((greatest_pos, root) ∷ [])
  one_level is = record {
    row = record { rises = one_rises; fits = All-cons PosFits greatest_pos [] (record { inode = omega arith; offset = omega arith; snapshot = omega arith }) (All-nil PosFits) };
    ends = ap (λ r. is_some (cond (is_eq r) (Some root) None)) (tied_itself pos_total greatest_pos);
    each = All-cons (IsNodeOf 0) root [] is (All-nil (IsNodeOf 0));
  }

  one_tree : IsNodeOf 0 root → IsTree (one_leaf root)
  one_tree is = record { each = each; nested = nested; root = refl }
    where
      each : (level : ℕ) → level < length (one_leaf root) → IsLevel level (level_of (one_leaf root) level)
      each zero less = one_level is
      each (suc level) less = absurd (omega (arith, less))

      nested : (level : ℕ) (at : Pos) → EndsAt (level_of (one_leaf root) (level + 1)) at → EndsAt (level_of (one_leaf root) level) at
      nested level at ends =
          let up : level + 1 ≡ suc level = omega arith in
          absurd (true≢false (sym (subst (λ n. EndsAt (level_of (one_leaf root) n) at) up ends)))

  -- A leaf begins at the least position.
  leaf_least : least_of greatest_pos ((greatest_pos, root) ∷ []) ≡ least_pos
  leaf_least = least_there ((greatest_pos, root) ∷ []) [] (greatest_pos, root) [] one_rises refl

  -- A root that is a leaf stands as its btree.
  pub leaf_stands : (sets : SetsOf) (btree : Btree) (content : Contents) → IsNodeOf 0 root → sets (wanted_root btree root) ≡ Ok (content root) → AreLeafKeys least_pos greatest_pos (content root).entries → StandsAsBtree sets btree root (one_leaf root) content
  leaf_stands sets btree content is comes keys = record { tree = one_tree is; top = refl; each = each }
    where
      stands : StandsAsNode sets btree (one_leaf root) content zero greatest_pos root
      stands = record {
        comes = ap (λ least. sets (record { btree = btree; least = least; greatest = greatest_pos; pointer = root })) leaf_least ∙ comes;
        entries = subst (λ least. AreLeafKeys least greatest_pos (content root).entries) (sym leaf_least) keys;
      }

      each : (level : ℕ) (at : Pos) (node : NodePtr) → IsNodeIn (one_leaf root) level at node → StandsAsNode sets btree (one_leaf root) content level at node
      each zero at node there =
          let own = only_node at node there in
          subst (λ (n : Pos × NodePtr). StandsAsNode sets btree (one_leaf root) content zero n.0 n.1) (λ i. (sym own.0 i, own.1 i)) stands
      each (suc level) at node there = absurd (true≢false (sym (ap is_some there)))

-- ---- nine btrees

-- What is made of each root is found at its place.
made_at : {A : Type 0} (g : NodePtr → A) (d : A) (roots : List NodePtr) (place : ℕ) (root : NodePtr) → slice_get roots place ≡ Some root → slice_index_or (map g roots) place d ≡ g root
made_at g d [] place root is = absurd (true≢false (sym (ap is_some is)))
made_at g d (r ∷ roots) zero root is = ap g (same_Some r root is)
made_at g d (r ∷ roots) (suc place) root is = made_at g d roots place root is

-- What holds of all holds of what is found at a place.
all_at : (P : NodePtr → Type 0) (roots : List NodePtr) (place : ℕ) (root : NodePtr) → All P roots → slice_get roots place ≡ Some root → P root
all_at P [] place root all is = absurd (true≢false (sym (ap is_some is)))
all_at P (r ∷ roots) zero root all is = subst P (same_Some r root is) (All-head P r roots all)
all_at P (r ∷ roots) (suc place) root all is = all_at P roots place root (All-tail P r roots all) is

module _ (sets : SetsOf) (roots : List NodePtr) (content : Btree → NodeContent) (are : AreLeafRoots sets roots content) where
  -- the levels of all
  abbrev trees : List Levels
  trees = (leaf_trees roots content).nodes

  -- the root of a btree
  root_of : (btree : Btree) → (root : NodePtr) × (slice_get roots (btree_code btree) ≡ Some root)
  root_of btree =
      let nine = are.nine in
      let less = code-below btree in
      root_at roots (btree_code btree) (omega (arith, nine, less))

  levels_are : (btree : Btree) (root : NodePtr) → slice_get roots (btree_code btree) ≡ Some root → levels_of trees btree ≡ one_leaf root
  levels_are btree root is = made_at one_leaf [] roots (btree_code btree) root is

  -- A name that has a birth is that of a root.
  root_named : (name : NodeName) (birth : ℕ) → birth_of trees name ≡ Some birth → (root : NodePtr) × (slice_get roots (btree_code name.btree) ≡ Some root) × (name.level ≡ 0) × (name.greatest ≡ greatest_pos) × (root.birth ≡ birth)
  root_named name birth has =
      let root = root_of name.btree in
      let here : option_map (λ (node : NodePtr). node.birth) (value_at pos_cmp name.greatest (level_of (one_leaf root.0) name.level)) ≡ Some birth =
      ap (λ (ls : Levels). option_map (λ (node : NodePtr). node.birth) (value_at pos_cmp name.greatest (level_of ls name.level))) (sym (levels_are name.btree root.0 root.1)) ∙ has in
      let found = by root.0 (value_at pos_cmp name.greatest (level_of (one_leaf root.0) name.level)) refl here in
      (root.0, root.1, found.0, found.1, found.2)
    where
      by : (root : NodePtr) (o : Option NodePtr) → value_at pos_cmp name.greatest (level_of (one_leaf root) name.level) ≡ o → option_map (λ (node : NodePtr). node.birth) o ≡ Some birth → (name.level ≡ 0) × (name.greatest ≡ greatest_pos) × (root.birth ≡ birth)
      by root None is named = absurd (true≢false (sym (ap is_some named)))
      by root (Some node) is named =
          let own = only root name.level name.greatest node is in
          (own.0, own.1, ap (λ (n : NodePtr). n.birth) own.2 ∙ same_Some node.birth birth named)

  births_differ : BirthsDiffer trees
  births_differ one other birth has have =
      let first = root_named one birth has in
      let second = root_named other birth have in
      let btree = one_btree one.btree other.btree (are.births (btree_code one.btree) (btree_code other.btree) first.0 second.0 first.1 second.1 (first.4 ∙ sym second.4)) in
      let level = first.2 ∙ sym second.2 in
      let greatest = first.3 ∙ sym second.3 in
      λ i. record { btree = btree i; level = level i; greatest = greatest i }

  -- Nine roots that are leaves stand as nine btrees.
  pub leaves_stand : All (IsNodeOf 0) roots → ((btree : Btree) → AreLeafKeys least_pos greatest_pos (content btree).entries) → StandAsBtrees sets roots trees (λ btree root. content btree)
  leaves_stand nodes keys = record {
    roots_are = are.nine;
    trees_are = length-map roots one_leaf ∙ are.nine;
    each = λ btree root is. subst (λ (ls : Levels). StandsAsBtree sets btree root ls (λ node. content btree)) (sym (levels_are btree root is))
        (leaf_stands root sets btree (λ node. content btree) (all_at (IsNodeOf 0) roots (btree_code btree) root nodes is) (are.each btree root is) (keys btree));
    births = births_differ;
  }

  -- What is read of each is what its leaf holds.
  own_entries : (btree : Btree) → leaf_entries (λ node. content btree) (levels_of trees btree) ≡ (content btree).entries
  own_entries btree =
      let root = root_of btree in
      ap (leaf_entries (λ node. content btree)) (levels_are btree root.0 root.1) ∙ append-nil (content btree).entries

  keys_are : keys_in_leaves (λ btree root. content btree) trees ≡ (leaf_trees roots content).keys
  keys_are = same_key_maps (keys_in_leaves (λ btree root. content btree) trees) (leaf_trees roots content).keys (λ btree.
      entries_of-key_map (λ b. leaf_entries (λ node. content b) (levels_of trees b)) btree ∙ own_entries btree ∙ sym (entries_of-key_map (λ b. (content b).entries) btree))

ends_are : (roots : List NodePtr) (content : Btree → NodeContent) → length roots ≡ 9 → flat_map (λ btree. set_ends (λ node. content btree) (levels_of (leaf_trees roots content).nodes btree)) all_btrees ≡ map (root_end content) (with_roots roots)
ends_are [] content nine = absurd (omega (arith, nine))
ends_are (a ∷ []) content nine = absurd (omega (arith, nine))
ends_are (a ∷ b ∷ []) content nine = absurd (omega (arith, nine))
ends_are (a ∷ b ∷ c ∷ []) content nine = absurd (omega (arith, nine))
ends_are (a ∷ b ∷ c ∷ d ∷ []) content nine = absurd (omega (arith, nine))
ends_are (a ∷ b ∷ c ∷ d ∷ e ∷ []) content nine = absurd (omega (arith, nine))
ends_are (a ∷ b ∷ c ∷ d ∷ e ∷ f ∷ []) content nine = absurd (omega (arith, nine))
ends_are (a ∷ b ∷ c ∷ d ∷ e ∷ f ∷ g ∷ []) content nine = absurd (omega (arith, nine))
ends_are (a ∷ b ∷ c ∷ d ∷ e ∷ f ∷ g ∷ h ∷ []) content nine = absurd (omega (arith, nine))
ends_are (a ∷ b ∷ c ∷ d ∷ e ∷ f ∷ g ∷ h ∷ i ∷ []) content nine = refl
ends_are (a ∷ b ∷ c ∷ d ∷ e ∷ f ∷ g ∷ h ∷ i ∷ j ∷ more) content nine = absurd (omega (arith, nine))

-- What is read of nine leaves that stand as btrees is what their sets come to.
pub leaves_read : (sets : SetsOf) (roots : List NodePtr) (content : Btree → NodeContent) → AreLeafRoots sets roots content → reads_of (λ btree root. content btree) (leaf_trees roots content).nodes ≡ leaf_trees roots content
leaves_read sets roots content are = λ i. record { keys = keys_are sets roots content are i; nodes = (leaf_trees roots content).nodes; ends = ends_are roots content are.nine i }
