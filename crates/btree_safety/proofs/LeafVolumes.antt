-- Leaves that were written may be put in place of the roots of btrees of one leaf.
use Rattle.std.proofs.Common.{◌≡◌, ◌⊎◌, inl, inr, ⊎_elim, ℕ, zero, suc, ◌+◌, ◌<◌, Bool, true, false, cond, List, [], ◌∷◌, length, get_or, Option, None, Some, refl, sym, ap, subst, ◌∙◌, arith}
use Rattle.std.specs.Prelude.{All, is_some, option_map, slice_get}
use Rattle.std.specs.BTreeMap.{is_at}
use Rattle.std.specs.List.Sorted.{IsStrictlySortedBy}
use Rattle.std.specs.Ordering.{is_eq, is_lt}
use Rattle.std.proofs.lemmas.Bool.{true≢false}
use Rattle.std.proofs.lemmas.Cmp.{tied_itself}
use Rattle.std.proofs.lemmas.List.Elements.{All-cons, All-nil}
use Rattle.std.proofs.lemmas.Option.{same_Some}
use Rattle.birth_index.specs.Births.{birth_of, levels_of, node_of}
use Rattle.birth_index.specs.declared.name.NodeName.{NodeName}
use Rattle.tree_nodes.specs.Levels.{EndsAt, IsLevel, IsNodeOf, IsTree, Levels, follower_of, last_of, least_of, level_of}
use Rattle.tree_nodes.specs.RowLaws.{same_at}
use Rattle.vol_types.specs.Btrees.{btree_code}
use Rattle.vol_types.specs.Maps.{IsMap, value_at}
use Rattle.vol_types.specs.PositionLaws.{pos_total}
use Rattle.vol_types.specs.Positions.{greatest_pos, least_pos, pos_cmp}
use Rattle.vol_types.specs.Widths.{PosFits}
use Rattle.vol_types.specs.declared.pointers.NodePtr.{NodePtr}
use Rattle.vol_types.specs.declared.positions.Btree.{Btree}
use Rattle.vol_types.specs.declared.positions.Btree.TheVariants.{Extents, Inodes, Dirents, Subvols, Snapshots, Alloc, Backptrs, Deleted, Counters}
use Rattle.vol_types.specs.declared.positions.Pos.{Pos}
use Rattle.btree_laws.specs.Exchanges.{IsKept}
use Rattle.btree_laws.specs.Standing.{AreLeafKeys, IsNodeIn, IsUnderRoot}
use Rattle.crash_safety.specs.Leaves.{leaf_nodes}
use Rattle.btree_safety.specs.CheckpointBtrees.{Btrees, IsKeptInPlace, IsPutInPlace, MayBePut}
use Rattle.btree_safety.specs.FreshNodes.{content_of_set}
use Rattle.btree_safety.specs.KeptKeys.{Pins}
use Rattle.btree_safety.specs.LeafVolumes.{IsReplaced, IsRootKept, IsRootWritten, in_order}
use Rattle.btree_safety.proofs.KeptOutside.{still_kept}

-- the levels of a btree of one leaf
abbrev one_leaf : NodePtr → Levels
one_leaf root = ((greatest_pos, root) ∷ []) ∷ []

-- ---- one btree

module _ (root : NodePtr) where
  here : value_at pos_cmp greatest_pos ((greatest_pos, root) ∷ []) ≡ Some root
  here = ap (λ r. cond (is_eq r) (Some root) None) (tied_itself pos_total greatest_pos)

  -- The only node is the root, at the greatest position.
  only : (level : ℕ) (at : Pos) (node : NodePtr) → IsNodeIn (one_leaf root) level at node → (level ≡ zero) × (at ≡ greatest_pos) × (root ≡ node)
  only zero at node is = by (is_at (pos_cmp at) greatest_pos) refl is
    where
      by : (b : Bool) → is_at (pos_cmp at) greatest_pos ≡ b → cond b (Some root) None ≡ Some node → (zero ≡ zero) × (at ≡ greatest_pos) × (root ≡ node)
      by true there found = (refl, same_at at greatest_pos there, same_Some root node found)
      by false there found = absurd (true≢false (sym (ap is_some found)))
  only (suc level) at node is = absurd (true≢false (sym (ap is_some is)))

  least_is : least_of greatest_pos ((greatest_pos, root) ∷ []) ≡ least_pos
  least_is = ap (λ r. follower_of (last_of (cond (is_lt r) ((greatest_pos, root) ∷ []) []))) (tied_itself pos_total greatest_pos)

  one_rises : IsMap pos_cmp ((greatest_pos, root) ∷ [])
  unfolding IsStrictlySortedBy
  one_rises = (tt, tt)

  one_tree : IsNodeOf 0 root → IsTree (one_leaf root)
  one_tree is = record { each = each; nested = nested; root = refl }
    where
      each : (level : ℕ) → level < length (one_leaf root) → IsLevel level (level_of (one_leaf root) level)
      each zero less = record {
        row = record { rises = one_rises; fits = All-cons PosFits greatest_pos [] (record { inode = omega arith; offset = omega arith; snapshot = omega arith }) (All-nil PosFits) };
        ends = ap is_some here;
        each = All-cons (IsNodeOf 0) root [] is (All-nil (IsNodeOf 0));
      }
      each (suc level) less = absurd (omega (arith, less))

      nested : (level : ℕ) (at : Pos) → EndsAt (level_of (one_leaf root) (level + 1)) at → EndsAt (level_of (one_leaf root) level) at
      nested level at ends =
          let up : level + 1 ≡ suc level = omega arith in
          absurd (true≢false (sym (subst (λ n. EndsAt (level_of (one_leaf root) n) at) up ends)))

-- ---- nine of them

-- The levels of each.
levels_are : (root : Btree → NodePtr) (btree : Btree) → levels_of (leaf_nodes (in_order root)) btree ≡ one_leaf (root btree)
levels_are root Extents = refl
levels_are root Inodes = refl
levels_are root Dirents = refl
levels_are root Subvols = refl
levels_are root Snapshots = refl
levels_are root Alloc = refl
levels_are root Backptrs = refl
levels_are root Deleted = refl
levels_are root Counters = refl

root_is : (root : Btree → NodePtr) (btree : Btree) → slice_get (in_order root) (btree_code btree) ≡ Some (root btree)
root_is root Extents = refl
root_is root Inodes = refl
root_is root Dirents = refl
root_is root Subvols = refl
root_is root Snapshots = refl
root_is root Alloc = refl
root_is root Backptrs = refl
root_is root Deleted = refl
root_is root Counters = refl

-- the name of a root
abbrev root_name : Btree → NodeName
root_name btree = record { btree = btree; level = 0; greatest = greatest_pos }

-- A name that has a birth is that of a node.
node_with : (trees : List Levels) (name : NodeName) (birth : ℕ) → birth_of trees name ≡ Some birth → (node : NodePtr) × (node_of trees name ≡ Some node) × (node.birth ≡ birth)
node_with trees name birth has = by (node_of trees name) refl has
  where
    by : (o : Option NodePtr) → node_of trees name ≡ o → option_map (λ (node : NodePtr). node.birth) o ≡ Some birth → (node : NodePtr) × (node_of trees name ≡ Some node) × (node.birth ≡ birth)
    by None is born = absurd (true≢false (sym (ap is_some born)))
    by (Some node) is born = (node, is, same_Some node.birth birth born)

module _ (b : Btrees) (root fresh : Btree → NodePtr) (pin : Pins) (gone : List NodePtr) (trees : b.trees ≡ leaf_nodes (in_order root)) where
  abbrev new : List Levels
  new = leaf_nodes (in_order fresh)

  old_are : (btree : Btree) → levels_of b.trees btree ≡ one_leaf (root btree)
  old_are btree = ap (λ (ts : List Levels). levels_of ts btree) trees ∙ levels_are root btree

  -- A node of the old ones or of the new ones is a root.
  old_root : (name : NodeName) (node : NodePtr) → node_of b.trees name ≡ Some node → (name.level ≡ zero) × (name.greatest ≡ greatest_pos) × (root name.btree ≡ node)
  old_root name node there = only (root name.btree) name.level name.greatest node (subst (λ (ls : Levels). IsNodeIn ls name.level name.greatest node) (old_are name.btree) there)

  new_root : (name : NodeName) (node : NodePtr) → node_of new name ≡ Some node → (name.level ≡ zero) × (name.greatest ≡ greatest_pos) × (fresh name.btree ≡ node)
  new_root name node there = only (fresh name.btree) name.level name.greatest node (subst (λ (ls : Levels). IsNodeIn ls name.level name.greatest node) (levels_are fresh name.btree) there)

  new_there : (btree : Btree) → node_of new (root_name btree) ≡ Some (fresh btree)
  new_there btree = subst (λ (ls : Levels). IsNodeIn ls 0 greatest_pos (fresh btree)) (sym (levels_are fresh btree)) (here (fresh btree))

  old_there : (btree : Btree) → node_of b.trees (root_name btree) ≡ Some (root btree)
  old_there btree = subst (λ (ls : Levels). IsNodeIn ls 0 greatest_pos (root btree)) (sym (old_are btree)) (here (root btree))

  least_here : (btree : Btree) → least_of greatest_pos (level_of (levels_of new btree) 0) ≡ least_pos
  least_here btree = ap (λ (ls : Levels). least_of greatest_pos (level_of ls 0)) (levels_are fresh btree) ∙ least_is (fresh btree)

  kept_here : (btree : Btree) → IsRootKept b root fresh pin btree → IsKeptInPlace b new pin (root_name btree) (fresh btree)
  kept_here btree is = record {
    kept = subst (λ (ls : Levels). IsKept ls (levels_of new btree) 0 greatest_pos (fresh btree)) (sym (old_are btree ∙ ap one_leaf (sym is.same)))
        (subst (λ (ls : Levels). IsKept (one_leaf (fresh btree)) ls 0 greatest_pos (fresh btree)) (sym (levels_are fresh btree)) (still_kept (one_leaf (fresh btree)) 0 greatest_pos (fresh btree) (here (fresh btree))));
    pins = is.pins;
  }

  put_here : (btree : Btree) → IsRootWritten b root fresh pin btree → IsPutInPlace b new pin (root_name btree) (fresh btree)
  put_here btree is = record {
    fresh = is.node;
    one = is.one;
    wanted = is.wanted ∙ ap (λ (least : Pos). record { btree = btree; least = least; greatest = greatest_pos; pointer = fresh btree }) (sym (least_here btree));
    entries = subst (λ (least : Pos). AreLeafKeys least greatest_pos (content_of_set is.node.set).entries) (sym (least_here btree)) is.keys;
    born = record {
      unused = λ other has.
          let node = node_with b.trees other (fresh btree).birth has in
          is.unused other.btree (ap (λ (n : NodePtr). n.birth) (old_root other node.0 node.1).2 ∙ node.2);
      own = λ other has.
          let node = node_with new other (fresh btree).birth has in
          let at = new_root other node.0 node.1 in
          let same : other.btree ≡ btree = is.own other.btree (ap (λ (n : NodePtr). n.birth) at.2 ∙ node.2) in
          λ i. record { btree = same i; level = at.0 i; greatest = at.1 i };
    };
    pins = is.pins;
  }

  pub roots_may_be_put : ((btree : Btree) → IsNodeOf 0 (fresh btree)) → ((btree : Btree) → IsRootKept b root fresh pin btree ⊎ IsRootWritten b root fresh pin btree) → All (IsReplaced root fresh) gone → MayBePut b (in_order fresh) new pin gone
  roots_may_be_put are each replaced = record {
    roots_are = refl;
    trees_are = refl;
    trees = λ btree. subst IsTree (sym (levels_are fresh btree)) (one_tree (fresh btree) (are btree));
    tops = λ btree node is. subst (λ (n : NodePtr). IsUnderRoot n (levels_of new btree)) (same_Some (fresh btree) node (sym (root_is fresh btree) ∙ is))
        (subst (IsUnderRoot (fresh btree)) (sym (levels_are fresh btree)) refl);
    each = λ name node there.
        let at = new_root name node there in
        let names : root_name name.btree ≡ name = λ i. record { btree = name.btree; level = sym at.0 i; greatest = sym at.1 i } in
        ⊎_elim
        (λ (kept : IsRootKept b root fresh pin name.btree). inl (subst (λ (n : NodeName). IsKeptInPlace b new pin n node) names (subst (IsKeptInPlace b new pin (root_name name.btree)) at.2 (kept_here name.btree kept))))
        (λ (written : IsRootWritten b root fresh pin name.btree). inr (subst (λ (n : NodeName). IsPutInPlace b new pin n node) names (subst (IsPutInPlace b new pin (root_name name.btree)) at.2 (put_here name.btree written))))
        (each name.btree);
    are_gone = λ k d within.
        let was = replaced k d within in
        record {
          name = root_name was.btree;
          stood = old_there was.btree ∙ ap Some (sym was.is);
          gone = λ there. was.other (same_Some (fresh was.btree) (get_or gone k d) (sym (new_there was.btree) ∙ there) ∙ was.is);
        };
  }
