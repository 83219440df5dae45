-- An update of a needed entry changes a node that was found exactly where it isn't above the root that the newest entry names.
use Rattle.std.proofs.Common.{◌≡◌, ℕ, suc, ◌<◌, ◌≤◌, ⊎_elim, [], length, Option, None, Some, get_or, sym, ap, subst, ◌∙◌, arith}
use Rattle.std.specs.Option.{option_map_or}
use Rattle.std.specs.Prelude.{◌↔◌, All, IfSome, IsSome, is_some, slice_get}
use Rattle.std.proofs.lemmas.Bool.{cases_lt, true≢false}
use Rattle.std.proofs.lemmas.List.{get_or_past}
use Rattle.birth_index.specs.Births.{levels_of}
use Rattle.btree_map.specs.Trees.{IsTrees}
use Rattle.image_view.specs.Found.{Found, IsBelowRoots}
use Rattle.journal_ring.specs.declared.found.FoundEntry.{FoundEntry}
use Rattle.record_codec.specs.Entries.{IsEntry}
use Rattle.record_codec.specs.declared.entries.EntryRecord.{EntryRecord}
use Rattle.tree_nodes.specs.CoverLaws.{node_at-some}
use Rattle.tree_nodes.specs.Levels.{IsTree, Level, Levels, level_of, node_at}
use Rattle.vol_types.specs.Btrees.{btree_code}
use Rattle.vol_types.specs.Widths.{PosFits}
use Rattle.vol_types.specs.declared.keys.Update.{Update}
use Rattle.vol_types.specs.declared.pointers.NodePtr.{NodePtr}
use Rattle.vol_types.specs.declared.positions.Btree.{Btree}
use Rattle.vol_types.specs.declared.positions.Pos.{Pos}
use Rattle.replay.specs.NodeUpdates.{HaveRisen, ChangesNode, EachUpdate, IsBelowRoot}
use Rattle.replay.specs.Volumes.{trees_read}
use Rattle.replay.proofs.BtreesRead.{root_of}

-- A position is covered at a level that a btree has, and at no other.
covered : (levels : Levels) (level : ℕ) (pos : Pos) → IsTree levels → PosFits pos → IsSome (node_at pos (level_of levels level)) ↔ (level < length levels)
covered levels level pos tree fits = (
  λ some. ⊎_elim
      (λ (there : level < length levels). there)
      (λ (past : length levels ≤ level). absurd (true≢false (sym some ∙ ap (λ (nodes : Level). is_some (node_at pos nodes)) (get_or_past levels level [] past))))
      (cases_lt level (length levels)),
  λ there. node_at-some pos (level_of levels level) (tree.each level there).ends fits,
)

-- the level of the root that there is
at_root : (o : Option NodePtr) (root : NodePtr) (level : ℕ) → o ≡ Some root → IfSome o (λ (r : NodePtr). level ≤ r.level) ↔ (level < suc root.level)
at_root o root level is = (
  λ below. let least : level ≤ root.level = subst (λ (p : Option NodePtr). IfSome p (λ (r : NodePtr). level ≤ r.level)) is below in omega (arith, least),
  λ below. subst (λ (p : Option NodePtr). IfSome p (λ (r : NodePtr). level ≤ r.level)) (sym is) (omega (arith, below)),
)

-- What isn't above a root isn't above a later one that isn't lower.
below_later : (one other : Option NodePtr) (root : NodePtr) (level : ℕ) → one ≡ Some root → IfSome one (λ (r : NodePtr). level ≤ r.level)
    → option_map_or (λ (r : NodePtr). r.level) one 0 ≤ option_map_or (λ (r : NodePtr). r.level) other 0 → IfSome other (λ (later : NodePtr). level ≤ later.level)
below_later None other root level is below rise = absurd cc
below_later (Some r) None root level is below rise = tt
below_later (Some r) (Some later) root level is below rise = omega (arith, below, rise)

-- what is known of what was found
pub record IsKnown (f : Found) : Type 0 where
  pub trees : IsTrees (trees_read f.trees)
  pub heights : (btree : Btree) → (root : NodePtr) × (slice_get f.last.entry.roots (btree_code btree) ≡ Some root) × (length (levels_of f.trees.nodes btree) ≡ suc root.level)
  pub entries : All (λ (found : FoundEntry). IsEntry found.entry) f.needed

module _ (f : Found) (known : IsKnown f) where
  -- It changes a node exactly where it isn't above the root.
  exactly : (update : Update) → PosFits update.pos → ChangesNode f.trees.nodes update ↔ IsBelowRoot f.last.entry.roots update
  exactly update fits =
      let root = known.heights update.btree in
      let here = covered (levels_of f.trees.nodes update.btree) update.level update.pos (known.trees.each update.btree).nodes fits in
      let there = at_root (slice_get f.last.entry.roots (btree_code update.btree)) root.0 update.level root.1 in (
        λ some. there.1 (subst (λ (n : ℕ). update.level < n) root.2 (here.0 some)),
        λ below. here.1 (subst (λ (n : ℕ). update.level < n) (sym root.2) (there.0 below)),
      )

  pub each_exactly : EachUpdate f (λ update. ChangesNode f.trees.nodes update ↔ IsBelowRoot f.last.entry.roots update)
  each_exactly k d lt i e less = exactly (get_or (get_or f.needed k d).entry.updates i e) ((known.entries k d lt).fits.updates i e less).pos

  -- So those of keys in leaves do.
  leaf_changes : (update : Update) → PosFits update.pos → update.level ≡ 0 → ChangesNode f.trees.nodes update
  leaf_changes update fits leaf =
      let root = known.heights update.btree in
      (covered (levels_of f.trees.nodes update.btree) update.level update.pos (known.trees.each update.btree).nodes fits).1 (omega (arith, leaf, root.2))

  pub each_leaf : EachUpdate f (λ update. update.level ≡ 0 → ChangesNode f.trees.nodes update)
  each_leaf k d lt i e less = leaf_changes (get_or (get_or f.needed k d).entry.updates i e) ((known.entries k d lt).fits.updates i e less).pos

  -- And so do those of an entry that names no higher roots than the newest one, and has no update above them.
  entry_changes : (entry : EntryRecord) → IsEntry entry → IsBelowRoots entry → HaveRisen entry.roots f.last.entry.roots → All (ChangesNode f.trees.nodes) entry.updates
  entry_changes entry is below rise i e less =
      let update = get_or entry.updates i e in
      let root = root_of entry.roots is.in_range.all_roots is.in_range.roots update.btree in
      (exactly update (is.fits.updates i e less).pos).1
      (below_later (slice_get entry.roots (btree_code update.btree)) (slice_get f.last.entry.roots (btree_code update.btree)) root.0 update.level root.1 (below i e less) (rise update.btree))

  pub each_entry : All (λ (found : FoundEntry). IsBelowRoots found.entry) f.needed → All (λ (found : FoundEntry). HaveRisen found.entry.roots f.last.entry.roots → All (ChangesNode f.trees.nodes) found.entry.updates) f.needed
  each_entry below k d lt = entry_changes (get_or f.needed k d).entry (known.entries k d lt) (below k d lt)
