-- Blocks of a file that are put into a live leaf, or cut: what shows then, and what stays.
use Rattle.std.proofs.Common.{◌≡◌, ℕ, Bool, true, false, cond, Option, Some, None, List, refl, sym, ap, ◌∙◌, subst}
use Rattle.std.specs.Prelude.{◌==◌, All, IsSome, is_some, unwrap_or}
use Rattle.std.specs.List.{slice_index_or}
use Rattle.std.proofs.lemmas.Bool.{eq-eqb, eqb-true, false≢true, true≢false}
use Rattle.content_steps.proofs.Same.{SameButContent, all_after, below_stays, counts_stay, drawn_stays, entry_has, gone_stay, ids_match, inodes_stay, links_stay, names_stay, owned_stays}
use Rattle.content_steps.specs.Shown.{with_blocks}
use Rattle.content_steps.specs.Steps.{MayTakeBlocks, StepsButSpace}
use Rattle.extent_ops.specs.Content.{TakesBlocks}
use Rattle.key_meaning.specs.Blocks.{Block, block_in}
use Rattle.key_meaning.specs.Checks.{AreExtentsApart, IsLiveLeaf}
use Rattle.key_meaning.specs.CoverLaws.{pos_of}
use Rattle.key_meaning.specs.Forest.{counter_in, inode_in}
use Rattle.key_meaning.specs.SameLaws.{trees_stay_joined}
use Rattle.key_meaning.specs.SoundLaws.{leaf_is_alone}
use Rattle.key_meaning.specs.Tidy.{AreKeysDrawn, HasOwner, IsDrawn, IsNoted}
use Rattle.key_meaning.specs.Visible.{snaps_of}
use Rattle.key_steps.specs.Kept.{IsKept}
use Rattle.key_steps.specs.Shown.{shown_in}
use Rattle.snap_tree.specs.Snaps.{is_ancestor_of}
use Rattle.vol_types.specs.KeyMapLaws.{IsKeyMap-with_updates}
use Rattle.vol_types.specs.KeyMaps.{KeyMap, value_in, with_updates}
use Rattle.vol_types.specs.declared.keys.Update.{Update}
use Rattle.vol_types.specs.declared.layout.Layout.{Layout}
use Rattle.vol_types.specs.declared.pointers.Place.{Place}
use Rattle.vol_types.specs.declared.positions.Btree.TheVariants.{Counters, Deleted, Dirents, Extents, Inodes, Snapshots, Subvols}
use Rattle.vol_types.specs.declared.positions.Pos.{Pos}
use Rattle.vol_types.specs.declared.values.Value.{Value}
use Rattle.vol_types.specs.declared.values.Value.TheVariants as values

-- A number that is noted is drawn.
pub noted_is_drawn : (keys : KeyMap) (id number : ℕ) → AreKeysDrawn keys → IsNoted keys id number → IsDrawn keys number
noted_is_drawn keys id number drawn noted = by (value_in keys Deleted (record { inode = 0; offset = number; snapshot = id })) refl
  where
    by : (value : Option Value) → value_in keys Deleted (record { inode = 0; offset = number; snapshot = id }) ≡ value → IsDrawn keys number
    by None none = absurd (false≢true (sym (ap is_some none) ∙ noted))
    by (Some value) there = entry_has (λ (entry : Pos × Value). IsDrawn keys entry.0.offset) (record { inode = 0; offset = number; snapshot = id }) value keys.deleted there (λ k d lt. (drawn.each Deleted k d lt).numbers)

module _ (keys : KeyMap) (nodes : List Place) (layout : Layout) (id file : ℕ) (updates : List Update) (cut : ℕ → Bool) (given : ℕ → Option (Option Block))
    (kept : IsKept keys nodes layout) (leaf : IsLiveLeaf keys id) (may : MayTakeBlocks keys nodes layout id file updates) (takes : TakesBlocks keys (with_updates updates keys) file id cut given) where
  abbrev new : KeyMap
  new = with_updates updates keys

  same : SameButContent keys new
  same = record {
    inodes = takes.btrees Inodes (λ (is : Inodes ≡ Extents). cc);
    dirents = takes.btrees Dirents (λ (is : Dirents ≡ Extents). cc);
    subvols = takes.btrees Subvols (λ (is : Subvols ≡ Extents). cc);
    snapshots = takes.btrees Snapshots (λ (is : Snapshots ≡ Extents). cc);
    deleted = takes.btrees Deleted (λ (is : Deleted ≡ Extents). cc);
    counters = takes.btrees Counters (λ (is : Counters ≡ Extents). cc);
  }

  -- what holds of the positions of all extents, and of those of the file in the id, holds of the positions of all extents then
  carry : (Q : Pos → Type 0) → ((offset : ℕ) → Q (pos_of file offset id)) → All (λ (entry : Pos × Value). Q entry.0) keys.extents → All (λ (entry : Pos × Value). Q entry.0) new.extents
  carry Q here all = all_after (λ (entry : Pos × Value). Q entry.0) Extents updates keys
      (λ k d lt of put at. subst Q (λ i. record { inode = sym (may.near k d lt).of_file i; offset = (slice_index_or updates k d).pos.offset; snapshot = sym (may.own.each k d lt).2 i }) (here (slice_index_or updates k d).pos.offset)) all

  -- no id has the leaf in its chain and an inode below it alone
  not_below : (other descendant number : ℕ) → is_ancestor_of (snaps_of keys) other descendant ≡ true → inode_in keys other number ≡ None → IsSome (inode_in keys descendant number) → is_ancestor_of (snaps_of keys) id other ≡ false
  not_below other descendant number ancestor none some = by (is_ancestor_of (snaps_of keys) id other) refl
    where
      by : (b : Bool) → is_ancestor_of (snaps_of keys) id other ≡ b → b ≡ false
      by true at =
          let alone : other ≡ id = leaf_is_alone keys id other kept.trees leaf at in
          let same : descendant ≡ id = leaf_is_alone keys id descendant kept.trees leaf (ap (λ n. is_ancestor_of (snaps_of keys) n descendant) (sym alone) ∙ ancestor) in
          absurd (true≢false (sym some ∙ ap is_some ((λ i. inode_in keys ((same ∙ sym alone) i) number) ∙ none)))
      by false at = refl

  -- All stays kept, where extents are apart and keys are drawn.
  pub kept_then : AreExtentsApart new → AreKeysDrawn new → IsKept new nodes layout
  kept_then apart drawn = record {
    is_map = IsKeyMap-with_updates updates keys kept.is_map;
    trees = trees_stay_joined keys new takes.only.snaps kept.trees;
    ids = ids_match keys new same kept.ids;
    extents = apart;
    blocks = may.placed;
    drawn = drawn;
    named = names_stay keys new same kept.named;
    below = below_stays keys new same (λ other descendant number ancestor none some was. carry (λ (pos : Pos). pos.inode ≡ number → is_ancestor_of (snaps_of keys) pos.snapshot other ≡ false) (λ offset is. not_below other descendant number ancestor none some) was) kept.below;
    gone = gone_stay keys new same kept.gone;
    owned = owned_stays keys new same (λ was. carry (λ (pos : Pos). HasOwner keys (pos, values.White)) (λ offset. may.owner) was) kept.owned;
  }

  -- A block shows what is given to it in the end, where the file's blocks do.
  blocks_shown : (after : ℕ → Option (Option Block)) → ((block : ℕ) → block_in new id file block ≡ unwrap_or (after block) (block_in keys id file block))
      → (other block : ℕ) → block_in new id other block ≡ cond (file == other) (unwrap_or (after block) (block_in keys id other block)) (block_in keys id other block)
  blocks_shown after here other block = by (file == other) refl
    where
      by : (b : Bool) → (file == other) ≡ b → block_in new id other block ≡ cond b (unwrap_or (after block) (block_in keys id other block)) (block_in keys id other block)
      by true is = subst (λ n. block_in new id n block ≡ unwrap_or (after block) (block_in keys id n block)) (eqb-true file other is) (here block)
      by false is = (takes.files id).blocks other block (λ (at : other ≡ file). true≢false (sym (eq-eqb file other (sym at)) ∙ is))

  -- So it is a step but for the keys on space.
  pub blocks_are_step : (after : ℕ → Option (Option Block)) → AreExtentsApart new → AreKeysDrawn new → ((block : ℕ) → block_in new id file block ≡ unwrap_or (after block) (block_in keys id file block))
      → StepsButSpace keys new nodes layout id (with_blocks file after (shown_in keys id)) (counter_in keys)
  blocks_are_step after apart drawn here = record {
    kept = kept_then apart drawn;
    only = takes.only;
    shows = λ i. record { inodes = λ number. inodes_stay keys new same id number i; links = λ directory slot. links_stay keys new same id directory slot i; blocks = λ other block. blocks_shown after here other block i };
    counts = λ i counter. counts_stay keys new same counter i;
    drawn = drawn_stays keys new same;
  }
