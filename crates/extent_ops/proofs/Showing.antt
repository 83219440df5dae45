-- What an id shows after it took blocks over.
use Rattle.std.proofs.Common.{◌≡◌, ℕ, Bool, true, false, cond, Option, Some, None, List, [], ◌∷◌, refl, sym, ap, ◌∙◌, subst, arith}
use Rattle.std.specs.Prelude.{◌&&◌, ◌==◌, IsSome, nat_eq, option_and_then, option_map}
use Rattle.std.specs.List.{list_any}
use Rattle.std.specs.Option.{option_or}
use Rattle.std.specs.Ordering.{nat_cmp}
use Rattle.std.proofs.lemmas.Bool.{eq-eqb, true≢false}
use Rattle.std.proofs.lemmas.Bool.Decides.{nat_tests}
use Rattle.snap_tree.specs.Snaps.{IsSnapTree, chain_of_maybe, parent_of}
use Rattle.vol_types.specs.KeyMaps.{KeyMap}
use Rattle.vol_types.specs.Maps.{value_at}
use Rattle.vol_types.specs.declared.positions.Pos.{Pos}
use Rattle.vol_types.specs.declared.values.Value.{Value}
use Rattle.vol_types.specs.declared.values.Value.TheVariants as values
use Rattle.key_meaning.specs.Blocks.{Block, block_in, first_cover, own_cover, shown_of}
use Rattle.key_meaning.specs.CoverLaws.{cover_in-step}
use Rattle.key_meaning.specs.Visible.{snaps_of}
use Rattle.key_meaning.specs.VisibleLaws.{neither, not_above_itself}
use Rattle.extent_ops.specs.Content.{TakesBlocks, block_above, hidden_if, is_covered_above, is_extent, is_extent_over, own_block, shown_over}
use Rattle.extent_ops.proofs.Chosen.{first_cover-is, first_in-has, is_any}
use Rattle.extent_ops.proofs.Hiding.{has-any}

-- What shows is what the id itself has, or what shows above it.
over-step : (block : ℕ) (own above : Option (Pos × Value)) → option_and_then (shown_of block) (option_or own above) ≡ shown_over (option_map (shown_of block) own) (option_and_then (shown_of block) above)
over-step block None above = refl
over-step block (Some own) above = refl

pub block_in-step : (keys : KeyMap) (id file block : ℕ) → IsSnapTree (snaps_of keys) → IsSome (value_at nat_cmp id (snaps_of keys)) → block_in keys id file block ≡ shown_over (own_block keys file block id) (block_above keys id file block)
block_in-step keys id file block tree there =
    ap (option_and_then (shown_of block)) (cover_in-step keys id file block tree there)
    ∙ over-step block (own_cover keys file block id) (first_cover keys file block (chain_of_maybe (snaps_of keys) (parent_of (snaps_of keys) id)))

module _ (old new : KeyMap) (file id : ℕ) (cut : ℕ → Bool) (given : ℕ → Option (Option Block)) (takes : TakesBlocks old new file id cut given) (tree : IsSnapTree (snaps_of old)) (there : IsSome (value_at nat_cmp id (snaps_of old))) where
  -- other ids belong to what they belonged to
  first_cover-same : (block : ℕ) (ids : List ℕ) → list_any (nat_eq id) ids ≡ false → first_cover new file block ids ≡ first_cover old file block ids
  first_cover-same block [] none = refl
  first_cover-same block (a ∷ ids) none =
      let parts = neither (id == a) (list_any (nat_eq id) ids) none in
      λ i. option_or (takes.others file block a (ap (λ b. file == file && b) (turned id a ∙ parts.0) ∙ and_false (file == file)) i) (first_cover-same block ids parts.1 i)
    where
      turned : (a b : ℕ) → (b == a) ≡ (a == b)
      turned a b = grind (arith, nat_tests)

      and_false : (b : Bool) → (b && false) ≡ false
      and_false true = refl
      and_false false = refl

  above_same : (block : ℕ) → block_above new id file block ≡ block_above old id file block
  above_same block =
      ap (λ snaps. option_and_then (shown_of block) (first_cover new file block (chain_of_maybe snaps (parent_of snaps id)))) takes.only.snaps
      ∙ ap (option_and_then (shown_of block)) (first_cover-same block (chain_of_maybe (snaps_of old) (parent_of (snaps_of old) id)) (not_above_itself (snaps_of old) id tree there))

  shown_now : (block : ℕ) → block_in new id file block ≡ shown_over (cond (cut block) (given block) (own_block old file block id)) (block_above old id file block)
  shown_now block =
      block_in-step new id file block (tree_now (sym takes.only.snaps)) (there_now (sym takes.only.snaps))
      ∙ (λ i. shown_over (takes.here block i) (above_same block i))
    where
      tree_now : snaps_of old ≡ snaps_of new → IsSnapTree (snaps_of new)
      tree_now same = subst IsSnapTree same tree

      there_now : snaps_of old ≡ snaps_of new → IsSome (value_at nat_cmp id (snaps_of new))
      there_now same = subst (λ snaps. IsSome (value_at nat_cmp id snaps)) same there

  pub taken_shows : (block : ℕ) → cut block ≡ true → block_in new id file block ≡ shown_over (given block) (block_above old id file block)
  taken_shows block is = shown_now block ∙ ap (λ b. shown_over (cond b (given block) (own_block old file block id)) (block_above old id file block)) is

  pub others_stay : (block : ℕ) → cut block ≡ false → block_in new id file block ≡ block_in old id file block
  others_stay block is = shown_now block ∙ ap (λ b. shown_over (cond b (given block) (own_block old file block id)) (block_above old id file block)) is ∙ sym (block_in-step old id file block tree there)

three : (a b c : Bool) → (a && b && c) ≡ true → (a ≡ true) × (b ≡ true) × (c ≡ true)
three true true c are = (refl, refl, are)
three true false c are = absurd (true≢false (sym are))
three false b c are = absurd (true≢false (sym are))

-- Where no ancestor has an extent, none shows a block.
nothing_above : (keys : KeyMap) (file block : ℕ) (ids : List ℕ) → list_any (is_extent_over file ids block) keys.extents ≡ false → option_and_then (shown_of block) (first_cover keys file block ids) ≡ None
nothing_above keys file block ids none = by (first_cover keys file block ids) refl
  where
    not_extent : (pos : Pos) (value : Value) → is_extent value ≡ false → shown_of block (pos, value) ≡ None
    not_extent pos (values.Extent e) is = absurd (true≢false is)
    not_extent pos (values.Hole x) is = refl
    not_extent pos (values.Inode x) is = refl
    not_extent pos (values.Names x) is = refl
    not_extent pos values.White is = refl
    not_extent pos (values.Subs x) is = refl
    not_extent pos (values.Snap x) is = refl
    not_extent pos (values.Live x) is = refl
    not_extent pos (values.Back x) is = refl
    not_extent pos values.Gone is = refl
    not_extent pos (values.Counter x) is = refl
    not_extent pos (values.Node x) is = refl

    extent_or_not : (x : Pos × Value) → first_cover keys file block ids ≡ Some x → (b : Bool) → is_extent x.1 ≡ b → is_extent x.1 ≡ false
    extent_or_not x found false is = is
    extent_or_not x found true is =
        let has = first_in-has file block keys.extents ids x (sym (first_cover-is keys file block ids) ∙ found) in
        absurd (true≢false (sym (has-any (is_extent_over file ids block) x keys.extents has.0 (λ i. eq-eqb x.0.inode file has.3 i && is_any x.0.snapshot ids has.2 i && has.1 i && is i)) ∙ none))

    by : (o : Option (Pos × Value)) → first_cover keys file block ids ≡ o → option_and_then (shown_of block) (first_cover keys file block ids) ≡ None
    by None found = ap (option_and_then (shown_of block)) found
    by (Some x) found = ap (option_and_then (shown_of block)) found ∙ not_extent x.0 x.1 (extent_or_not x found (is_extent x.1) refl)

-- Hidden blocks don't show.
pub hidden_shows : (old new : KeyMap) (file id : ℕ) (cut : ℕ → Bool) → TakesBlocks old new file id cut (λ block. hidden_if (is_covered_above old id file block)) → IsSnapTree (snaps_of old) → IsSome (value_at nat_cmp id (snaps_of old))
    → (block : ℕ) → cut block ≡ true → block_in new id file block ≡ None
hidden_shows old new file id cut takes tree there block is =
    taken_shows old new file id cut (λ b. hidden_if (is_covered_above old id file b)) takes tree there block is ∙ by (is_covered_above old id file block) refl
  where
    by : (b : Bool) → is_covered_above old id file block ≡ b → shown_over (hidden_if (is_covered_above old id file block)) (block_above old id file block) ≡ None
    by true covered = ap (λ b. shown_over (hidden_if b) (block_above old id file block)) covered
    by false none = ap (λ b. shown_over (hidden_if b) (block_above old id file block)) none ∙ nothing_above old file block (chain_of_maybe (snaps_of old) (parent_of (snaps_of old) id)) none
