use Rattle.std.proofs.Common.{◌≡◌, ℕ, Bool, true, false, Option, Some, None, refl, ap, ⊎_elim}
use Rattle.std.specs.Prelude.{is_some, unwrap_or}
use Rattle.content_steps.proofs.Blocks.{blocks_are_step, noted_is_drawn}
use Rattle.extent_ops.specs.Content.{block_above, hidden_if, is_covered_above, shown_over}
use Rattle.key_meaning.specs.Blocks.{Block, block_in}
use Rattle.key_meaning.specs.SoundLaws.{joined_are_trees}
use Rattle.vol_types.specs.KeyMaps.{with_updates}
use Rattle.vol_types.specs.declared.values.FileKind.TheVariants.{File}
use Rattle.content_steps.proofs.steps.blocks_are_steps.Goals as goal

pub returns : goal.returns
returns c = record {
  put = λ keys nodes layout id file updates given kept leaf may takes.
      let there = ap is_some leaf.found in
      let tree = joined_are_trees keys kept.trees in
      blocks_are_step keys nodes layout id file updates (λ block. is_some (given block)) given kept leaf may takes given
      (c.taken_blocks_keep_keys.ensures.apart keys updates file id may.first may.last may.longest (λ block. is_some (given block)) given kept.is_map takes may.own may.near kept.extents there)
      (c.taken_blocks_keep_keys.ensures.drawn keys updates file id may.first may.last may.longest (λ block. is_some (given block)) given kept.is_map takes may.own may.near kept.drawn
      (⊎_elim (c.shown_numbers_are_drawn.ensures.drawn keys nodes layout id file File kept) (noted_is_drawn keys id file kept.drawn) may.owner) (c.shown_numbers_are_drawn.ensures.small keys nodes layout id kept leaf) may.fits)
      (λ block. put_block (given block) (block_in (with_updates updates keys) id file block) (block_above keys id file block) (block_in keys id file block)
      (c.taken_blocks_show.ensures.taken keys (with_updates updates keys) file id (λ b. is_some (given b)) given takes tree there block)
      (c.taken_blocks_show.ensures.stays keys (with_updates updates keys) file id (λ b. is_some (given b)) given takes tree there block));
  cut = λ keys nodes layout id file updates is_cut kept leaf may takes.
      let there = ap is_some leaf.found in
      let tree = joined_are_trees keys kept.trees in
      let hidden : ℕ → Option (Option Block) = λ block. hidden_if (is_covered_above keys id file block) in
      blocks_are_step keys nodes layout id file updates is_cut hidden kept leaf may takes (λ block. hidden_if (is_cut block))
      (c.taken_blocks_keep_keys.ensures.apart keys updates file id may.first may.last may.longest is_cut hidden kept.is_map takes may.own may.near kept.extents there)
      (c.taken_blocks_keep_keys.ensures.drawn keys updates file id may.first may.last may.longest is_cut hidden kept.is_map takes may.own may.near kept.drawn
      (⊎_elim (c.shown_numbers_are_drawn.ensures.drawn keys nodes layout id file File kept) (noted_is_drawn keys id file kept.drawn) may.owner) (c.shown_numbers_are_drawn.ensures.small keys nodes layout id kept leaf) may.fits)
      (λ block. cut_block (is_cut block) (block_in (with_updates updates keys) id file block) (block_in keys id file block)
      (c.taken_blocks_show.ensures.hidden keys (with_updates updates keys) file id is_cut takes tree there block)
      (c.taken_blocks_show.ensures.stays keys (with_updates updates keys) file id is_cut hidden takes tree there block));
}
  where
    put_block : (given : Option (Option Block)) (shows above was : Option Block) → (is_some given ≡ true → shows ≡ shown_over given above) → (is_some given ≡ false → shows ≡ was) → shows ≡ unwrap_or given was
    put_block None shows above was taken stays = stays refl
    put_block (Some own) shows above was taken stays = taken refl

    cut_block : (is_cut : Bool) (shows was : Option Block) → (is_cut ≡ true → shows ≡ None) → (is_cut ≡ false → shows ≡ was) → shows ≡ unwrap_or (hidden_if is_cut) was
    cut_block true shows was hidden stays = hidden refl
    cut_block false shows was hidden stays = stays refl
