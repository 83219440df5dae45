use Rattle.std.proofs.Common.{ℕ, Option, subst, sym}
use Rattle.content_steps.proofs.Planned.{hidden_alike, placed_alike, taken_alike}
use Rattle.extent_ops.specs.Content.{TakesBlocks, hidden_if, is_covered_above}
use Rattle.key_meaning.specs.Blocks.{Block}
use Rattle.vol_types.specs.KeyMaps.{with_updates}
use Rattle.content_steps.proofs.steps.blocks_are_planned_once.Goals as goal

pub returns : goal.returns
returns c = record {
  put = λ keys middle updates id file cut given is_map extents snaps own takes. taken_alike keys middle updates id is_map extents snaps own file cut given takes;
  cut = λ keys middle updates id file is_cut is_map extents snaps own takes.
      subst (λ (given : ℕ → Option (Option Block)). TakesBlocks middle (with_updates updates middle) file id is_cut given)
      (λ i block. hidden_if (sym (hidden_alike keys middle updates id is_map extents snaps own file block) i))
      (taken_alike keys middle updates id is_map extents snaps own file is_cut (λ block. hidden_if (is_covered_above keys id file block)) takes);
  placed = placed_alike;
}
