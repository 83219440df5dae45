use Rattle.std.proofs.Common.{⊎_elim, inl, inr}
use Rattle.image_view.specs.Bases.{AgreeAt}
use Rattle.mirror_laws.specs.Degraded.{IsWipedAt}
use Rattle.mirror_laws.proofs.LostBlocks.{wiped_lost}
use Rattle.mirror_laws.proofs.nodes.wiped_blocks_are_lost.Goals as goal

pub returns : goal.returns
returns c layout mirror one other lengths each = record {
  lengths = lengths;
  each = λ dev block. ⊎_elim
      (λ (same : AgreeAt one other dev block). inl same)
      (λ (wiped : IsWipedAt layout mirror one other dev block). inr (wiped_lost layout mirror one other dev block wiped))
      (each dev block);
}
