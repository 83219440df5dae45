use Rattle.std.proofs.Common.{◌≡◌, ◌∷◌, [], ◌++◌, ap, ◌∙◌, rules}
use Rattle.std.proofs.lemmas.List.{replicate_more}
use Rattle.dev_model.specs.Disk.{zeros}
use Rattle.dev_model.proofs.disk.add_zero_blocks.Goals as goal

pub loop-i-preserved : goal.loop-i-preserved
loop-i-preserved c =
    let pushed : c.push.new.self.items ≡ c.loop-i.blocks.items ++ c.in_ok-block.block ∷ [] = search rules in
    pushed ∙ ap (λ block. c.loop-i.blocks.items ++ block ∷ []) c.in_ok-block.ensures ∙ ap (λ blocks. blocks ++ zeros ∷ []) c.loop-i.invariant ∙ replicate_more c.loop-i.i zeros
