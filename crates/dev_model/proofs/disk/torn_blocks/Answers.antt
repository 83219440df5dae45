use Rattle.std.proofs.Common.{◌∙◌, arith, rules}
use Rattle.std.proofs.lemmas.List.{take_all}
use Rattle.dev_model.proofs.LeftBlocks.{all_torn, length-torn, torn_more}
use Rattle.dev_model.proofs.disk.torn_blocks.Goals as goal

pub loop-i-preserved : goal.loop-i-preserved
loop-i-preserved c =
    torn_more c.args.first.now c.args.second.now c.loop-i.i c.loop-i.halves.items _ c.index-first-i.result c.index-second-i.result c.requires.count (omega arith) c.index-first-i.is c.index-second-i.is c.loop-i.invariant (search rules)

pub returns : goal.returns
returns c = c.loop-i.invariant ∙ take_all c.loop-i.i (all_torn c.args.first.now c.args.second.now) (omega (arith, length-torn c.args.first.now c.args.second.now c.requires.count))
