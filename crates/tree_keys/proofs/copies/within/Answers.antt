use Rattle.std.proofs.Common.{◌∙◌, rules}
use Rattle.node_mem.specs.RangeLaws.{crossed-range, within-range}
use Rattle.tree_keys.proofs.copies.within.Goals as goal

pub returns-then-gt : goal.returns-then-gt
returns-then-gt c = c.range.ensures.between tt ∙ crossed-range c.args.first.now c.args.last.now c.args.keys.now.entries (search rules)

pub returns : goal.returns
returns c = c.range-2.ensures.between tt ∙ within-range c.args.first.now c.args.last.now c.args.keys.now.entries
