use Rattle.std.proofs.Common.{◌∙◌, rules}
use Rattle.node_mem.specs.RangeLaws.{within-range, crossed-range}
use Rattle.node_mem.proofs.NodeMem.range.Goals as goal

pub returns-then-gt : goal.returns-then-gt
returns-then-gt c =
    rw (← c.self.view_is)
    (c.range.ensures.between tt ∙ crossed-range c.args.first.now c.args.last.now c.self.inside.entries.entries (search rules))

pub returns : goal.returns
returns c =
    rw (← c.self.view_is)
    (c.range-2.ensures.between tt ∙ within-range c.args.first.now c.args.last.now c.self.inside.entries.entries)
