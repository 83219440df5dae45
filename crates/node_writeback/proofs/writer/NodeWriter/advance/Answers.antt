use Rattle.std.proofs.Common.{subst, sym, Option, ◌∙◌}
use Rattle.node_writeback.specs.NodeWork.{IsWork}
use Rattle.node_writeback.specs.declared.node.UnfinishedNode.{UnfinishedNode}
use Rattle.node_writeback.proofs.writer.NodeWriter.advance.Goals as goal

pub invariant_of-self : goal.invariant_of-self
invariant_of-self c =
    c.advanced.ensures.kept c.self.inside.born
    (subst (λ (u : Option UnfinishedNode). IsWork (record { finished = c.self.inside.finished.items; unfinished = u; born = c.self.inside.born })) (sym c.take.ensures.value ∙ c.in-Some.is) c.self.invariant.is_work)
