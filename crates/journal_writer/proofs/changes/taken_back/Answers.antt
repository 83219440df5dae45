use Rattle.std.proofs.Common.{◌∙◌, length, refl}
use Rattle.journal_writer.proofs.Taking.{back_more}
use Rattle.journal_writer.proofs.changes.taken_back.Goals as goal

pub loop-done-preserved : goal.loop-done-preserved
loop-done-preserved c = record {
  least = c.in_ok-node.ensures.least ∙ c.loop-done.invariant.least;
  greatest = c.in_ok-node.ensures.greatest ∙ c.loop-done.invariant.greatest;
  part = λ keys is part.
      back_more c.args.updates.now c.args.before.now keys c.args.btree c.loop-done.node c.in_ok-node.node (length c.args.updates.now) c.last_left-at.result c.loop-done.done c.index-updates-at.result c.index-before-at.result is refl
      c.loop-done-test.true c.last_left-at.ensures c.requires.pairs c.index-updates-at.is c.index-before-at.is (c.loop-done.invariant.part keys is part) c.in_ok-node.ensures.keys;
}
