use Rattle.script_text.proofs.TextCuts.{cut_here, cut_nowhere}
use Rattle.script_text.proofs.cuts.cut_at.Goals as goal

pub returns-then-found-byte : goal.returns-then-found-byte
returns-then-found-byte c = cut_here c.args.byte c.args.text.now c.loop-at.at c.loop-at-test.true c.if-found-byte.true c.loop-at.invariant

pub returns : goal.returns
returns c = cut_nowhere c.args.byte c.args.text.now c.loop-at.at c.loop-at-test.false c.loop-at.invariant
