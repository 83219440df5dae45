use Rattle.std.proofs.Common.{◌+◌, ◌-◌, ◌∙◌, sym}
use Rattle.node_store.specs.StoredSets.{first_head}
use Rattle.node_store.proofs.Joined.{head_next}
use Rattle.node_store.proofs.sets.head_behind.Goals as goal

pub loop-n-preserved : goal.loop-n-preserved
loop-n-preserved c =
    head_next c.args.copies.now c.args.id.now c.args.birth c.loop-n.n (first_head c.args.copies.now c.args.id.now c.args.birth (16 - (c.args.end + 1)) (c.args.end + 1)) c.loop-n-test.true
    (sym c.is_head_shown.ensures ∙ c.if-is_head_shown.false) c.loop-n.invariant
