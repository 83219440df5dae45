use Rattle.std.proofs.Common.{◌+◌, ◌<◌, ◌∙◌, [], length, get_or, ap, sym, arith}
use Rattle.vol_info.proofs.UsedBuckets.{no_more, one_more}
use Rattle.vol_info.proofs.space.used_on.Goals as goal
use Rattle.vol_info.proofs.space.used_on.Goals.{then-is_used, else-is_used}

pub loop-at-preserved : goal.loop-at-preserved
loop-at-preserved c =
    let there : c.loop-at.at < length (get_or c.args.pool.now c.args.dev []) = omega (arith, c.requires.all, c.loop-at-test.true) in
    elim c.if-is_used.branch [
      | then-is_used w ↦ (
        w.used-is ∙ ap (λ n. n + 1) c.loop-at.invariant.0 ∙ sym (one_more c.args.pool.now c.args.dev c.loop-at.at c.requires.there there c.is_used.result c.is_used.ensures w.if-is_used.true),
        omega (arith, w.used-is, c.loop-at.invariant.1),
      )
      | else-is_used w ↦ (
        w.used-is ∙ c.loop-at.invariant.0 ∙ sym (no_more c.args.pool.now c.args.dev c.loop-at.at c.requires.there there c.is_used.result c.is_used.ensures w.if-is_used.false),
        omega (arith, w.used-is, c.loop-at.invariant.1),
      )
    ]
