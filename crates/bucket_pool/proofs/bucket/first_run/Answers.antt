use Rattle.std.proofs.Common.{◌≡◌, drop, false, true, sym, ap, ◌∙◌, arith}
use Rattle.bucket_pool.specs.Buckets.{begins_empty}
use Rattle.bucket_pool.proofs.Runs.{run_goes_on, run_is_here}
use Rattle.bucket_pool.proofs.bucket.first_run.Goals as goal

pub returns-then-begins_empty-clause-value : goal.returns-then-begins_empty-clause-value
returns-then-begins_empty-clause-value c =
    let at = c.loop-at.at in
    let slots = c.args.slots.now in
    let yes : begins_empty c.args.count (drop at slots) ≡ true = ap (begins_empty c.args.count) (sym c.split_at.ensures.back) ∙ sym c.begins_empty.ensures.value ∙ c.if-begins_empty.true in
    sym (run_is_here at c.args.count slots (omega arith) yes) ∙ c.loop-at.invariant

pub loop-at-preserved : goal.loop-at-preserved
loop-at-preserved c =
    let at = c.loop-at.at in
    let slots = c.args.slots.now in
    let no : begins_empty c.args.count (drop at slots) ≡ false = ap (begins_empty c.args.count) (sym c.split_at.ensures.back) ∙ sym c.begins_empty.ensures.value ∙ c.if-begins_empty.false in
    sym (run_goes_on at c.args.count slots (omega arith) no) ∙ c.loop-at.invariant
