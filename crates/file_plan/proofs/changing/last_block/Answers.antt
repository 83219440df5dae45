use Rattle.std.proofs.Common.{◌-◌, length, sym, arith}
use Rattle.file_plan.proofs.Fresh.{fresh_ends, some_long}
use Rattle.file_plan.proofs.changing.last_block.Goals as goal

pub returns-in-Some-clause-within : goal.returns-in-Some-clause-within
returns-in-Some-clause-within c = λ file id first are k d lt.
    let ends = (fresh_ends file id first c.args.keys.now (length c.args.keys.now - 1) c.in-Some.key.now are (some_long c.args.keys.now (length c.args.keys.now - 1) c.in-Some.key.now (sym c.in-Some.ensures.value) (omega arith)) (sym c.in-Some.ensures.value)).1 k d lt in
    let last = c.saturating_sub.ensures in
    omega (arith, ends, last)
