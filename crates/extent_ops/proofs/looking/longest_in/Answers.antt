use Rattle.std.proofs.Common.{arith}
use Rattle.extent_ops.proofs.Longest.{all_values, next_value, up_to_after}
use Rattle.extent_ops.proofs.looking.longest_in.Goals as goal

pub loop-update-preserved : goal.loop-update-preserved
loop-update-preserved c = next_value c.args.so_far c.loop-update.longest c.longest_after-longest.result c.args.updates.now c.update-item.result c.loop-update.update-index
    c.loop-update-test.true c.update-item.is c.longest_after-longest.ensures c.loop-update.invariant

pub returns : goal.returns
returns c =
    let whole = all_values c.args.so_far c.loop-update.longest c.args.updates.now c.loop-update.update-index (let past = c.loop-update-test.false in omega (arith, past)) c.loop-update.invariant in
    record { is = whole; after = λ keys up_to. up_to_after c.args.so_far c.loop-update.longest c.args.updates.now keys whole up_to }
