use Rattle.std.proofs.Common.{◌+◌, drop, get_or, arith}
use Rattle.std.proofs.lemmas.List.{drop_more}
use Rattle.tree_keys.proofs.Copying.{part_few, part_in_range}
use Rattle.tree_keys.proofs.Made.{counting_more, part_fits}
use Rattle.vol_types.specs.Positions.{least_pos}
use Rattle.tree_keys.proofs.making.count_leaves.Goals as goal

pub total-bytes-requires-clause-few : goal.total-bytes-requires-clause-few
total-bytes-requires-clause-few c = omega (arith, c.len-count.ensures.small, c.len-count.ensures.len, part_few c.start_of.result (get_or c.args.ends.now c.loop-end.end-index least_pos) c.args.keys.now.entries c.within.result c.within.ensures)

pub total-bytes-requires-clause-in_range : goal.total-bytes-requires-clause-in_range
total-bytes-requires-clause-in_range c = part_in_range c.start_of.result (get_or c.args.ends.now c.loop-end.end-index least_pos) c.args.keys.now.entries c.within.result c.within.ensures c.requires.in_range

pub overflow_add-bytes : goal.overflow_add-bytes
overflow_add-bytes c = omega (
  arith,
  part_fits (record { entries = c.args.keys.now.entries; ends = c.args.ends.now }) c.requires c.loop-end.leaves.entries (drop c.loop-end.end-index c.args.ends.now) (drop (c.loop-end.end-index + 1) c.args.ends.now) c.loop-end.invariant
      (get_or c.args.ends.now c.loop-end.end-index least_pos) (drop_more c.args.ends.now c.loop-end.end-index least_pos c.loop-end-test.true) c.start_of.result c.start_of.ensures c.within.result c.within.ensures c.total-bytes.result c.total-bytes.ensures (omega (arith, c.len-count.ensures.small, c.len-count.ensures.len)),
)

pub loop-end-preserved : goal.loop-end-preserved
loop-end-preserved c =
    counting_more (record { entries = c.args.keys.now.entries; ends = c.args.ends.now }) c.requires c.loop-end.leaves.entries (drop c.loop-end.end-index c.args.ends.now) (drop (c.loop-end.end-index + 1) c.args.ends.now) c.loop-end.invariant
    (get_or c.args.ends.now c.loop-end.end-index least_pos) (drop_more c.args.ends.now c.loop-end.end-index least_pos c.loop-end-test.true) c.start_of.result c.start_of.ensures c.within.result c.within.ensures c.total-bytes.result c.total-bytes.ensures
    c.insert.new.self.entries c.in_ok-insert.ensures.entries
