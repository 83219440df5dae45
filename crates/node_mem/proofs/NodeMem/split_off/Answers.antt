use Rattle.std.proofs.Common.{ap, ◌∙◌, arith}
use Rattle.node_mem.specs.Nodes.{Node, entries_after, entries_up_to}
use Rattle.node_mem.proofs.Split.{second_in_range, bytes_split, first_is, second_is, first_kept, second_kept}
use Rattle.node_mem.proofs.NodeMem.split_off.Goals as goal

pub total-bytes-requires : goal.total-bytes-requires
total-bytes-requires c = second_in_range (record { least = c.self.inside.least; greatest = c.self.inside.greatest; entries = c.self.inside.entries.entries }) c.self.inside.bytes 0 c.args.at.now c.follower-next.result c.split_off.new.self.entries c.in_ok-entries.entries.entries c.self.invariant c.follower-next.ensures.fits c.follower-next.ensures.next c.in_ok-entries.ensures.below c.in_ok-entries.ensures.from c.in_ok-entries.ensures.parts

pub overflow_add-second : goal.overflow_add-second
overflow_add-second c = omega (arith, bytes_split (record { least = c.self.inside.least; greatest = c.self.inside.greatest; entries = c.self.inside.entries.entries }) c.self.inside.bytes c.total-bytes.result c.args.at.now c.follower-next.result c.split_off.new.self.entries c.in_ok-entries.entries.entries c.self.invariant c.follower-next.ensures.fits c.follower-next.ensures.next c.in_ok-entries.ensures.below c.in_ok-entries.ensures.from c.in_ok-entries.ensures.parts c.total-bytes.ensures)

pub overflow_sub-self : goal.overflow_sub-self
overflow_sub-self c = omega (arith, bytes_split (record { least = c.self.inside.least; greatest = c.self.inside.greatest; entries = c.self.inside.entries.entries }) c.self.inside.bytes c.total-bytes.result c.args.at.now c.follower-next.result c.split_off.new.self.entries c.in_ok-entries.entries.entries c.self.invariant c.follower-next.ensures.fits c.follower-next.ensures.next c.in_ok-entries.ensures.below c.in_ok-entries.ensures.from c.in_ok-entries.ensures.parts c.total-bytes.ensures)

pub invariant_of-second : goal.invariant_of-second
invariant_of-second c = second_kept (record { least = c.self.inside.least; greatest = c.self.inside.greatest; entries = c.self.inside.entries.entries }) c.self.inside.bytes c.total-bytes.result c.args.at.now c.follower-next.result c.split_off.new.self.entries c.in_ok-entries.entries.entries c.self.invariant c.follower-next.ensures.fits c.follower-next.ensures.next c.in_ok-entries.ensures.below c.in_ok-entries.ensures.from c.in_ok-entries.ensures.parts c.total-bytes.ensures c.in_ok-entries.ensures.rest_ordered

pub invariant_of-self-2 : goal.invariant_of-self-2
invariant_of-self-2 c = first_kept (record { least = c.self.inside.least; greatest = c.self.inside.greatest; entries = c.self.inside.entries.entries }) c.self.inside.bytes c.total-bytes.result c.args.at.now c.follower-next.result c.split_off.new.self.entries c.in_ok-entries.entries.entries c.self.invariant c.follower-next.ensures.fits c.follower-next.ensures.next c.in_ok-entries.ensures.below c.in_ok-entries.ensures.from c.in_ok-entries.ensures.parts c.total-bytes.ensures c.in_ok-entries.ensures.ordered

pub returns-clause-stays : goal.returns-clause-stays
returns-clause-stays c = λ i. record {
  least = (ap (λ (n : Node). n.least) c.self.view_is) i;
  greatest = c.args.at.now;
  entries = (first_is (record { least = c.self.inside.least; greatest = c.self.inside.greatest; entries = c.self.inside.entries.entries }) c.self.inside.bytes c.total-bytes.result c.args.at.now c.follower-next.result c.split_off.new.self.entries c.in_ok-entries.entries.entries c.self.invariant c.follower-next.ensures.fits c.follower-next.ensures.next c.in_ok-entries.ensures.below c.in_ok-entries.ensures.from c.in_ok-entries.ensures.parts ∙ ap (λ (n : Node). entries_up_to c.args.at.now n.entries) c.self.view_is) i;
}

pub returns-clause-goes : goal.returns-clause-goes
returns-clause-goes c = second_is (record { least = c.self.inside.least; greatest = c.self.inside.greatest; entries = c.self.inside.entries.entries }) c.self.inside.bytes c.total-bytes.result c.args.at.now c.follower-next.result c.split_off.new.self.entries c.in_ok-entries.entries.entries c.self.invariant c.follower-next.ensures.fits c.follower-next.ensures.next c.in_ok-entries.ensures.below c.in_ok-entries.ensures.from c.in_ok-entries.ensures.parts ∙ ap (λ (n : Node). entries_after c.args.at.now n.entries) c.self.view_is
