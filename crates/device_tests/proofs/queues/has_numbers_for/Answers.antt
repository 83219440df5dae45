-- Whether the numbers are left is what the queue says of the size.
use Rattle.device_tests.proofs.queues.has_numbers_for.Goals as goal

pub returns : goal.returns
returns c = c.has_numbers.ensures c.args.updates.now c.size_of-size.ensures
