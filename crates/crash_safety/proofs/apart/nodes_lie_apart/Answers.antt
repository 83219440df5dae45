use Rattle.crash_safety.proofs.OtherBuckets.{bucket_outside, copies_off, entry_off, nodes_off}
use Rattle.crash_safety.proofs.apart.nodes_lie_apart.Goals as goal

pub returns : goal.returns
returns c = record { outside = bucket_outside; nodes = nodes_off; node_parts = copies_off; entry_parts = entry_off }
