use Rattle.crash_safety.proofs.ElsewhereParts.{part_elsewhere}
use Rattle.crash_safety.proofs.safety.node_parts_are_written_safely.Goals as goal

pub returns : goal.returns
returns c = part_elsewhere c.entries_are_written_safely.ensures
