use Rattle.journal_writer.proofs.Joining.{commits-joined, last_block-joined, mirrors-joined, oldest-joined, queue-joined}
use Rattle.journal_writer.proofs.laws.commits_leave_queues.Goals as goal

pub returns : goal.returns
returns c = record { sound = queue-joined; mirrors = mirrors-joined; commits = commits-joined; oldest = oldest-joined; last = last_block-joined }
