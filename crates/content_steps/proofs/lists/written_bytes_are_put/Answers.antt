use Rattle.content_steps.proofs.Written.{cut_same, resized_same, written_same}
use Rattle.content_steps.proofs.lists.written_bytes_are_put.Goals as goal

pub returns : goal.returns
returns c = record { written = written_same; resized = resized_same; cut = cut_same }
