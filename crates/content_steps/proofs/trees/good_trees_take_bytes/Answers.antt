use Rattle.content_steps.proofs.Bytes.{bytes_taken, content_taken}
use Rattle.content_steps.proofs.trees.good_trees_take_bytes.Goals as goal

pub returns : goal.returns
returns c = record { shown = bytes_taken; content = content_taken }
