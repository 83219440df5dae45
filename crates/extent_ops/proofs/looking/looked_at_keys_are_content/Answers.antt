use Rattle.extent_ops.proofs.Promising.{looked_content, looked_of_file, looked_up_to}
use Rattle.extent_ops.proofs.looking.looked_at_keys_are_content.Goals as goal

pub returns : goal.returns
returns c = record {
  of_file = looked_of_file;
  content = looked_content;
  up_to = looked_up_to;
}
