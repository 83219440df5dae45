use Rattle.key_meaning.specs.TreeLaws.{directories_in-name, files_in-name, names_in-name}
use Rattle.key_meaning.proofs.changes.trees_take_a_name.Goals as goal

pub returns : goal.returns
returns c = record { names = names_in-name; directories = directories_in-name; files = files_in-name }
