use Rattle.key_meaning.specs.AlikeLaws.{alike_from_visible, tree_of-alike}
use Rattle.key_meaning.proofs.laws.alike_ids_have_one_tree.Goals as goal

pub returns : goal.returns
returns c = record { tree = tree_of-alike; alike = alike_from_visible }
