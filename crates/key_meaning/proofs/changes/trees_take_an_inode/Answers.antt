use Rattle.key_meaning.specs.TreeLaws.{directories_in-inode, files_in-inode, same_names}
use Rattle.key_meaning.proofs.changes.trees_take_an_inode.Goals as goal

pub returns : goal.returns
returns c = record { files = files_in-inode; directories = directories_in-inode; names = same_names }
