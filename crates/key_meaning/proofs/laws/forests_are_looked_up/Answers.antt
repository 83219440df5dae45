use Rattle.key_meaning.specs.ForestLaws.{directories_rise, directory_at, file_at, files_rise, name_at, names_rise, tree_at, trees_rise}
use Rattle.key_meaning.proofs.laws.forests_are_looked_up.Goals as goal

pub returns : goal.returns
returns c = record { subvolume = tree_at; subvolumes = trees_rise; file = file_at; files = files_rise; directory = directory_at; directories = directories_rise; name = name_at; names = names_rise }
