use Rattle.dirent_keys.proofs.Taking.{changes_name, changes_only, directories_are, files_are, names_are, number_is, updates_stay}
use Rattle.dirent_keys.specs.Links.{names_value, with_link, without_name}
use Rattle.key_meaning.specs.Forest.{links_in}
use Rattle.vol_digest.specs.Digests.{slot_of}
use Rattle.dirent_keys.proofs.laws.directories_take_names.Goals as goal

pub returns : goal.returns
returns c = record {
  only = changes_only;
  name = changes_name;
  number = number_is;
  names = names_are;
  directories = directories_are;
  files = files_are;
  added = λ keys id directory link. updates_stay keys directory (slot_of link.name) id (names_value (with_link link (links_in keys id directory (slot_of link.name))));
  removed = λ keys id directory name. updates_stay keys directory (slot_of name) id (names_value (without_name name (links_in keys id directory (slot_of name))));
}
