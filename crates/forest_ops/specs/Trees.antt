-- What operations make of a file tree.
use Rattle.std.specs.Prelude.{ℕ, false, ◌==◌, List, [], ◌∷◌, if◌then◌else◌}
use Rattle.std.specs.Ordering.{nat_cmp}
use Rattle.plain_forest.specs.Maps.{name_cmp, with_value, changed_at}
use Rattle.plain_forest.specs.Forest.{Tree}
use Rattle.vol_types.specs.Maps.{without}
use Rattle.forest_ops.specs.Names.{links_of}

-- where a name is: the number of its directory, the name there, and the number to which it leads
pub record Place : Type 0 where
  pub directory : ℕ
  pub name : List ℕ
  pub number : ℕ

-- a tree with an empty root
abbrev pub empty_tree : ℕ → Tree
empty_tree root = record { locked = false; root = root; files = []; directories = (root, []) ∷ [] }

-- the tree with one more name
abbrev pub with_name : Place → Tree → Tree
with_name place tree = record tree { directories = changed_at nat_cmp place.directory (with_value name_cmp place.name place.number) tree.directories }

-- the tree with one name less
abbrev pub without_name : Place → Tree → Tree
without_name place tree = record tree { directories = changed_at nat_cmp place.directory (without name_cmp place.name) tree.directories }

-- the tree with an empty file under a new name
abbrev pub with_file : Place → Tree → Tree
with_file place tree = let named = with_name place tree in record named { files = with_value nat_cmp place.number [] named.files }

-- the tree with an empty directory under a new name
abbrev pub with_directory : Place → Tree → Tree
with_directory place tree = let named = with_name place tree in record named { directories = with_value nat_cmp place.number [] named.directories }

-- the tree with one name of a file less; the file goes with its last name
abbrev pub unlinked : Place → Tree → Tree
unlinked place tree = let left = without_name place tree in
    if links_of place.number left.directories == 0 then record left { files = without nat_cmp place.number left.files } else left

-- the tree without a directory and its name
abbrev pub without_directory : Place → Tree → Tree
without_directory place tree = let left = without_name place tree in record left { directories = without nat_cmp place.number left.directories }

-- the tree with a name at a new place and not at the old one
abbrev pub moved : Place → Place → Tree → Tree
moved old new tree = without_name old (with_name new tree)

-- the tree with the bytes of a file changed
abbrev pub with_bytes : ℕ → (List ℕ → List ℕ) → Tree → Tree
with_bytes number change tree = record tree { files = changed_at nat_cmp number change tree.files }
