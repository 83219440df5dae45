-- What the code says of places and of changes of a tree.
use Rattle.std.specs.Prelude.{◌≡◌, ℕ, ◌+◌, ◌≤◌, List, [], length, Some, None}
use Rattle.std.specs.Ordering.{nat_cmp}
use Rattle.plain_forest.specs.Maps.{name_cmp, value_at}
use Rattle.plain_forest.specs.Forest.{Names, Tree}
use Rattle.forest_ops.specs.Content.{max_size, put_at, resized}
use Rattle.forest_ops.specs.Trees.{Place, with_name, with_file, with_directory, unlinked, without_directory, moved, with_bytes}
use Rattle.forest_ops.specs.declared.place.NamePlace.{NamePlace}
use Rattle.forest_ops.specs.declared.place.Change.{Change}
use Rattle.forest_ops.specs.declared.place.Change.TheVariants.{MakeFile, MakeDirectory, AddName, Unlink, RemoveDirectory, Move, Put, Resize}

-- the place that the code names
abbrev pub place_of : NamePlace → Place
place_of place = record { directory = place.directory; name = place.name.now; number = place.number }

-- what a change makes of a tree
abbrev pub changed : Change → Tree → Tree
changed (MakeFile place) tree = with_file (place_of place) tree
changed (MakeDirectory place) tree = with_directory (place_of place) tree
changed (AddName place) tree = with_name (place_of place) tree
changed (Unlink place) tree = unlinked (place_of place) tree
changed (RemoveDirectory place) tree = without_directory (place_of place) tree
changed (Move old new) tree = moved (place_of old) (place_of new) tree
changed (Put number offset bytes) tree = with_bytes number (put_at offset bytes.now) tree
changed (Resize number size) tree = with_bytes number (resized size) tree

-- the directory at a place doesn't have the name
abbrev pub IsFree : Place → List (ℕ × Names) → Type 0
IsFree place directories = (names : Names) → value_at nat_cmp place.directory directories ≡ Some names → value_at name_cmp place.name names ≡ None

-- a directory has no names
abbrev pub IsEmptyDirectory : ℕ → List (ℕ × Names) → Type 0
IsEmptyDirectory number directories = (names : Names) → value_at nat_cmp number directories ≡ Some names → names ≡ []

-- the tree takes the change: new names are free, a directory that goes is empty, and what is put lies within a file
abbrev pub Fits : Change → Tree → Type 0
Fits (MakeFile place) tree = IsFree (place_of place) tree.directories
Fits (MakeDirectory place) tree = IsFree (place_of place) tree.directories
Fits (AddName place) tree = IsFree (place_of place) tree.directories
Fits (Unlink place) tree = Unit {0}
Fits (RemoveDirectory place) tree = IsEmptyDirectory place.number tree.directories
Fits (Move old new) tree = IsFree (place_of new) tree.directories
Fits (Put number offset bytes) tree = offset + length bytes.now ≤ max_size
Fits (Resize number size) tree = Unit {0}
