-- A forest that is put together from its parts, where nothing that stands is written over.
use Rattle.std.specs.Prelude.{ℕ, Bool, List, [], is_some, replicate, if◌then◌else◌}
use Rattle.std.specs.Ordering.{nat_cmp}
use Rattle.std.specs.declared.cmp.Ordering.{Ordering}
use Rattle.plain_forest.specs.Maps.{name_cmp, value_at, with_value, changed_at}
use Rattle.plain_forest.specs.Forest.{Forest, Tree}
use Rattle.forest_ops.specs.Trees.{Place}

-- the entries with a value at a key that had none; the same entries where it had one
abbrev pub with_new : {K X : Type 0} → (K → K → Ordering) → K → X → List (K × X) → List (K × X)
with_new cmp key value entries = if is_some (value_at cmp key entries) then entries else with_value cmp key value entries

-- a tree with neither files nor directories
abbrev pub bare_tree : Bool → ℕ → Tree
bare_tree locked root = record { locked = locked; root = root; files = []; directories = [] }

-- the tree with a file of so many zeros, if the number had none
abbrev pub with_zeros : ℕ → ℕ → Tree → Tree
with_zeros number size tree = record tree { files = with_new nat_cmp number (replicate size 0) tree.files }

-- the tree with a directory without names, if the number had none
abbrev pub with_bare_directory : ℕ → Tree → Tree
with_bare_directory number tree = record tree { directories = with_new nat_cmp number [] tree.directories }

-- the tree with a name in its directory, if that is there and had none of this name
abbrev pub with_link : Place → Tree → Tree
with_link place tree = record tree { directories = changed_at nat_cmp place.directory (with_new name_cmp place.name place.number) tree.directories }

-- a forest without subvolumes
abbrev pub bare_forest : List ℕ → ℕ → Forest
bare_forest next ids_left = record { subvolumes = []; next = next; ids_left = ids_left }

-- the forest with a subvolume, if none had its name
abbrev pub with_tree : List ℕ → Tree → Forest → Forest
with_tree name tree forest = record forest { subvolumes = with_new name_cmp name tree forest.subvolumes }
