-- Names of directories and of subvolumes: which may be new, and which paths lie under others.
use Rattle.std.specs.Prelude.{ℕ, Bool, ◌&&◌, nat_lt, nat_le, ◌==◌, List, length, take, sum_by, count_by, is_some, Result, Ok}
use Rattle.std.specs.Option.{ok_or}
use Rattle.std.specs.Cmp.Lexicographic.{pointwise}
use Rattle.vol_digest.specs.Digests.{slot_of}
use Rattle.plain_forest.specs.Maps.{name_cmp, value_at}
use Rattle.plain_forest.specs.Names.{last_name}
use Rattle.plain_forest.specs.Forest.{Names}
use Rattle.plain_forest.specs.declared.path.Path.{Path}
use Rattle.forest_ops.specs.Refusals.{◌>>=◌, refused_if}
use Rattle.forest_ops.specs.Walking.{same_name}
use Rattle.forest_ops.specs.declared.operation.Cause.{Cause}
use Rattle.forest_ops.specs.declared.operation.Cause.TheVariants.{Exists, Crowded}

-- how many names of a directory may have one slot, and how many subvolumes
abbrev pub names_per_slot : ℕ
names_per_slot = 8

-- how many names have this slot
abbrev pub count_in_slot : {X : Type 0} → ℕ → List (List ℕ × X) → ℕ
count_in_slot slot names = count_by (λ entry. slot_of entry.0 == slot) names

-- whether as many names have a name's slot as may have one
abbrev pub is_crowded : {X : Type 0} → List ℕ → List (List ℕ × X) → Bool
is_crowded name names = nat_le names_per_slot (count_in_slot (slot_of name) names)

-- how many names of a directory lead to a number
abbrev pub links_in : ℕ → Names → ℕ
links_in number names = count_by (λ entry. entry.1 == number) names

-- how many names of all directories lead to a number
abbrev pub links_of : ℕ → List (ℕ × Names) → ℕ
links_of number directories = sum_by (λ directory. links_in number directory.1) directories

-- how many names a file may have
abbrev pub links_max : ℕ
links_max = 255

-- the last name of a path, where it may be new in its directory: the path is no root, the name isn't there, and its
-- slot has room
abbrev pub new_name : Path → Names → Result (List ℕ) Cause
new_name path names = do
  name ← ok_or (last_name path) Exists
  _ ← refused_if (is_some (value_at name_cmp name names)) Exists
  _ ← refused_if (is_crowded name names) Crowded
  Ok name

-- two lists of names are equal
abbrev pub same_names : List (List ℕ) → List (List ℕ) → Bool
same_names one other = pointwise same_name one other

-- the first names lead to something above what the second ones lead to
abbrev pub is_above : List (List ℕ) → List (List ℕ) → Bool
is_above above below = nat_lt (length above) (length below) && same_names (take (length above) below) above

-- two paths are equal
abbrev pub same_path : Path → Path → Bool
same_path one other = same_name one.sub other.sub && same_names one.names other.names
