-- Which names and paths are good.
use Rattle.std.specs.Prelude.{ℕ, ◌-◌, Bool, not, ◌&&◌, ◌||◌, ◌==◌, nat_le, nat_eq, List, length, take, slice_get, Option, codes}
use Rattle.std.specs.List.{list_all}
use Rattle.std.specs.Cmp.Lexicographic.{pointwise}
use Rattle.plain_forest.specs.declared.path.Path.{Path}

-- `.` and `..` stand for directories everywhere, so they name no file
abbrev pub is_dots : List ℕ → Bool
is_dots name = pointwise nat_eq name (codes ".") || pointwise nat_eq name (codes "..")

-- neither `/`, which parts the names of a path, nor NUL stands in the name
abbrev pub has_good_bytes : List ℕ → Bool
has_good_bytes name = list_all (λ byte. not (byte == 47) && not (byte == 0)) name

-- no `:`, which ends a subvolume's name in a path
abbrev pub has_no_colon : List ℕ → Bool
has_no_colon name = list_all (λ byte. not (byte == 58)) name

-- a good name has 1 to 255 good bytes, and isn't one of the dots
abbrev pub is_good_name : List ℕ → Bool
is_good_name name = nat_le 1 (length name) && nat_le (length name) 255 && has_good_bytes name && not (is_dots name)

-- a subvolume's name has no `:` either
abbrev pub is_good_subvolume_name : List ℕ → Bool
is_good_subvolume_name name = is_good_name name && has_no_colon name

-- a good path has good names, at most 32 of them after the subvolume's
abbrev pub is_good_path : Path → Bool
is_good_path path = is_good_subvolume_name path.sub && nat_le (length path.names) 32 && list_all is_good_name path.names

-- the names of a path that lead to its parent
abbrev pub parent_names : Path → List (List ℕ)
parent_names path = take (length path.names - 1) path.names

-- the last name of a path; the path of a root has none
abbrev pub last_name : Path → Option (List ℕ)
last_name path = slice_get path.names (length path.names - 1)
