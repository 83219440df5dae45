-- The names that share a slot, as a list in the order of their bytes: with a further one, and without one.
use Rattle.std.specs.Prelude.{ℕ, not, Option, Some, None, List, [], ◌∷◌, if◌then◌else◌}
use Rattle.std.specs.List.{filter}
use Rattle.std.specs.Ordering.{is_eq, is_lt}
use Rattle.vol_types.specs.Ranges.{name_cmp}
use Rattle.vol_types.specs.declared.values.Link.{Link}
use Rattle.vol_types.specs.declared.values.Value.{Value}
use Rattle.vol_types.specs.declared.values.Value.TheVariants as values

-- the names with a further one, in front of the first that is above it
abbrev pub with_link : Link → List Link → List Link
with_link link [] = link ∷ []
with_link link (other ∷ links) = if is_lt (name_cmp link.name other.name) then link ∷ other ∷ links else other ∷ with_link link links

-- the names but this one
abbrev pub without_name : List ℕ → List Link → List Link
without_name name links = filter (λ link. not (is_eq (name_cmp name link.name))) links

-- the value that holds some names; none where there is no name
abbrev pub names_value : List Link → Option Value
names_value [] = None
names_value (link ∷ links) = Some (values.Names (link ∷ links))
