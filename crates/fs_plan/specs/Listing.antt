-- The names of a directory, gathered slot by slot.
use Rattle.std.specs.Prelude.{ℕ, List, [], ◌∷◌}
use Rattle.vol_types.specs.Maps.{with_value}
use Rattle.vol_types.specs.Ranges.{name_cmp}
use Rattle.vol_types.specs.Values.{file_kind_code}
use Rattle.vol_types.specs.declared.FlaggedName.{FlaggedName}
use Rattle.vol_types.specs.declared.values.Link.{Link}

-- Names with flags, after those of a value were put among them; of two that are equal the first stays.
abbrev pub with_links : List Link → List (List ℕ × ℕ) → List (List ℕ × ℕ)
with_links [] entries = entries
with_links (link ∷ links) entries = with_value name_cmp link.name (file_kind_code link.kind) (with_links links entries)

-- a name with its flag
abbrev pub flagged_name : List ℕ × ℕ → FlaggedName
flagged_name entry = record { name = entry.0; flag = entry.1 }
