-- The subvolumes that share a slot, as a list in the order of their names: with a further one, with another one, and without one.
use Rattle.std.specs.Prelude.{ℕ, not, List, [], ◌∷◌, map, if◌then◌else◌}
use Rattle.std.specs.List.{filter}
use Rattle.std.specs.Ordering.{is_eq, is_lt}
use Rattle.vol_types.specs.Ranges.{name_cmp}
use Rattle.vol_types.specs.declared.values.Sub.{Sub}

-- the subvolumes with a further one, in front of the first whose name is above its
abbrev pub with_sub : Sub → List Sub → List Sub
with_sub sub [] = sub ∷ []
with_sub sub (other ∷ subs) = if is_lt (name_cmp sub.name other.name) then sub ∷ other ∷ subs else other ∷ with_sub sub subs

-- the subvolumes with this one in place of that of its name
abbrev pub with_other_sub : Sub → List Sub → List Sub
with_other_sub sub subs = map (λ other. if is_eq (name_cmp sub.name other.name) then sub else other) subs

-- the subvolumes but that of a name
abbrev pub without_sub : List ℕ → List Sub → List Sub
without_sub name subs = filter (λ sub. not (is_eq (name_cmp name sub.name))) subs
