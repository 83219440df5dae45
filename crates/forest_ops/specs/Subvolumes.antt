-- Which subvolumes may be new.
use Rattle.std.specs.Prelude.{ℕ, not, nat_le, List, length, is_some, Result}
use Rattle.plain_forest.specs.Maps.{name_cmp, value_at}
use Rattle.plain_forest.specs.Names.{is_good_subvolume_name}
use Rattle.plain_forest.specs.Forest.{Forest}
use Rattle.forest_ops.specs.Refusals.{◌>>=◌, refused_if}
use Rattle.forest_ops.specs.Names.{is_crowded}
use Rattle.forest_ops.specs.declared.operation.Cause.{Cause}
use Rattle.forest_ops.specs.declared.operation.Cause.TheVariants.{BadPath, Exists, Crowded, TooMany}

-- how many subvolumes there may be
abbrev pub max_subvolumes : ℕ
max_subvolumes = 4096

-- whether a subvolume may have the name
abbrev pub good_subvolume : List ℕ → Result (Unit {0}) Cause
good_subvolume name = refused_if (not (is_good_subvolume_name name)) BadPath

-- whether the forest takes a new subvolume of this name: none has it, its slot has room, and there is room for one more
abbrev pub new_subvolume : List ℕ → Forest → Result (Unit {0}) Cause
new_subvolume name forest = do
  _ ← refused_if (is_some (value_at name_cmp name forest.subvolumes)) Exists
  _ ← refused_if (is_crowded name forest.subvolumes) Crowded
  refused_if (nat_le max_subvolumes (length forest.subvolumes)) TooMany
