-- The directory to which names lead in a subvolume.
use Rattle.std.specs.Prelude.{ℕ, not, List, Result, Ok}
use Rattle.forest_ops.specs.Refusals.{◌>>=◌, refused_if}
use Rattle.forest_ops.specs.declared.operation.Cause.{Cause}
use Rattle.forest_ops.specs.declared.operation.Cause.TheVariants.{NotDir}
use Rattle.key_meaning.specs.Forest.{is_directory, kind_in}
use Rattle.path_plan.specs.Looking.{lead_to}
use Rattle.vol_types.specs.KeyMaps.{KeyMap}
use Rattle.vol_types.specs.declared.values.Sub.{Sub}

-- the directory to which some names lead from the root of a subvolume
abbrev pub directory_under : KeyMap → Sub → List (List ℕ) → Result ℕ Cause
directory_under keys sub names = do
  number ← lead_to keys sub.id names sub.root
  _ ← refused_if (not (is_directory (kind_in keys sub.id number))) NotDir
  Ok number
