-- What a plan finds by looks: values of keys, and the inode at which names of a path end.
use Rattle.std.specs.Prelude.{not, ℕ, Option, List, [], ◌∷◌, option_and_then, Result, Ok}
use Rattle.std.specs.Option.{ok_or}
use Rattle.forest_ops.specs.Refusals.{◌>>=◌, refused_if}
use Rattle.forest_ops.specs.Walking.{Directory, Inode, same_name}
use Rattle.forest_ops.specs.declared.operation.Cause.{Cause}
use Rattle.forest_ops.specs.declared.operation.Cause.TheVariants.{BadPath, Cross, NoSubvolume, NotDir, NotFound}
use Rattle.path_plan.specs.declared.walking.Spot.{Spot}
use Rattle.key_meaning.specs.Forest.{Read, is_directory, kind_in, number_in, sub_named}
use Rattle.key_meaning.specs.Forest as keys_mean
use Rattle.plain_forest.specs.Names.{is_good_path}
use Rattle.plain_forest.specs.declared.path.Path.{Path}
use Rattle.vol_types.specs.KeyMaps.{KeyMap}
use Rattle.vol_types.specs.declared.keys.Key.{Key}
use Rattle.vol_types.specs.declared.values.Sub.{Sub}
use Rattle.vol_types.specs.declared.values.Value.{Value}

-- the value of a key, if there is one
abbrev pub value_in_key : Option Key → Option Value
value_in_key key = option_and_then (λ (k : Key). k.value) key

-- where a name of a number leads in an id
abbrev pub leads_to : KeyMap → ℕ → ℕ → List ℕ → Result ℕ Cause
leads_to keys id number name = do
  _ ← refused_if (not (is_directory (kind_in keys id number))) NotDir
  ok_or (number_in keys id number name) NotFound

-- where the names lead from a number in an id
abbrev pub lead_to : KeyMap → ℕ → List (List ℕ) → ℕ → Result ℕ Cause
lead_to keys id [] number = Ok number
lead_to keys id (name ∷ names) number = do
  next ← leads_to keys id number name
  lead_to keys id names next

-- the subvolume of a good path
abbrev pub sub_of : KeyMap → Path → Result Sub Cause
sub_of keys path = do
  _ ← refused_if (not (is_good_path path)) BadPath
  ok_or (sub_named keys path.sub) NoSubvolume

-- the subvolume in which two good paths lie
abbrev pub shared_sub : KeyMap → Path → Path → Result Sub Cause
shared_sub keys from to = do
  _ ← refused_if (not (is_good_path from)) BadPath
  _ ← refused_if (not (is_good_path to)) BadPath
  _ ← refused_if (not (same_name from.sub to.sub)) Cross
  ok_or (sub_named keys from.sub) NoSubvolume

-- the inode to which some names lead from the root of a path's subvolume
abbrev pub reached_along : KeyMap → Path → List (List ℕ) → Result Spot Cause
reached_along keys path names = do
  sub ← sub_of keys path
  number ← lead_to keys sub.id names sub.root
  Ok (record { sub = sub; number = number })

-- an inode, where it is a directory
abbrev pub if_directory : KeyMap → Spot → Result Spot Cause
if_directory keys spot = do
  _ ← refused_if (not (is_directory (kind_in keys spot.sub.id spot.number))) NotDir
  Ok spot

-- the directory to which some names lead from the root of a path's subvolume
abbrev pub spot_along : KeyMap → Path → List (List ℕ) → Result Spot Cause
spot_along keys path names = do
  spot ← reached_along keys path names
  if_directory keys spot

-- the inode in the forest that is this one in the keys
abbrev pub inode_at_spot : KeyMap → Read → Spot → Inode
inode_at_spot keys read spot = record { tree = keys_mean.tree_of keys read spot.sub; number = spot.number }

-- the directory in the forest that is this one in the keys
abbrev pub directory_of : KeyMap → Read → Spot → Directory
directory_of keys read spot = record { tree = keys_mean.tree_of keys read spot.sub; number = spot.number; names = keys_mean.names_in keys spot.sub.id spot.number }
