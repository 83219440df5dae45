-- The updates by which a name moves to another path, as functions of the keys, and what they are to make of these.
use Rattle.std.specs.Prelude.{◌≡◌, ℕ, Option, Some, None, List, ⊤, Result, Ok, Err, if◌then◌else◌}
use Rattle.std.specs.Option.{ok_or}
use Rattle.dirent_keys.specs.Moves.{step_to_move}
use Rattle.dirent_keys.specs.Names.{Target, target_in}
use Rattle.dirent_keys.specs.declared.step.NameStep.{NameStep}
use Rattle.forest_ops.specs.Names.{is_above, same_path}
use Rattle.forest_ops.specs.Refusals.{◌>>=◌, Agrees, refused_if}
use Rattle.forest_ops.specs.Steps.{Next}
use Rattle.forest_ops.specs.declared.operation.Cause.{Cause}
use Rattle.forest_ops.specs.declared.operation.Cause.TheVariants.{Exists, Loop, NotFound, ReadOnly}
use Rattle.forest_ops.specs.declared.operation.Reply.TheVariants.{Okay}
use Rattle.key_meaning.specs.Forest.{Read, forest_in}
use Rattle.name_plan.specs.Directories.{directory_under}
use Rattle.name_plan.specs.NameSteps.{step_made}
use Rattle.name_plan.specs.declared.renaming.Source.{Source}
use Rattle.path_plan.specs.Looking.{shared_sub}
use Rattle.path_plan.specs.Made.{AreOfStep}
use Rattle.plain_forest.specs.Forest.{Forest}
use Rattle.plain_forest.specs.Names.{last_name, parent_names}
use Rattle.plain_forest.specs.declared.path.Path.{Path}
use Rattle.vol_types.specs.KeyMaps.{KeyMap}
use Rattle.vol_types.specs.declared.keys.Update.{Update}
use Rattle.vol_types.specs.declared.layout.Layout.{Layout}
use Rattle.vol_types.specs.declared.pointers.Place.{Place}
use Rattle.vol_types.specs.declared.values.FileKind.TheVariants.{Directory}
use Rattle.vol_types.specs.declared.values.Link.{Link}
use Rattle.vol_types.specs.declared.values.Sub.{Sub}

-- what a name of a directory leads to, if it leads anywhere
abbrev pub source_at : ℕ → Option Target → Result Source Cause
source_at directory None = Err NotFound
source_at directory (Some target) = Ok (record { directory = directory; number = target.0; kind = target.1 })

-- what the last name of a path leads to, in the directory in which it stands; a root, which has no name, stands in itself
abbrev pub source_by : KeyMap → Sub → Path → Option (List ℕ) → Result Source Cause
source_by keys sub path None = Ok (record { directory = sub.root; number = sub.root; kind = Directory })
source_by keys sub path (Some name) = do
  directory ← directory_under keys sub (parent_names path)
  source_at directory (target_in keys sub.id directory name)

-- what stands at a path of a subvolume
abbrev pub source_of : KeyMap → Sub → Path → Result Source Cause
source_of keys sub path = source_by keys sub path (last_name path)

-- the name that leads to what moves
abbrev pub moved_link : Source → List ℕ → Link
moved_link source name = record { number = source.number; kind = source.kind; name = name }

-- the updates of a name that moves, or why it doesn't
abbrev pub moved_by : NameStep → Result (Option (List Update)) Cause
moved_by step = do
  updates ← step_made step
  Ok (Some updates)

-- the updates after which what stands at the first path has the last name of the second one, in this directory
abbrev pub moved_to : KeyMap → ℕ → Source → ℕ → Path → Path → Result (Option (List Update)) Cause
moved_to keys id source directory from to = do
  _ ← refused_if (is_above from.names to.names) Loop
  name ← ok_or (last_name from) Loop
  other ← ok_or (last_name to) Exists
  moved_by (step_to_move keys id source.directory name directory (moved_link source other))

-- the same, and none between equal paths
abbrev pub renamed_to : KeyMap → Sub → Source → ℕ → Path → Path → Result (Option (List Update)) Cause
renamed_to keys sub source directory from to = do
  _ ← refused_if sub.read_only ReadOnly
  if same_path from to then Ok None else moved_to keys sub.id source directory from to

-- the updates after which what stands at the first path stands at the second one of a subvolume
abbrev pub source_renamed : KeyMap → Path → Path → Sub → Source → Result (Option (List Update)) Cause
source_renamed keys from to sub source = do
  directory ← directory_under keys sub (parent_names to)
  renamed_to keys sub source directory from to

-- the updates of a rename in the subvolume of both paths
abbrev pub renamed_in : KeyMap → Path → Path → Sub → Result (Option (List Update)) Cause
renamed_in keys from to sub = do
  source ← source_of keys sub from
  source_renamed keys from to sub source

-- the updates after which what stands at the first path stands at the second one, or the first refusal; none where the paths are equal
abbrev pub renamed_at : KeyMap → Path → Path → Result (Option (List Update)) Cause
renamed_at keys from to = do
  sub ← shared_sub keys from to
  renamed_in keys from to sub

-- The updates have it, where there are some.
abbrev pub IfMoved : Result (Option (List Update)) Cause → (List Update → Type 0) → Type 0
IfMoved (Ok (Some updates)) P = P updates
IfMoved (Ok None) P = ⊤
IfMoved (Err cause) P = ⊤

-- The step answers that it was done, and leaves the forest.
pub record IsIdleStep (forest : Forest) (next : Next) : Type 0 where
  pub reply : next.reply ≡ Okay
  pub stays : next.forest ≡ forest

-- The updates are those of the step, where there are some, and else the step leaves the forest.
abbrev pub AreOfRename : KeyMap → List Place → Layout → Read → Option (List Update) → Next → Type 0
AreOfRename keys nodes layout read (Some updates) next = AreOfStep keys nodes layout read updates next
AreOfRename keys nodes layout read None next = IsIdleStep (forest_in keys read) next

-- The rename is made by the updates, or needs none, or is refused for the cause of the forest that the key map means.
abbrev pub IsRenameMade : KeyMap → List Place → Layout → (Forest → Result Next Cause) → Result (Option (List Update)) Cause → Type 0
IsRenameMade keys nodes layout step planned = (read : Read) → Agrees (AreOfRename keys nodes layout read) planned (step (forest_in keys read))
