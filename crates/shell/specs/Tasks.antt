-- What a run is to do: what the arguments ask for, on so many devices.
use Rattle.std.specs.Prelude.{◌≡◌, ℕ, List, Option, Some, None, replicate, length, if◌then◌else◌, option_and_then}
use Rattle.vol_types.specs.declared.layout.Layout.{Layout}
use Rattle.vol_types.specs.Layouts.{is_layout}
use Rattle.command_line.specs.Requests.{request_of}
use Rattle.command_line.specs.declared.request.FormatRequest.{FormatRequest}
use Rattle.command_line.specs.declared.request.Request.{Request}
use Rattle.command_line.specs.declared.request.Request.TheVariants as requests
use Rattle.shell.specs.declared.task.Task.{Task}
use Rattle.shell.specs.declared.task.Task.TheVariants.{Run, Format, Info}

-- the layout that is asked for, of so many devices
abbrev pub layout_asked : ℕ → FormatRequest → Layout
layout_asked devices asked = record {
  id = asked.id;
  blocks = replicate devices asked.blocks;
  journal = asked.journal;
  metadata_replicas = asked.meta_replicas;
  data_replicas = asked.data_replicas;
}

-- to format with this layout, where a volume may lie so
abbrev pub format_if : Layout → Option Task
format_if layout = if is_layout layout then Some (Format layout) else None

-- what a request is to do
abbrev pub task_for : ℕ → Request → Option Task
task_for devices requests.Run = Some Run
task_for devices (requests.Format asked) = format_if (layout_asked devices asked)
task_for devices requests.Info = Some Info

-- what the arguments are to do; nothing where they are no command, or ask for a layout that no volume may have
abbrev pub task_of : ℕ → List (List ℕ) → Option Task
task_of devices arguments = option_and_then (task_for devices) (request_of arguments)

-- the arguments ask for a run
abbrev pub IsRun : List (List ℕ) → List ℕ → Type 0
IsRun arguments sizes = task_of (length sizes) arguments ≡ Some Run

-- the arguments ask what the devices hold
abbrev pub IsInfo : List (List ℕ) → List ℕ → Type 0
IsInfo arguments sizes = task_of (length sizes) arguments ≡ Some Info

-- the arguments ask for a format with this layout, of the devices with these sizes
abbrev pub IsFormat : List (List ℕ) → List ℕ → Layout → Type 0
IsFormat arguments sizes layout = task_of (length sizes) arguments ≡ Some (Format layout)

-- Some arguments ask for this task, on devices of these sizes.
pub record IsAsked (sizes : List ℕ) (task : Task) : Type 0 where
  pub arguments : List (List ℕ)
  pub asked : task_of (length sizes) arguments ≡ Some task
