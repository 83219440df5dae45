-- How files are locked, and how images are made of them.
use Rattle.std.specs.Prelude.{◌≡◌, ℕ, ◌<◌, ◌≤◌, true, false, List, length, map, take, drop, Some, slice_get, All}
use Rattle.file_devices.specs.Files.{FileState, Story}

-- the same file with its lock taken
abbrev pub with_lock : FileState → FileState
with_lock state = record { story = state.story; rest = state.rest; free = state.free; locked = true }

-- This file is there, and its lock can't be had.
pub record IsInUse (tells : Type 0) (files : List FileState) (dev : ℕ) : Type 0 where
  pub within : dev < length files
  pub taken : tells → (file : FileState) → slice_get files dev ≡ Some file → file.free ≡ false

-- Images were made of the first files, and the rest is still to come. They hold what these held.
pub record IsOpening {I F : Type 0} (tells : Type 0) (story : F → Story) (image_story : I → Story) (since : I → ℕ) (files : List F) (images : List I) (left : List F) : Type 0 where
  pub rest : left ≡ drop (length images) files
  pub within : length images ≤ length files
  pub last : All (λ image. since image ≡ 0) images
  pub held : tells → map image_story images ≡ map story (take (length images) files)
