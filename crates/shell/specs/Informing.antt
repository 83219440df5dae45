-- What is told of devices.
use Rattle.std.specs.Prelude.{◌≡◌, ℕ, List}
use Rattle.dev_model.specs.Devices.{DevicesState}
use Rattle.image_view.specs.Found.{Found}
use Rattle.vol_info.specs.Lines.{info_lines}
use Rattle.vol_info.specs.Readings.{WasFound}

-- These are the lines of what was found on the devices.
pub record IsInfoText (devices_tell : Type 0) (text : List ℕ) (old new : DevicesState) : Type 0 where
  pub f : Found
  pub lines : text ≡ info_lines f
  pub was : WasFound devices_tell f old new
