-- What the facts of devices are worth, and why there are none.
use Rattle.std.specs.Prelude.{◌≡◌, ⊤, Result, Ok, Err}
use Rattle.dev_model.specs.Devices.{DevicesState, now}
use Rattle.dev_model.specs.Disk.{as_read}
use Rattle.geometry.specs.Faults.{SomeFailed}
use Rattle.image_view.specs.Found.{Found, NodesAgree, found}
use Rattle.image_view.specs.declared.fault.MountFault.{MountFault}
use Rattle.image_view.specs.declared.fault.MountFault.TheVariants.{DeviceFault, NoMemory}
use Rattle.image_reader.specs.Answers.{IsFront}
use Rattle.vol_info.specs.Facts.{facts_of}
use Rattle.vol_info.specs.declared.facts.Facts.{Facts}

-- This was read of the devices. It is what is found in the image that they held where no call failed (`means`), and also where a node couldn't be read on some
-- place, of an image on whose nodes their places agree (`made_up`). Its layout, its session and its entries are the image's in any case (`front`).
pub record WasFound (tells : Type 0) (f : Found) (old new : DevicesState) : Type 0 where
  pub means : tells → ¬ SomeFailed old.faults new.faults → found (as_read (now old)) ≡ Ok f
  pub made_up : tells → (other : Found) → found (as_read (now old)) ≡ Ok other → NodesAgree (as_read (now old)) other → f ≡ other
  pub front : tells → IsFront (as_read (now old)) f.layout f.session f.needed

-- These are the facts of what was read.
pub record AreFacts (tells : Type 0) (facts : Facts) (old new : DevicesState) : Type 0 where
  pub f : Found
  pub are : facts ≡ facts_of f
  pub was : WasFound tells f old new

-- The fault is the one that is expected, unless a device failed or it was out of memory.
abbrev pub IsFaultOf : Result Found MountFault → MountFault → Type 0
IsFaultOf expected (DeviceFault dev) = ⊤
IsFaultOf expected NoMemory = ⊤
IsFaultOf expected fault = expected ≡ Err fault
