-- What it does to devices that the next part of an entry in flight is written.
use Rattle.std.specs.Prelude.{◌≡◌, ℕ, ◌+◌, ◌<◌, Bool, List, Option, None, IfSome}
use Rattle.dev_model.specs.Crashes.{EachCrash, IsCrashImageBut, SameBut}
use Rattle.dev_model.specs.Devices.{DevicesState, now}
use Rattle.dev_model.specs.Disk.{as_read}
use Rattle.dev_model.specs.Frames.{GoOn, after_writes}
use Rattle.dev_model.specs.HeldBlocks.{HoldOnly}
use Rattle.geometry.specs.Mirrors.{HoldMirrors}
use Rattle.journal_ring.specs.Rings.{HoldsParts, IsPartAsked, IsPartPlace, RingState, part_bytes, part_place}

-- The part is written on every metadata device, or one of these failed. Until they are flushed a crash may leave any bytes at its places, and all else
-- as it might before; nothing else was asked of the devices. Where the parts before it stand, so does this one then.
pub record WritesPart (tells : Type 0) (ring : RingState) (failed : Option ℕ) (old new : DevicesState) : Type 0 where
  pub crashes : tells → EachCrash (λ _ _ image. IsCrashImageBut (IsPartPlace ring) (now old) image) old new
  pub written : tells → failed ≡ None → HoldMirrors ring.mirrors (part_place ring) (part_bytes ring) (as_read (now new))
  pub elsewhere : tells → SameBut (IsPartPlace ring) (as_read (now old)) (as_read (now new))
  pub held : tells → HoldsParts ring ring.written (as_read (now old)) → failed ≡ None → HoldsParts ring (ring.written + 1) (as_read (now new))
  pub asks : tells → (opens : List ℕ → Bool) → HoldOnly opens (IsPartAsked ring) old new
  pub goes_on : GoOn old new
  pub cause : new.faults ≡ after_writes failed old.faults
  pub device : IfSome failed (λ dev. dev < ring.mirrors)
