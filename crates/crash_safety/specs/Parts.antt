-- What it does to devices that a part of the entry is written.
use Rattle.std.specs.Prelude.{◌≡◌, ℕ, ◌+◌, Bool, List, Option, Some, None}
use Rattle.dev_model.specs.Crashes.{EachCrash, IsCrashImageBut, SameBut}
use Rattle.dev_model.specs.Devices.{DevicesState, now}
use Rattle.dev_model.specs.Disk.{as_read}
use Rattle.dev_model.specs.HeldBlocks.{HoldOnly}
use Rattle.journal_ring.specs.Rings.{HoldsParts, IsPartAsked, IsPartPlace, RingState, flight_number}
use Rattle.vol_types.specs.declared.layout.Layout.{Layout}
use Rattle.crash_safety.specs.Writings.{Writing}

-- The ring has this entry in flight, of which so many parts are written.
pub record IsRingOf (layout : Layout) (w : Writing) (written : ℕ) (ring : RingState) : Type 0 where
  pub mirrors : ring.mirrors ≡ layout.metadata_replicas
  pub journal : ring.journal ≡ layout.journal
  pub number : flight_number ring ≡ w.next.number
  pub blocks : ring.blocks ≡ w.blocks
  pub written_is : ring.written ≡ written

-- Between two states these blocks were asked for at most, at these places.
pub record AsksAt (touched : ℕ → ℕ → Type 0) (asked : ℕ → ℕ → List ℕ → Type 0) (old new : DevicesState) : Type 0 where
  pub crashes : EachCrash (λ _ _ image. IsCrashImageBut touched (now old) image) old new
  pub elsewhere : SameBut touched (as_read (now old)) (as_read (now new))
  pub asks : (opens : List ℕ → Bool) → HoldOnly opens asked old new

-- The next part of a ring's entry was written on every metadata device, or one of these failed.
pub record IsPartWritten (ring : RingState) (failed : Option ℕ) (old new : DevicesState) : Type 0 where
  pub at : AsksAt (IsPartPlace ring) (IsPartAsked ring) old new
  pub held : HoldsParts ring ring.written (as_read (now old)) → failed ≡ None → HoldsParts ring (ring.written + 1) (as_read (now new))

-- how many parts stand after so many did and one more was written, or not
abbrev pub standing_by : Option ℕ → ℕ → ℕ
standing_by None written = written + 1
standing_by (Some dev) written = written
