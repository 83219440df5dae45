-- What each image means that a crash left since a session began.
use Rattle.std.specs.Prelude.{◌≡◌, ℕ, ◌<◌, ◌≤◌, List, ◌++◌, length, Option, Some, Ok, slice_get}
use Rattle.dev_model.specs.Devices.{DevicesState}
use Rattle.dev_model.specs.Disk.{Image, IsCrashImage}
use Rattle.image_view.specs.Found.{Found, IsInOrder, found}
use Rattle.replay.specs.Mending.{IsUntorn}
use Rattle.mirror_laws.specs.Degraded.{IsDegradedTo}
use Rattle.vol_types.specs.declared.layout.Layout.{Layout}
use Rattle.crash_safety.specs.Standing.{StandsOn}
use Rattle.crash_safety.specs.Writings.{Writing, meant_by}

-- The image means one of these, in order, and none before the ones that were durable by this moment: the first of them is meant from the
-- beginning on, and each further one is durable from its moment on.
pub record MeansOneOf (bases : List Found) (durable : List ℕ) (moment : ℕ) (image : Image) : Type 0 where
  pub index : ℕ
  pub base : Found
  pub at : slice_get bases index ≡ Some base
  pub finds : found image ≡ Ok base
  pub in_order : IsInOrder base image
  pub none_before : (k m : ℕ) → slice_get durable k ≡ Some m → m ≤ moment → k < index

-- The image means one of these so, and so it does on each metadata device alone: whatever blocks of the journal and of nodes the others lose,
-- what is left means one of these so.
pub record MeansOnEach (layout : Layout) (bases : List Found) (durable : List ℕ) (moment : ℕ) (image : Image) : Type 0 where
  pub itself : MeansOneOf bases durable moment image
  pub alone : (mirror : ℕ) → mirror < layout.metadata_replicas → (alone : Image) → IsDegradedTo layout mirror image alone → MeansOneOf bases durable moment alone

-- Each image that a crash left at a moment from the first one on means one of these so, on each metadata device alone too, where no torn block of
-- the journal areas opens by chance.
pub record IsSafe (layout : Layout) (bases : List Found) (durable : List ℕ) (first : ℕ) (state : DevicesState) : Type 0 where
  pub each : (moment : ℕ) → first ≤ moment → moment ≤ state.moment → (image : Image) → IsCrashImage (state.disks moment) image → IsUntorn layout first moment state image → MeansOnEach layout bases durable moment image

-- The last of these is what was found, or that with the entry that is written; each one but the first became durable before.
pub record AreBases (f : Found) (writing : Option Writing) (bases : List Found) (durable : List ℕ) : Type 0 where
  pub before : List Found
  pub are : bases ≡ before ++ meant_by f writing
  pub count : length before ≡ length durable

-- A journal is safe while an entry is written, which may lead to new nodes: so much of it stands on the devices, and whatever a crash has
-- left meant one of these.
pub record IsJournalSafe (f : Found) (image : Image) (writing : Option Writing) (asked written : ℕ) (bases : List Found) (durable : List ℕ) (first : ℕ) (state : DevicesState) : Type 0 where
  pub stands : StandsOn f image writing asked written first state
  pub bases_are : AreBases f writing bases durable
  pub safe : IsSafe f.layout bases durable first state
