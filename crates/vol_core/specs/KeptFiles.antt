-- What is kept of the blocks of files that were there when the session began: no bucket that has some is given, and a crash leaves them as they were read.
use Rattle.std.specs.Prelude.{◌≡◌, ℕ, Some}
use Rattle.bucket_pool.specs.NodeBuckets.{bucket_state}
use Rattle.bucket_pool.specs.Space.{Space}
use Rattle.bucket_pool.specs.declared.bucket.State.TheVariants.{User}
use Rattle.core_volume.specs.Volumes.{Volume}
use Rattle.dev_model.specs.Devices.{DevicesState, now}
use Rattle.dev_model.specs.Disk.{Image, IsCrashImage}
use Rattle.image_view.specs.Found.{Found}
use Rattle.vol_core.specs.Left.{HasFiles, HoldsFiles, IsSoundFound}
use Rattle.vol_core.specs.Safety.{MayBegin}

-- Each bucket that has blocks of files is in use by files in the space.
abbrev pub AreInUse : Found → Space → Type 0
AreInUse begun space = (dev bucket : ℕ) → HasFiles begun dev bucket → bucket_state space dev bucket ≡ Some User

-- Each bucket that has blocks of files is in use by files, and whatever a crash leaves now holds these blocks as they were read when the session began.
pub record KeepsFiles (begun : Found) (start state : DevicesState) (volume : Volume) : Type 0 where
  pub in_use : AreInUse begun volume.space
  pub left : (image : Image) → IsCrashImage (now state) image → HoldsFiles begun start image

-- Where the devices tell what they hold, the session may begin so, and what was found is sound, this is kept.
abbrev pub KeepsFilesIf : Type 0 → Found → DevicesState → DevicesState → Volume → Type 0
KeepsFilesIf tells begun start state volume = tells → MayBegin begun (now start) → IsSoundFound begun → KeepsFiles begun start state volume
