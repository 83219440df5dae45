-- What crashes may leave, over a stretch of time and at one moment.
use Rattle.std.specs.Prelude.{◌≡◌, ℕ, ◌≤◌, List}
use Rattle.dev_model.specs.Disk.{Image, Disk, IsCrashImage, as_read, block_at}
use Rattle.dev_model.specs.Devices.{DevicesState, now}

-- Quiet: nothing is pending, so that a crash leaves the disks just as they are read.
abbrev pub IsQuiet : List Disk → Type 0
IsQuiet disks = (image : Image) → IsCrashImage disks image → image ≡ as_read disks

-- From one state of devices to a later one, what was stays, and a crash at each moment leaves only images that have P, at that
-- moment and of the disks as they were then.
pub record EachCrash (P : ℕ → List Disk → Image → Type 0) (old new : DevicesState) : Type 0 where
  pub later : old.moment ≤ new.moment
  pub past : (m : ℕ) → m ≤ old.moment → new.disks m ≡ old.disks m
  pub each : (m : ℕ) → old.moment ≤ m → m ≤ new.moment → (image : Image) → IsCrashImage (new.disks m) image → P m (new.disks m) image

-- A crash now leaves only images that have P.
abbrev pub EachCrashNow : (Image → Type 0) → DevicesState → Type 0
EachCrashNow P state = (image : Image) → IsCrashImage (now state) image → P image

-- this place
abbrev pub IsAt : ℕ → ℕ → ℕ → ℕ → Type 0
IsAt dev block d b = (d ≡ dev) × (b ≡ block)

-- Two images have the same blocks, but maybe at the places that were touched.
abbrev pub SameBut : (ℕ → ℕ → Type 0) → Image → Image → Type 0
SameBut touched one other = (dev block : ℕ) → ¬ touched dev block → block_at one dev block ≡ block_at other dev block

-- The image is one that a crash may leave of these disks, but maybe at the places that were touched.
abbrev pub IsCrashImageBut : (ℕ → ℕ → Type 0) → List Disk → Image → Type 0
IsCrashImageBut touched disks image = (before : Image) × IsCrashImage disks before × SameBut touched before image
