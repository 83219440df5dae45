-- What a crash leaves of a session: the volume after a prefix of its commits, with all that was acknowledged by then.
use Rattle.std.specs.Prelude.{◌≡◌, ℕ, ◌+◌, ◌<◌, ◌≤◌, All, Ok, List, length, slice_index_or}
use Rattle.dev_model.specs.Devices.{DevicesState, now}
use Rattle.dev_model.specs.Disk.{Image, IsCrashImage}
use Rattle.forest_ops.specs.History.{History, after_commits, commit_count}
use Rattle.image_view.specs.Found.{Found, IsInOrder, found, read_in}
use Rattle.key_meaning.specs.Forest.{forest_in}
use Rattle.key_meaning.specs.Tidy.{IsTidy}
use Rattle.replay.specs.Mending.{IsUntorn, StandsOnAll}
use Rattle.forest_ops.specs.Acknowledged.{acknowledged}
use Rattle.forest_ops.specs.declared.acks.Ack.{Ack}
use Rattle.vol_core.specs.Left.{AreLeaves, IsLeftAlone, IsSoundFound}
use Rattle.vol_core.specs.Room.{LeavesRoom}
use Rattle.vol_core.specs.Safety.{MayBegin}
use Rattle.vol_session.specs.Marks.{commits_found, forest_found}

-- A session may begin with what was found, and that is sound and tidy.
pub record BeginsWell (begun : Found) (start : DevicesState) : Type 0 where
  pub may_begin : MayBegin begun (now start)
  pub sound : IsSoundFound begun
  pub tidy : IsTidy begun.trees.keys

-- Each entry that one needs by which all was durable that was acknowledged by this moment, as some image means it, stands whole on every metadata device of the image.
pub record IsAcknowledgedOnAll (begun : Found) (acks : List Ack) (moment : ℕ) (image : Image) : Type 0 where
  pub read : Image
  pub durable : Found
  pub finds : found read ≡ Ok durable
  pub had : commits_found begun + acknowledged acks moment ≤ durable.last.entry.commits
  pub whole : (index : ℕ) → index < length durable.needed → StandsOnAll begun.layout image (slice_index_or durable.needed index durable.last)

-- The image mounts as the volume after a prefix of the commits of the history, in the layout and the session that began, with all that was acknowledged by this
-- moment, and up to the moment of an acknowledgement none of the commits that were made after it: it is in order, sound and tidy, and each of its btrees is one leaf, so that it can be opened
-- again; and it leaves room in the ring where what was found did.
pub record HasSurvived (begun : Found) (start : DevicesState) (trace : History) (acks : List Ack) (moment : ℕ) (image : Image) : Type 0 where
  pub base : Found
  pub finds : found image ≡ Ok base
  pub in_order : IsInOrder base image
  pub layout : base.layout ≡ begun.layout
  pub session : base.session ≡ begun.session
  pub leaves : AreLeaves base
  pub sound : IsSoundFound base
  pub tidy : IsTidy base.trees.keys
  pub room : LeavesRoom begun → LeavesRoom base
  pub count : ℕ
  pub commits : base.last.entry.commits ≡ commits_found begun + count
  pub least : acknowledged acks moment ≤ count
  pub most : count ≤ commit_count (forest_found begun start) trace
  pub none_later : All (λ (ack : Ack). moment ≤ ack.moment → count ≤ ack.commits) acks
  pub forest : forest_in base.trees.keys (read_in image) ≡ after_commits (forest_found begun start) trace count

-- The image has survived so, and so has what is left of it on each metadata device alone; and what was acknowledged stands whole on every metadata device.
pub record HasSurvivedOnEach (begun : Found) (start : DevicesState) (trace : History) (acks : List Ack) (moment : ℕ) (image : Image) : Type 0 where
  pub itself : HasSurvived begun start trace acks moment image
  pub alone : (mirror : ℕ) (alone : Image) → IsLeftAlone begun mirror image alone → HasSurvived begun start trace acks moment alone
  pub whole : IsAcknowledgedOnAll begun acks moment image

-- Whatever a crash has left at a moment since the session began is such an image, where no torn block of the journal areas opens by chance.
abbrev pub Survive : Found → DevicesState → DevicesState → History → List Ack → Type 0
Survive begun start state trace acks =
    (moment : ℕ) → start.moment ≤ moment → moment ≤ state.moment → (image : Image) → IsCrashImage (state.disks moment) image → IsUntorn begun.layout start.moment moment state image
    → HasSurvivedOnEach begun start trace acks moment image
