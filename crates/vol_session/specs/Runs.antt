-- What a run leaves of a volume, from the first read of its devices on: the volume after a prefix of its commits, which may be run again.
use Rattle.std.specs.Prelude.{◌≡◌, ◌≢◌, ℕ, ◌+◌, ◌≤◌, All, Ok, List}
use Rattle.dev_model.specs.Devices.{DevicesState}
use Rattle.dev_model.specs.Disk.{Disk, Image, IsCrashImage}
use Rattle.forest_ops.specs.History.{History, after_commits, commit_count}
use Rattle.image_view.specs.Found.{Found, IsInOrder, MountsAs, found, volume_of}
use Rattle.key_meaning.specs.Tidy.{IsTidy}
use Rattle.replay.specs.Mending.{AreSessionsUntorn, IsInOrderOn, IsVolumeUntorn}
use Rattle.forest_ops.specs.Acknowledged.{acknowledged}
use Rattle.forest_ops.specs.declared.acks.Ack.{Ack}
use Rattle.vol_core.specs.Left.{AreLeaves, IsLeftAlone, IsSoundFound}
use Rattle.vol_core.specs.Room.{LeavesRoom}
use Rattle.vol_session.specs.Marks.{commits_found, forest_found}
use Rattle.vol_session.specs.Survivors.{IsAcknowledgedOnAll}

-- A volume may be run that is found on quiet disks: it is in order, sound and tidy, each of its btrees is one leaf, and no two records of its journal have one digest.
pub record MayRun (f : Found) (disks : List Disk) : Type 0 where
  pub on : IsInOrderOn f disks
  pub leaves : AreLeaves f
  pub sound : IsSoundFound f
  pub tidy : IsTidy f.trees.keys

-- What is found in an image is all that a run asks of it, but that the disks are quiet and digests differ.
pub record MayRunAgain (f : Found) (image : Image) : Type 0 where
  pub finds : found image ≡ Ok f
  pub in_order : IsInOrder f image
  pub leaves : AreLeaves f
  pub sound : IsSoundFound f
  pub tidy : IsTidy f.trees.keys

-- The image mounts as the volume after a prefix of the commits of the history, with all that was acknowledged by this moment, and may be run again. Up to the moment of an acknowledgement it
-- has none of the commits that were made after it. Where what was found left room in the ring of the journal, so does the image.
pub record IsPrefixOfRun (f : Found) (first : DevicesState) (trace : History) (acks : List Ack) (moment : ℕ) (image : Image) : Type 0 where
  pub left : Found
  pub again : MayRunAgain left image
  pub mounts : MountsAs image (volume_of image left)
  pub layout : left.layout ≡ f.layout
  pub count : ℕ
  pub commits : commits_found left ≡ commits_found f + count
  pub least : acknowledged acks moment ≤ count
  pub most : count ≤ commit_count (forest_found f first) trace
  pub none_later : All (λ (ack : Ack). moment ≤ ack.moment → count ≤ ack.commits) acks
  pub forest : (volume_of image left).forest ≡ after_commits (forest_found f first) trace count
  pub room : LeavesRoom f → LeavesRoom left

-- It is one of at most one session more than was found.
pub record IsOfNextSession (f : Found) (first : DevicesState) (trace : History) (acks : List Ack) (moment : ℕ) (image : Image) : Type 0 where
  pub prefix : IsPrefixOfRun f first trace acks moment image
  pub session : prefix.left.session ≤ f.session + 1

-- The image is the volume after such a prefix, and of at most one session more than was found, where no torn block of a session opens by chance. Once something was acknowledged, it stands whole
-- on every metadata device; and what is left of the image on each metadata device alone, whatever blocks of the journal and of nodes the others lose, is such a volume too, with all that was
-- acknowledged by this moment.
pub record IsLeftOfRun (f : Found) (first state : DevicesState) (trace : History) (acks : List Ack) (moment : ℕ) (image : Image) : Type 0 where
  pub prefix : IsPrefixOfRun f first trace acks moment image
  pub session : AreSessionsUntorn f.layout first.moment moment state image → prefix.left.session ≤ f.session + 1
  pub whole : acknowledged acks moment ≢ 0 → IsAcknowledgedOnAll f acks moment image
  pub alone : acknowledged acks moment ≢ 0 → (mirror : ℕ) (alone : Image) → IsLeftAlone f mirror image alone → IsOfNextSession f first trace acks moment alone

-- Whatever a crash has left at a moment since the run began is such an image, where no torn block of the journal areas or of the roots that were found opens by chance.
abbrev pub RunSurvives : Found → DevicesState → DevicesState → History → List Ack → Type 0
RunSurvives f first state trace acks =
    (moment : ℕ) → first.moment ≤ moment → moment ≤ state.moment → (image : Image) → IsCrashImage (state.disks moment) image → IsVolumeUntorn f first.moment moment state image
    → IsLeftOfRun f first state trace acks moment image
