-- A node stands on the devices still where its buckets stay.
use Rattle.std.proofs.Common.{◌≡◌, ℕ, ◌+◌, Bool, true, false, List, get_or, refl, sym, ap, subst, ◌∙◌}
use Rattle.std.specs.Prelude.{All}
use Rattle.dev_model.specs.CrashDisks.{left_by_flush}
use Rattle.dev_model.specs.Devices.{DevicesState, now}
use Rattle.dev_model.specs.Disk.{Disk, Image, IsCrashImage, IsDisk, as_read, block_at}
use Rattle.dev_model.specs.FrameLaws.{stay_now}
use Rattle.dev_model.specs.Frames.{DisksStay}
use Rattle.dev_model.specs.PlaceLaws.{reads_flushed}
use Rattle.image_view.specs.BaseLaws.{copies-same}
use Rattle.node_store.specs.Answers.{AgreeOn, AreAlike}
use Rattle.vol_types.specs.declared.layout.Layout.{Layout}
use Rattle.vol_types.specs.declared.pointers.NodePtr.{NodePtr}
use Rattle.crash_safety.specs.Flushes.{Flushes}
use Rattle.btree_safety.specs.StandingNodes.{StandsOnDevices}
use Rattle.btree_safety.specs.StayingNodes.{StaysAsRead}

-- It stands still.
pub node_stays : (layout : Layout) (session end : ℕ) (old new : DevicesState) (node : NodePtr) → StaysAsRead old new node → StandsOnDevices layout session end old node → StandsOnDevices layout session end new node
node_stays layout session end old new node stays stands = record {
  mirrored = stands.mirrored;
  alike = subst (AreAlike end) (sym (copies-same (as_read (now old)) (as_read (now new)) node.places stays.read)) stands.alike;
  agree = subst (AgreeOn layout.id node.birth) (sym (copies-same (as_read (now old)) (as_read (now new)) node.places stays.read)) stands.agree;
  born = stands.born;
  placed = stands.placed;
  left = λ image may k d lower n few.
      let before = stays.left image may in
      sym (stays.read k d lower n few) ∙ stands.left before.0 before.1 k d lower n few ∙ before.2 k d lower n few;
}

-- Buckets stay where nothing happens, and after one thing and another.
pub stays_here : (state : DevicesState) (node : NodePtr) → StaysAsRead state state node
stays_here state node = record { read = λ k d lower n few. refl; left = λ image may. (image, may, λ k d lower n few. refl) }

pub stays_then : (old mid new : DevicesState) (node : NodePtr) → StaysAsRead old mid node → StaysAsRead mid new node → StaysAsRead old new node
stays_then old mid new node first second = record {
  read = λ k d lower n few. first.read k d lower n few ∙ second.read k d lower n few;
  left = λ image may.
      let later = second.left image may in
      let before = first.left later.0 later.1 in
      (before.0, before.1, λ k d lower n few. before.2 k d lower n few ∙ later.2 k d lower n few);
}

-- They stay where disks do,
pub stays_read : (old new : DevicesState) (node : NodePtr) → DisksStay old new → StaysAsRead old new node
stays_read old new node stay = record {
  read = λ k d lower n few. ap (λ (ds : List Disk). block_at (as_read ds) (get_or node.places k d).dev ((get_or node.places k d).block + n)) (sym (stay_now old new stay));
  left = λ image may. (image, subst (λ (ds : List Disk). IsCrashImage ds image) (stay_now old new stay) may, λ k d lower n few. refl);
}

module _ (dev : ℕ) (old new : DevicesState) where
  flushed_reads : (done : Bool) → Flushes dev done old new → (d b : ℕ) → block_at (as_read (now new)) d b ≡ block_at (as_read (now old)) d b
  flushed_reads true flush d b = ap (λ (ds : List Disk). block_at (as_read ds) d b) (flush.settles refl) ∙ reads_flushed (now old) dev d b
  flushed_reads false flush d b = ap (λ (ds : List Disk). block_at (as_read ds) d b) (flush.fails refl)

  left_before : (done : Bool) → Flushes dev done old new → All IsDisk (now old) → (image : Image) → IsCrashImage (now new) image → IsCrashImage (now old) image
  left_before true flush are image may = left_by_flush (now old) dev are image (subst (λ (ds : List Disk). IsCrashImage ds image) (flush.settles refl) may)
  left_before false flush are image may = subst (λ (ds : List Disk). IsCrashImage ds image) (flush.fails refl) may

-- and while a device is flushed.
pub stays_flushed : (dev : ℕ) (done : Bool) (old new : DevicesState) (node : NodePtr) → Flushes dev done old new → All IsDisk (now old) → StaysAsRead old new node
stays_flushed dev done old new node flush are = record {
  read = λ k d lower n few. sym (flushed_reads dev old new done flush _ _);
  left = λ image may. (image, left_before dev old new done flush are image may, λ k d lower n few. refl);
}
