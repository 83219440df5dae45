-- A flush changes nothing that is read, and a crash leaves after it what it might have left before.
use Rattle.std.proofs.Common.{◌≡◌, ℕ, ◌+◌, Bool, true, false, List, get_or, refl, ap, ◌∙◌, sym, subst}
use Rattle.std.specs.Prelude.{All}
use Rattle.dev_model.specs.CrashDisks.{left_by_flush}
use Rattle.dev_model.specs.Devices.{DevicesState, now}
use Rattle.dev_model.specs.Disk.{Disk, Image, IsCrashImage, IsDisk, as_read, block_at}
use Rattle.dev_model.specs.FrameLaws.{stay_now}
use Rattle.dev_model.specs.Frames.{DisksStay}
use Rattle.dev_model.specs.PlaceLaws.{reads_flushed}
use Rattle.crash_safety.specs.Flushes.{Flushes}
use Rattle.node_store.specs.NodeContents.{NodeContent}
use Rattle.node_store.specs.declared.planning.Blocked.{Blocked}
use Rattle.vol_types.specs.declared.layout.Layout.{Layout}
use Rattle.vol_types.specs.declared.pointers.NodePtr.{NodePtr}
use Rattle.vol_types.specs.declared.positions.Btree.{Btree}
use Rattle.crash_safety.specs.LeafLaws.{leaf_stays}
use Rattle.crash_safety.specs.Leaves.{StandsAsLeaf}
use Rattle.crash_safety.specs.NodeParts.{StandParts}

module _ (dev : ℕ) (old new : DevicesState) where
  reads_stay : (done : Bool) → Flushes dev done old new → (d b : ℕ) → block_at (as_read (now new)) d b ≡ block_at (as_read (now old)) d b
  reads_stay true flush d b = ap (λ (ds : List Disk). block_at (as_read ds) d b) (flush.settles refl) ∙ reads_flushed (now old) dev d b
  reads_stay false flush d b = ap (λ (ds : List Disk). block_at (as_read ds) d b) (flush.fails refl)

  left_before : (done : Bool) → Flushes dev done old new → All IsDisk (now old) → (image : Image) → IsCrashImage (now new) image → IsCrashImage (now old) image
  left_before true flush are image may = left_by_flush (now old) dev are image (subst (λ (ds : List Disk). IsCrashImage ds image) (flush.settles refl) may)
  left_before false flush are image may = subst (λ (ds : List Disk). IsCrashImage ds image) (flush.fails refl) may

-- A leaf stands after it,
pub leaf_flushed : (dev : ℕ) (done : Bool) (layout : Layout) (session : ℕ) (btree : Btree) (root : NodePtr) (content : NodeContent) (old new : DevicesState) → Flushes dev done old new → All IsDisk (now old)
    → StandsAsLeaf layout session btree root content old → StandsAsLeaf layout session btree root content new
leaf_flushed dev done layout session btree root content old new flush are stands = leaf_stays layout session btree root content old new
    (λ k d lower n few. sym (reads_stay dev old new done flush _ _))
    (λ image may. stands.left image (left_before dev old new done flush are image may))
    stands

-- and so do the blocks of a new node.
pub parts_flushed : (dev : ℕ) (done : Bool) (blocked : Blocked) (count : ℕ) (old new : DevicesState) → Flushes dev done old new → StandParts blocked count old → StandParts blocked count new
parts_flushed dev done blocked count old new flush stand part less place there = reads_stay dev old new done flush _ _ ∙ stand part less place there

-- They stand where the disks stay.
pub leaf_read : (layout : Layout) (session : ℕ) (btree : Btree) (root : NodePtr) (content : NodeContent) (old new : DevicesState) → DisksStay old new → StandsAsLeaf layout session btree root content old → StandsAsLeaf layout session btree root content new
leaf_read layout session btree root content old new stay stands =
    let same : now new ≡ now old = stay_now old new stay in
    leaf_stays layout session btree root content old new
    (λ k d lower n few. ap (λ (ds : List Disk). block_at (as_read ds) (get_or root.places k d).dev ((get_or root.places k d).block + n)) (sym same))
    (λ image may. stands.left image (subst (λ (ds : List Disk). IsCrashImage ds image) same may))
    stands

pub parts_read : (blocked : Blocked) (count : ℕ) (old new : DevicesState) → DisksStay old new → StandParts blocked count old → StandParts blocked count new
parts_read blocked count old new stay stand part less place there = ap (λ (ds : List Disk). block_at (as_read ds) place.dev (place.block + (blocked.block + part))) (stay_now old new stay) ∙ stand part less place there
