-- Where no torn block opens by chance: so it is seen from an earlier state, since a later moment, and of what was read meanwhile.
use Rattle.std.proofs.Common.{ℕ, ◌+◌, ◌<◌, ◌≤◌, List, subst, arith}
use Rattle.dev_model.specs.Devices.{DevicesState, now}
use Rattle.dev_model.specs.Disk.{Disk, Image, as_read}
use Rattle.dev_model.specs.HeldBlocks.{HasNoChanceMatch, OnlyHeldOpensAt}
use Rattle.dev_model.specs.HeldLaws.{no_chance_before}
use Rattle.image_view.specs.CrashEntries.{OnlyHeldEntriesOpen, opens}
use Rattle.image_view.specs.Found.{Found, with_session}
use Rattle.vol_types.specs.declared.layout.Layout.{Layout}
use Rattle.replay.specs.Mending.{IsUntorn, IsVolumeUntorn, KeepsPast}
use Rattle.replay.specs.Roots.{IsRootBlock}

-- ---- at one place

-- What is said up to a moment by a later state is said by an earlier one up to each moment of its own.
chance_before : (dev block first until moment : ℕ) (old new : DevicesState) → KeepsPast old new → moment ≤ until → moment ≤ old.moment → HasNoChanceMatch opens dev block first until new → HasNoChanceMatch opens dev block first moment old
chance_before dev block first until moment old new past up before none = no_chance_before opens dev block first until old new past moment up before none

chance_since : (dev block first since until : ℕ) (state : DevicesState) → first ≤ since → HasNoChanceMatch opens dev block first until state → HasNoChanceMatch opens dev block since until state
chance_since dev block first since until state later none m from to = none m (omega (arith, later, from)) to

-- ---- in the journal areas

-- So it is seen from an earlier state, at a moment up to its own.
pub untorn_before : (layout : Layout) (first moment : ℕ) (old new : DevicesState) (image : Image) → KeepsPast old new → moment ≤ old.moment → IsUntorn layout first moment new image → IsUntorn layout first moment old image
untorn_before layout first moment old new image past before untorn = record {
  reads = λ dev place mirror within. chance_before dev (16 + place) first moment moment old new past (omega arith) before (untorn.reads dev place mirror within);
  left = subst (λ (disks : List Disk). OnlyHeldEntriesOpen layout disks image) (past moment before) untorn.left;
}

-- So it is since a later first moment.
pub untorn_since : (layout : Layout) (first since moment : ℕ) (state : DevicesState) (image : Image) → first ≤ since → IsUntorn layout first moment state image → IsUntorn layout since moment state image
untorn_since layout first since moment state image later untorn = record {
  reads = λ dev place mirror within. chance_since dev (16 + place) first since moment state later (untorn.reads dev place mirror within);
  left = untorn.left;
}

-- So it is of what was read at the moment of an earlier state.
pub untorn_read : (layout : Layout) (first moment : ℕ) (old new : DevicesState) (image : Image) → KeepsPast old new → first ≤ old.moment → old.moment ≤ moment → IsUntorn layout first moment new image
    → IsUntorn layout first old.moment old (as_read (now old))
untorn_read layout first moment old new image past begins until untorn =
    let read : (dev place : ℕ) → dev < layout.metadata_replicas → place < layout.journal → HasNoChanceMatch opens dev (16 + place) first old.moment old =
    λ dev place mirror within. chance_before dev (16 + place) first moment old.moment old new past until (omega arith) (untorn.reads dev place mirror within) in
    record {
      reads = read;
      left = λ dev place mirror within. read dev place mirror within old.moment begins (omega arith);
    }

-- ---- in the buckets of the roots too

pub volume_untorn_before : (f : Found) (first moment : ℕ) (old new : DevicesState) (image : Image) → KeepsPast old new → moment ≤ old.moment → IsVolumeUntorn f first moment new image → IsVolumeUntorn f first moment old image
volume_untorn_before f first moment old new image past before untorn = record {
  journal = untorn_before f.layout first moment old new image past before untorn.journal;
  root_reads = λ dev block at. chance_before dev block first moment moment old new past (omega arith) before (untorn.root_reads dev block at);
  roots_left = λ dev block at. subst (λ (disks : List Disk). OnlyHeldOpensAt opens disks image dev block) (past moment before) (untorn.roots_left dev block at);
}

pub volume_untorn_since : (f : Found) (first since moment : ℕ) (state : DevicesState) (image : Image) → first ≤ since → IsVolumeUntorn f first moment state image → IsVolumeUntorn f since moment state image
volume_untorn_since f first since moment state image later untorn = record {
  journal = untorn_since f.layout first since moment state image later untorn.journal;
  root_reads = λ dev block at. chance_since dev block first since moment state later (untorn.root_reads dev block at);
  roots_left = untorn.roots_left;
}

pub volume_untorn_read : (f : Found) (first moment : ℕ) (old new : DevicesState) (image : Image) → KeepsPast old new → first ≤ old.moment → old.moment ≤ moment → IsVolumeUntorn f first moment new image
    → IsVolumeUntorn f first old.moment old (as_read (now old))
volume_untorn_read f first moment old new image past begins until untorn =
    let read : (dev block : ℕ) → IsRootBlock f dev block → HasNoChanceMatch opens dev block first old.moment old =
    λ dev block at. chance_before dev block first moment old.moment old new past until (omega arith) (untorn.root_reads dev block at) in
    record {
      journal = untorn_read f.layout first moment old new image past begins until untorn.journal;
      root_reads = read;
      roots_left = λ dev block at. read dev block at old.moment begins (omega arith);
    }

-- It is so of what was found in whichever session.
pub volume_untorn_in_session : (f : Found) (session first moment : ℕ) (state : DevicesState) (image : Image) → IsVolumeUntorn f first moment state image → IsVolumeUntorn (with_session session f) first moment state image
volume_untorn_in_session f session first moment state image untorn = record {
  journal = untorn.journal;
  root_reads = λ dev block at. untorn.root_reads dev block (record { root = at.root; one = at.one; of_root = at.of_root });
  roots_left = λ dev block at. untorn.roots_left dev block (record { root = at.root; one = at.one; of_root = at.of_root });
}
