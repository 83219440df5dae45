-- The core stays safe where the next block of a frozen leaf is written, or a device fails meanwhile.
use Rattle.std.proofs.Common.{◌≡◌, ◌≢◌, ◌⊎◌, ◌+◌, ℕ, Bool, true, false, cond, List, [], ◌∷◌, ◌++◌, map, Option, Some, None, refl, sym, ap, subst, ◌∙◌, ⊎_elim, arith}
use Rattle.std.proofs.lemmas.Bool.Decides.{eqb_tells}
use Rattle.std.proofs.lemmas.List.{append-nil, map-append}
use Rattle.std.specs.Prelude.{◌==◌, All, IfSome}
use Rattle.crash_safety.specs.KeptLeaves.{KeepsLeaves}
use Rattle.crash_safety.specs.CheckpointLeaves.{FreshLeaf}
use Rattle.crash_safety.specs.LeafSteps.{AreSameLeaves, with_last}
use Rattle.core_volume.specs.Volumes.{IsVolume, Volume}
use Rattle.dev_model.specs.Devices.{DevicesState, now}
use Rattle.dev_model.specs.Disk.{IsDisk}
use Rattle.journal_writer.specs.Writers.{unsettled_by, with_flags}
use Rattle.crash_safety.specs.Flushes.{AreFlushed}
use Rattle.crash_safety.specs.Safety.{IsJournalSafe, IsSafe}
use Rattle.crash_safety.specs.Parts.{standing_by}
use Rattle.image_view.specs.Found.{Found}
use Rattle.crash_safety.specs.NodeParts.{IsNodePartWritten}
use Rattle.node_writeback.specs.NodeWork.{IsUnfinished, NodeWork, advanced, with_part}
use Rattle.node_writeback.specs.declared.node.UnfinishedNode.{UnfinishedNode}
use Rattle.vol_types.specs.Limits.{bucket_blocks}
use Rattle.vol_core.specs.Safety.{IsCoreSafe}
use Rattle.vol_core.specs.VolumeLeaves.{fresh_leaf, fresh_leaves, leaves_in, leaves_left}
use Rattle.vol_core.specs.CoreLaws.{CoreLaws}
use Rattle.vol_core.proofs.KnownParts.{flies_also, known_also}
use Rattle.core_volume.specs.Volumes.{KeepParts}
use Rattle.vol_core.proofs.Written.{flags_stay, past_later}

-- the work on nodes after a block was written, or a device failed
abbrev pub work_by : Option ℕ → NodeWork → NodeWork
work_by None work = with_part work
work_by (Some dev) work = work

-- the volume then: the metadata devices were written to
abbrev pub with_block_by : Option ℕ → Volume → Volume
with_block_by failed volume = record volume { writer = unsettled_by volume.writer; work = work_by failed volume.work }

module _ (later : List (ℕ × ℕ)) (work : NodeWork) (unfinished : UnfinishedNode) where
  abbrev earlier : List FreshLeaf
  earlier = map (fresh_leaf later bucket_blocks) work.finished

  -- One more block of the last leaf stands; it is finished after its last one.
  advanced_leaves : fresh_leaves later (advanced unfinished work) ≡ earlier ++ fresh_leaf later (unfinished.written + 1) unfinished.node ∷ []
  advanced_leaves = by (unfinished.written + 1 == bucket_blocks) (eqb_tells (unfinished.written + 1) bucket_blocks)
    where
      by : (b : Bool) → ((b ≡ true) × (unfinished.written + 1 ≡ bucket_blocks)) ⊎ ((b ≡ false) × (unfinished.written + 1 ≢ bucket_blocks))
          → fresh_leaves later (cond b (record { finished = work.finished ++ unfinished.node ∷ []; unfinished = None; born = work.born }) (record { finished = work.finished; unfinished = Some (record { node = unfinished.node; written = unfinished.written + 1 }); born = work.born }))
          ≡ earlier ++ fresh_leaf later (unfinished.written + 1) unfinished.node ∷ []
      by true tells = ⊎_elim
          (λ whole. append-nil (map (fresh_leaf later bucket_blocks) (work.finished ++ unfinished.node ∷ [])) ∙ map-append (fresh_leaf later bucket_blocks) work.finished (unfinished.node ∷ []) ∙ ap (λ (written : ℕ). earlier ++ fresh_leaf later written unfinished.node ∷ []) (sym whole.1))
          (λ part. let no : true ≡ false = part.0 in absurd cc)
          tells
      by false tells = refl

  -- So the leaves are those before with this one after.
  leaves_after : (failed : Option ℕ) → work.unfinished ≡ Some unfinished → fresh_leaves later (work_by failed work) ≡ earlier ++ fresh_leaf later (standing_by failed unfinished.written) unfinished.node ∷ []
  leaves_after None left = ap (λ (u : Option UnfinishedNode). fresh_leaves later (with_part (record work { unfinished = u }))) left ∙ advanced_leaves
  leaves_after (Some dev) left = ap (λ (u : Option UnfinishedNode). earlier ++ leaves_left later u) left

module _ (laws : CoreLaws) (begun : Found) (start : DevicesState) (volume : Volume) (is : IsVolume volume) (parts : KeepParts volume) (old new : DevicesState) (kept : IsCoreSafe begun start old volume) (disks : All IsDisk (now new)) where
  module _ (failed : Option ℕ) (unfinished : UnfinishedNode) (left : volume.work.unfinished ≡ Some unfinished) (part : IsNodePartWritten unfinished.node.blocked unfinished.written failed old new) where
    abbrev last : FreshLeaf
    last = fresh_leaf volume.later unfinished.written unfinished.node

    abbrev before : List FreshLeaf
    before = map (fresh_leaf volume.later bucket_blocks) volume.work.finished

    unfinished_is : IsUnfinished unfinished
    unfinished_is = subst (λ (u : Option UnfinishedNode). IfSome u IsUnfinished) left parts.work.unfinished

    written : IsJournalSafe kept.f kept.image kept.writing kept.asked kept.written kept.bases kept.durable start.moment new
        × KeepsLeaves kept.f kept.writing new (with_last before last (standing_by failed unfinished.written) (leaves_in volume))
    written = laws.leaves.writes kept.f kept.image kept.writing kept.asked kept.written kept.bases kept.durable start.moment old new (leaves_in volume) before last failed kept.safe kept.kept
        (ap (λ (u : Option UnfinishedNode). before ++ leaves_left volume.later u) left) unfinished_is.left part disks

    same : AreSameLeaves (with_last before last (standing_by failed unfinished.written) (leaves_in volume)) (leaves_in (with_block_by failed volume))
    same = record { root = λ btree. refl; pin = λ btree. refl; fresh = leaves_after volume.later volume.work unfinished failed left; space = refl }

    -- Whatever a crash leaves then means one of the bases from before.
    pub block_safe : IsSafe kept.f.layout kept.bases kept.durable start.moment new
    block_safe = written.0.safe

    -- A block is written, or a device failed.
    pub block_written_on : IsCoreSafe begun start new (with_block_by failed volume)
    block_written_on =
        let after : Volume = with_block_by failed volume in
        record {
          f = kept.f;
          image = kept.image;
          writing = kept.writing;
          asked = kept.asked;
          written = kept.written;
          bases = kept.bases;
          durable = kept.durable;
          safe = written.0;
          begins = kept.begins;
          chain = kept.chain;
          past = past_later kept.durable old.moment new.moment part.at.crashes.later kept.past;
          flushed = subst (λ (m : ℕ). AreFlushed volume.layout.metadata_replicas (with_flags m volume.writer.unsettled) (now new)) (sym is.ring.mirrors) (laws.flags.writes volume.layout.metadata_replicas volume.writer.unsettled (now new));
          flags = let some_flags = kept.flags in let stay = flags_stay volume.writer.ring.mirrors volume.writer.unsettled in omega (arith, some_flags, stay);
          known = known_also kept.f volume after kept.known refl refl refl;
          starts = kept.starts;
          first = kept.first;
          lead = kept.lead;
          leaves = kept.leaves;
          one = kept.one;
          kept = laws.entries.same kept.f kept.writing new _ _ written.1 same;
          flying = flies_also kept.f volume.writer.flight kept.writing kept.asked kept.written volume after kept.flying refl refl;
        }
