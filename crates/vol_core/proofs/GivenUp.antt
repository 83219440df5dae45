-- The core stays safe where a leaf can't be frozen: where there is no free bucket, the buckets of those that were are free again.
use Rattle.std.proofs.Common.{◌≡◌, ◌+◌, ℕ, List, [], ◌∷◌, ◌++◌, map, Option, Some, None, refl, sym, ap, ◌∙◌}
use Rattle.std.proofs.lemmas.List.{append-nil}
use Rattle.std.specs.Prelude.{IfSome}
use Rattle.bucket_pool.specs.Space.{emptied_all, settled_space}
use Rattle.crash_safety.specs.KeptLeaves.{KeepsLeaves}
use Rattle.crash_safety.specs.CheckpointLeaves.{places_of_fresh}
use Rattle.crash_safety.specs.LeafSteps.{AreSameLeaves, given_up as given_up_leaves}
use Rattle.core_volume.specs.Checkpoints.{IsFreezeRefused, after_refused, given_up}
use Rattle.core_volume.specs.Volumes.{IsVolume, Volume, node_stage_of}
use Rattle.core_actors.specs.declared.answer.Refusal.{Refusal}
use Rattle.core_actors.specs.declared.answer.Refusal.TheVariants as refusals
use Rattle.dev_model.specs.Devices.{DevicesState}
use Rattle.journal_writer.specs.declared.stage.Stage.TheVariants.{Freeze}
use Rattle.image_view.specs.Found.{Found}
use Rattle.crash_safety.specs.Writings.{Writing}
use Rattle.node_writeback.specs.Placing.{fresh_places}
use Rattle.node_writeback.specs.NodeWork.{no_work}
use Rattle.node_writeback.specs.declared.node.FrozenNode.{FrozenNode}
use Rattle.node_writeback.specs.declared.node.UnfinishedNode.{UnfinishedNode}
use Rattle.vol_types.specs.Limits.{bucket_blocks}
use Rattle.vol_types.specs.declared.pointers.Place.{Place}
use Rattle.vol_core.specs.Safety.{IsCoreSafe}
use Rattle.vol_core.specs.VolumeLeaves.{fresh_leaf, fresh_leaves, leaves_in, leaves_left}
use Rattle.vol_core.specs.CoreLaws.{CoreLaws}
use Rattle.vol_core.proofs.NodeStages.{freezing_is, none_left}
use Rattle.vol_core.proofs.OtherLeaves.{NodesKnown, other_leaves_on, with_known}
use Rattle.vol_core.proofs.Placed.{flight_follows}

-- The places of frozen leaves are those of what is written of them.
places_are : (later : List (ℕ × ℕ)) (finished : List FrozenNode) → fresh_places finished ≡ places_of_fresh (map (fresh_leaf later bucket_blocks) finished)
places_are later [] = refl
places_are later (node ∷ finished) = ap (λ (places : List Place). node.fresh.places ++ places) (places_are later finished)

-- The entry that is written follows what was found.
writing_follows : (writing : Option Writing) (durable sealed last : ℕ) → last ≡ durable → IfSome writing (λ w. (w.next.entry.sequence ≡ durable + 1) × (w.next.entry.sequence ≡ sealed)) → IfSome writing (λ w. w.next.entry.sequence ≡ last + 1)
writing_follows None durable sealed last same follows = tt
writing_follows (Some w) durable sealed last same follows = follows.0 ∙ ap (λ (n : ℕ). n + 1) (sym same)

module _ (laws : CoreLaws) (begun : Found) (start : DevicesState) (old : Volume) (is : IsVolume old) (state : DevicesState) (kept : IsCoreSafe begun start state old) where
  module _ (node : ℕ) (stage : node_stage_of old ≡ Freeze node) where
    abbrev durable : ℕ
    durable = old.writer.durable.sequence

    abbrev known : NodesKnown
    known = record {
      nodes = old.trees.nodes;
      pins = old.pins;
      marks = old.marks;
      later = [];
      space = settled_space durable (emptied_all (fresh_places old.work.finished) durable old.space);
      work = no_work old.work.born;
      emptied = old.emptied;
      changes = old.changes;
    }

    all_whole : fresh_leaves old.later old.work ≡ map (fresh_leaf old.later bucket_blocks) old.work.finished
    all_whole =
        ap (λ (u : Option UnfinishedNode). map (fresh_leaf old.later bucket_blocks) old.work.finished ++ leaves_left old.later u) (none_left old.work.unfinished (freezing_is old node stage).0)
        ∙ append-nil (map (fresh_leaf old.later bucket_blocks) old.work.finished)

    leaves : KeepsLeaves kept.f kept.writing state (given_up_leaves kept.f.last.entry.sequence (leaves_in old))
    leaves = laws.leaves.gives_up kept.f kept.writing state (leaves_in old) kept.kept
        (writing_follows kept.writing durable _ kept.f.last.entry.sequence kept.known.sequence (flight_follows kept.f old.writer.flight kept.writing kept.asked kept.written old kept.flying is.in_turn.flying))

    same : AreSameLeaves (given_up_leaves kept.f.last.entry.sequence (leaves_in old)) (leaves_in (with_known known old))
    same = record {
      root = λ btree. refl;
      pin = λ btree. refl;
      fresh = refl;
      space = ap (λ (places : List Place). settled_space durable (emptied_all places durable old.space)) (places_are old.later old.work.finished ∙ ap places_of_fresh (sym all_whole))
          ∙ ap (λ (sequence : ℕ). settled_space sequence (emptied_all (places_of_fresh (fresh_leaves old.later old.work)) sequence old.space)) (sym kept.known.sequence);
    }

    -- The core stays safe where the work on nodes is given up.
    pub given_up_on : IsCoreSafe begun start state (given_up old)
    given_up_on = other_leaves_on begun start state old kept known kept.one (laws.entries.same kept.f kept.writing state _ _ leaves same)

  -- The core stays safe where a leaf isn't frozen.
  pub unfrozen_on : (node : ℕ) (refusal : Refusal) → IsFreezeRefused node old refusal → IsCoreSafe begun start state (after_refused refusal old)
  unfrozen_on node (refusals.Halted halt) why = kept
  unfrozen_on node refusals.Spent why = kept
  unfrozen_on node (refusals.NeedSplit need) why = kept
  unfrozen_on node (refusals.NoSpace none) why = given_up_on node why.0.stage_is
  unfrozen_on node (refusals.RingFull full) why = absurd why
