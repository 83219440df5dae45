-- What is kept of a volume and its actors stays so where nodes are written anew.
use Rattle.std.proofs.Common.{◌≡◌, ℕ, Bool, true, false, cond, Option, Some, None, length, take, refl, sym, ap, ◌∙◌, subst}
use Rattle.std.specs.Prelude.{◌≢◌, ◌==◌, Contains, IfSome, IsSome}
use Rattle.std.proofs.lemmas.Bool.{true≢false}
use Rattle.btree_map.specs.Trees.{keys_in}
use Rattle.dev_model.specs.Devices.{DevicesState}
use Rattle.journal_writer.specs.Writers.{first_flag, flush_before}
use Rattle.journal_writer.specs.declared.stage.Stage.{Stage}
use Rattle.journal_writer.specs.declared.stage.Stage.TheVariants.{CommitNodes, Freeze, Rest, WriteSet}
use Rattle.node_store.specs.declared.fault.NodeFault.{NodeFault}
use Rattle.node_store.specs.declared.fault.NodeFault.TheVariants as faults
use Rattle.node_writeback.specs.NodeWork.{birth_left}
use Rattle.node_writeback.specs.NodeWrites.{WritesNodePart}
use Rattle.node_writeback.specs.declared.node.UnfinishedNode.{UnfinishedNode}
use Rattle.vol_types.specs.KeyMaps.{GivesLooks, KeyMap}
use Rattle.vol_types.specs.declared.layout.Layout.{Layout}
use Rattle.vol_types.specs.declared.pointers.Place.{Place}
use Rattle.core_volume.specs.Checkpoints.{IsOtherNodeStage, IsUnfrozen, after_refused}
use Rattle.core_volume.specs.Commits.{AreIntended}
use Rattle.core_actors.specs.Actors.{noted as noted_by}
use Rattle.core_state.specs.Devices.{WritesNode}
use Rattle.core_state.specs.Events.{CommitNodesGives, FreezeGives, IsNoted, IsToldNodes, WriteSetGives}
use Rattle.core_state.specs.States.{IsState, State, mine, with_mine}
use Rattle.core_actors.specs.declared.answer.Answer.{Answer}
use Rattle.core_actors.specs.declared.answer.Answer.TheVariants as answers
use Rattle.core_volume.specs.declared.commit.VolumeFault.{VolumeFault}
use Rattle.core_volume.specs.declared.commit.VolumeFault.TheVariants as volume_faults
use Rattle.core_volume.specs.Volumes.{IsVolume, Volume, birth_due, node_stage_by, node_stage_of}
use Rattle.core_actors.specs.declared.answer.Refusal.{Refusal}
use Rattle.core_actors.specs.declared.answer.Refusal.TheVariants as refusals

-- The nodes change, and no keys: what is kept of all actors stays.
pub nodes-kept : (old : State) → IsState old → (volume : Volume) → IsVolume volume → keys_in volume.trees ≡ keys_in old.volume.trees → volume.layout ≡ old.volume.layout → IsState (record { volume = volume; actors = old.actors; turn = old.turn })
nodes-kept old is volume sound keys layout = record {
  volume = sound;
  count = is.count;
  holder = is.holder;
  each = λ number. record {
    has_turn = (is.each number).has_turn;
    looks = subst (λ (k : KeyMap). GivesLooks k (mine old number).looks) (sym keys) (is.each number).looks;
    intended = subst (λ (l : Layout). IfSome (mine old number).intended (AreIntended l.metadata_replicas)) (sym layout) (is.each number).intended;
  };
}

-- What a refusal makes of a volume leaves its keys and its layout.
pub refused-keys : (refusal : Refusal) (volume : Volume) → keys_in (after_refused refusal volume).trees ≡ keys_in volume.trees
refused-keys (refusals.NoSpace none) volume = refl
refused-keys (refusals.Halted halt) volume = refl
refused-keys refusals.Spent volume = refl
refused-keys (refusals.NeedSplit need) volume = refl
refused-keys (refusals.RingFull full) volume = refl

pub refused-layout : (refusal : Refusal) (volume : Volume) → (after_refused refusal volume).layout ≡ volume.layout
refused-layout (refusals.NoSpace none) volume = refl
refused-layout (refusals.Halted halt) volume = refl
refused-layout refusals.Spent volume = refl
refused-layout (refusals.NeedSplit need) volume = refl
refused-layout (refusals.RingFull full) volume = refl

-- What an actor is told where an event isn't the stage of the nodes.
pub freeze-told : (node : ℕ) (old new : State) (actor : ℕ) (answer : Answer) → IsOtherNodeStage (Freeze node) old.volume → IsToldNodes old actor answer new → FreezeGives node old actor answer new
freeze-told node old new actor answer other told = subst (λ (a : Answer). FreezeGives node old actor a new) (sym told.0) (other, (refl, told.1))

pub write_set-told : (node tick : ℕ) (old new : State) (actor : ℕ) (answer : Answer) → IsOtherNodeStage (WriteSet node) old.volume → IsToldNodes old actor answer new → WriteSetGives node tick old actor answer new
write_set-told node tick old new actor answer other told = subst (λ (a : Answer). WriteSetGives node tick old actor a new) (sym told.0) (other, (refl, told.1))

pub commit_nodes-told : (old new : State) (actor : ℕ) (answer : Answer) → IsOtherNodeStage CommitNodes old.volume → IsToldNodes old actor answer new → CommitNodesGives old actor answer new
commit_nodes-told old new actor answer other told = subst (λ (a : Answer). CommitNodesGives old actor a new) (sym told.0) (other, (refl, told.1))

-- Why a leaf wasn't frozen is noted.
pub freeze-noted : (node : ℕ) (seen old : State) (volume : Volume) (actor : ℕ) (refusal : Refusal) (answer : Answer) (new : State) → old ≡ seen → IsUnfrozen node old.volume volume (volume_faults.Refused refusal) → answer ≡ answers.Refused refusal
    → IsNoted refusal (record { volume = volume; actors = old.actors; turn = old.turn }) actor new → FreezeGives node seen actor answer new
freeze-noted node seen old volume actor refusal answer new same unfrozen answered noted =
    subst (λ (s : State). FreezeGives node s actor answer new) same
    (subst (λ (a : Answer). FreezeGives node old actor a new) (sym answered)
    (unfrozen.0, noted ∙ (λ i. with_mine actor (noted_by refusal (mine old actor)) (record { volume = unfrozen.1 i; actors = old.actors; turn = old.turn }))))

-- What a refusal makes of a volume keeps what is kept of actors.
pub refused-kept : (node : ℕ) (old : State) → IsState old → (volume : Volume) → IsVolume volume → (why : VolumeFault) (refusal : Refusal) → why ≡ volume_faults.Refused refusal → IsUnfrozen node old.volume volume why
    → IsState (record { volume = volume; actors = old.actors; turn = old.turn })
refused-kept node old is volume sound why refusal refused unfrozen =
    let so : IsUnfrozen node old.volume volume (volume_faults.Refused refusal) = subst (IsUnfrozen node old.volume volume) refused unfrozen in
    nodes-kept old is volume sound (ap (λ (v : Volume). keys_in v.trees) so.1 ∙ refused-keys refusal old.volume) (ap (λ (v : Volume). v.layout) so.1 ∙ refused-layout refusal old.volume)

-- Blocks are left of a node whose next block is to be written.
flush_is_other : (flag : Option ℕ) (stage : Stage) (node : ℕ) → stage ≢ WriteSet node → flush_before flag stage ≢ WriteSet node
flush_is_other None stage node other = other
flush_is_other (Some dev) stage node other = λ same. cc

rest_is_other : (b : Bool) (stage : Stage) (node : ℕ) → stage ≢ WriteSet node → cond b Rest stage ≢ WriteSet node
rest_is_other true stage node other = λ same. cc
rest_is_other false stage node other = other

pub some-left : (volume : Volume) (node : ℕ) → node_stage_of volume ≡ WriteSet node → IsSome volume.work.unfinished
some-left volume node is = by volume.work.unfinished (birth_due volume) is
  where
    commit_is_other : CommitNodes ≢ WriteSet node
    commit_is_other same = cc

    by : (o : Option UnfinishedNode) (due : Option ℕ) → node_stage_by (birth_left o) due volume ≡ WriteSet node → IsSome o
    by (Some unfinished) due same = refl
    by None (Some birth) same = absurd cc
    by None None same =
        absurd (rest_is_other (length volume.work.finished == 0) _ node (flush_is_other (first_flag 0 (take volume.writer.ring.mirrors volume.writer.unsettled)) CommitNodes node commit_is_other) same)

-- What was written of a node is told of the devices, and which of them failed.
pub block-told : (tells : Type 0) (o : Option UnfinishedNode) (old new : DevicesState) → IsSome o → IfSome o (λ unfinished. WritesNodePart tells unfinished.node.blocked unfinished.written None old new) → WritesNode tells o answers.Done old new
block-told tells None old new some writes = absurd (true≢false (sym some))
block-told tells (Some unfinished) old new some writes = writes

pub fault-told : (tells : Type 0) (o : Option UnfinishedNode) (old new : DevicesState) (dev : ℕ) (answer : Answer) → IsSome o → answer ≡ answers.DeviceFault dev
    → IfSome o (λ unfinished. WritesNodePart tells unfinished.node.blocked unfinished.written (Some dev) old new) → WritesNode tells o answer old new
fault-told tells o old new dev answer some answered writes = subst (λ (a : Answer). WritesNode tells o a old new) (sym answered) (by o some writes)
  where
    by : (o : Option UnfinishedNode) → IsSome o → IfSome o (λ unfinished. WritesNodePart tells unfinished.node.blocked unfinished.written (Some dev) old new) → WritesNode tells o (answers.DeviceFault dev) old new
    by None some writes = absurd (true≢false (sym some))
    by (Some unfinished) some writes = writes

-- With an answer that tells a stage or refuses, no device was called.
pub none-called-at : (tells : Type 0) (o : Option UnfinishedNode) (state : DevicesState) (stage : Stage) (durable : Bool) → WritesNode tells o (answers.At stage durable) state state
none-called-at tells None state stage durable = refl
none-called-at tells (Some unfinished) state stage durable = refl

pub none-called-refused : (tells : Type 0) (o : Option UnfinishedNode) (state : DevicesState) (refusal : Refusal) → WritesNode tells o (answers.Refused refusal) state state
none-called-refused tells None state refusal = refl
none-called-refused tells (Some unfinished) state refusal = refl

-- A fault names a device of the node.
abbrev pub NamesDevice : Option UnfinishedNode → NodeFault → Type 0
NamesDevice o fault = IfSome o (λ unfinished. (place : Place) × Contains unfinished.node.blocked.places place × (fault ≡ faults.DeviceFault place.dev))

-- So it is no other one.
pub no_bad_node : (o : Option UnfinishedNode) (fault : NodeFault) (bad : Place) → IsSome o → NamesDevice o fault → fault ≡ faults.BadNode bad → ⊥
no_bad_node None fault bad some named is = true≢false (sym some)
no_bad_node (Some unfinished) fault bad some named is = other named.0.dev (sym is ∙ named.2)
  where
    other : (dev : ℕ) → faults.BadNode bad ≡ faults.DeviceFault dev → ⊥
    other dev same = cc

pub no_want_of_memory : (o : Option UnfinishedNode) (fault : NodeFault) → IsSome o → NamesDevice o fault → fault ≡ faults.NoMemory → ⊥
no_want_of_memory None fault some named is = true≢false (sym some)
no_want_of_memory (Some unfinished) fault some named is = other named.0.dev (sym is ∙ named.2)
  where
    other : (dev : ℕ) → faults.NoMemory ≡ faults.DeviceFault dev → ⊥
    other dev same = cc
