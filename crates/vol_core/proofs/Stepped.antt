-- The core stays safe whatever event an actor makes.
use Rattle.std.proofs.Common.{◌≡◌, ℕ, List, [], Bool, true, false, Option, Some, None, Result, Ok, Err, refl, sym, ap, subst, ◌∙◌, ⊎_elim}
use Rattle.std.proofs.lemmas.List.Elements.{All-nil}
use Rattle.std.specs.Prelude.{All, IfSome, unwrap_or}
use Rattle.core_volume.specs.Commits.{AreIntended}
use Rattle.core_state.specs.Events.{EventGives, FlushGives, IsOfMemory, Waits, WriteGives, WriteSetGives}
use Rattle.core_state.specs.Devices.{FlushesDevice, WritesEntry, WritesNode}
use Rattle.core_volume.specs.HoldLaws.{needed-between}
use Rattle.core_state.specs.States.{IsState, State, mine, other_holder}
use Rattle.core_volume.specs.Volumes.{node_stage_of}
use Rattle.core_actors.specs.declared.answer.Answer.{Answer}
use Rattle.core_actors.specs.declared.answer.Answer.TheVariants as answers
use Rattle.core_actors.specs.declared.answer.Refusal.{Refusal}
use Rattle.core_actors.specs.declared.event.Event.{Event}
use Rattle.core_actors.specs.declared.event.Event.TheVariants as events
use Rattle.dev_model.specs.Devices.{DevicesState, now}
use Rattle.dev_model.specs.Disk.{IsDisk}
use Rattle.journal_writer.specs.Writes.{WritesPart}
use Rattle.journal_writer.specs.declared.stage.Stage.{Stage}
use Rattle.journal_writer.specs.declared.stage.Stage.TheVariants.{WriteSet}
use Rattle.image_view.specs.Found.{Found}
use Rattle.journal_ring.specs.Rings.{RingState}
use Rattle.crash_safety.specs.Flushes.{flushes}
use Rattle.crash_safety.specs.Parts.{IsPartWritten}
use Rattle.crash_safety.specs.Standing.{AreSteady}
use Rattle.crash_safety.specs.NodeParts.{IsNodePartWritten}
use Rattle.node_store.specs.declared.planning.Blocked.{Blocked}
use Rattle.node_writeback.specs.NodeWork.{birth_left}
use Rattle.node_writeback.specs.NodeWrites.{WritesNodePart}
use Rattle.node_writeback.specs.declared.node.UnfinishedNode.{UnfinishedNode}
use Rattle.vol_types.specs.declared.keys.Update.{Update}
use Rattle.vol_core.specs.Cores.{CoreState, StepGives}
use Rattle.vol_core.specs.Entries.{IsInLeaf}
use Rattle.vol_core.specs.Rested.{KeepsRing}
use Rattle.vol_core.specs.Safety.{IsCoreSafe}
use Rattle.vol_core.proofs.BlockWritten.{block_written_on, with_block_by}
use Rattle.vol_core.specs.CoreLaws.{CoreLaws}
use Rattle.vol_core.proofs.Frozen.{frozen_on}
use Rattle.vol_core.proofs.GivenUp.{unfrozen_on}
use Rattle.vol_core.proofs.Joined.{committed_on}
use Rattle.vol_core.proofs.NodeStages.{writing_is}
use Rattle.core_volume.specs.Volumes.{KeepParts}
use Rattle.vol_core.proofs.Placed.{placed_on}
use Rattle.vol_core.proofs.Sealed.{flown_on}
use Rattle.vol_core.proofs.Settled.{settled_on}
use Rattle.vol_core.proofs.Written.{flushed_on, halted_on, written_on}

-- Devices that tell had a part written.
pub part_written : (tells : Type 0) → tells → (ring : RingState) (failed : Option ℕ) (old new : DevicesState) → WritesPart tells ring failed old new → IsPartWritten ring failed old new
part_written tells told ring failed old new part = record {
  at = record { crashes = part.crashes told; elsewhere = part.elsewhere told; asks = part.asks told };
  held = λ stand none. part.held told stand none;
}

-- Devices that tell had a block of a node written.
pub block_part : (tells : Type 0) → tells → (blocked : Blocked) (part : ℕ) (failed : Option ℕ) (old new : DevicesState) → WritesNodePart tells blocked part failed old new → IsNodePartWritten blocked part failed old new
block_part tells told blocked part failed old new calls = record {
  at = record { crashes = calls.crashes told; elsewhere = calls.elsewhere told; asks = calls.asks told };
  lengths = calls.lengths told;
  held = λ none. calls.written told none;
}

-- Where the answer is a stage, or a refusal, no device was called.
pub block_told : (tells : Type 0) (unfinished : Option UnfinishedNode) (stage : Stage) (durable : Bool) (old new : DevicesState) → WritesNode tells unfinished (answers.At stage durable) old new → new ≡ old
block_told tells None stage durable old new calls = calls
block_told tells (Some unfinished) stage durable old new calls = calls

pub block_refused : (tells : Type 0) (unfinished : Option UnfinishedNode) (refusal : Refusal) (old new : DevicesState) → WritesNode tells unfinished (answers.Refused refusal) old new → new ≡ old
block_refused tells None refusal old new calls = calls
block_refused tells (Some unfinished) refusal old new calls = calls

abbrev pub flush_done : Result (Unit {0}) (Unit {0})
flush_done = Ok tt

abbrev pub flush_failed : Result (Unit {0}) (Unit {0})
flush_failed = Err tt

-- Where an actor waits for another one, nothing changes.
waits_same : (OrElse : Type 0) (holder : Option ℕ) (old : State) (answer : Answer) (new : State) → Waits holder old answer new OrElse → (OrElse → new.volume ≡ old.volume) → new.volume ≡ old.volume
waits_same OrElse None old answer new waits same = same waits
waits_same OrElse (Some holder) old answer new waits same = ap (λ (s : State). s.volume) waits.1

-- What an actor intends is in leaves.
intended_leaves : (mirrors : ℕ) (intended : Option (List Update)) → IfSome intended (AreIntended mirrors) → All IsInLeaf (unwrap_or intended [])
intended_leaves mirrors None are = All-nil IsInLeaf
intended_leaves mirrors (Some updates) are = are.leaves

module _ (laws : CoreLaws) (begun : Found) (start : DevicesState) (old new : DevicesState) (memory : State) (is : IsState memory) (parts : KeepParts memory.volume) (ring : KeepsRing memory.volume) (kept : IsCoreSafe begun start old memory.volume) where
  -- Nothing of the volume changes, and no device is called.
  same_on : (after : State) → new ≡ old → after.volume ≡ memory.volume → IsCoreSafe begun start new after.volume
  same_on after stays same = subst (λ (state : DevicesState). IsCoreSafe begun start state after.volume) (sym stays) (subst (IsCoreSafe begun start old) (sym same) kept)

  at_same : (after other : State) → new ≡ old → after ≡ other → other.volume ≡ memory.volume → IsCoreSafe begun start new after.volume
  at_same after other stays is_other same = same_on after stays (ap (λ (s : State). s.volume) is_other ∙ same)

  -- The volume is another one, and no device is called.
  changed_on : (after other : State) → new ≡ old → after ≡ other → IsCoreSafe begun start old other.volume → IsCoreSafe begun start new after.volume
  changed_on after other stays is_other safe = subst (λ (state : DevicesState). IsCoreSafe begun start state after.volume) (sym stays) (subst (λ (s : State). IsCoreSafe begun start old s.volume) (sym is_other) safe)

  -- An event of memory.
  remembered_on : (actor : ℕ) (event : Event) (answer : Answer) (after : State) → new ≡ old → IsOfMemory event → EventGives memory actor event answer after → IsCoreSafe begun start new after.volume
  remembered_on actor (events.Begin first) answer after stays own gives = at_same after _ stays gives.1 refl
  remembered_on actor (events.Look query) answer after stays own gives =
      same_on after stays (waits_same _ (other_holder actor memory.turn) memory answer after gives (λ either. ⊎_elim (λ none. ap (λ (s : State). s.volume) none.1) (λ found. ap (λ (s : State). s.volume) found.1) either))
  remembered_on actor events.LookIds answer after stays own gives =
      same_on after stays (waits_same _ (other_holder actor memory.turn) memory answer after gives (λ either. ⊎_elim (λ none. ap (λ (s : State). s.volume) none.1) (λ found. ap (λ (s : State). s.volume) found.1) either))
  remembered_on actor (events.Intend updates) answer after stays own gives =
      same_on after stays (waits_same _ (other_holder actor memory.turn) memory answer after gives (λ done. ap (λ (s : State). s.volume) done.1))
  remembered_on actor events.Finish answer after stays own gives = at_same after _ stays gives.1 refl
  remembered_on actor events.Drop answer after stays own gives = at_same after _ stays gives.1 refl
  remembered_on actor (events.Next work) answer after stays own gives = at_same after _ stays gives.1 refl
  remembered_on actor (events.Commit counted) answers.Done after stays own gives =
      subst (λ (s : DevicesState). IsCoreSafe begun start s after.volume) (sym stays)
      (committed_on laws begun start memory.volume is.volume old kept (unwrap_or (mine memory actor).intended []) counted
      (intended_leaves memory.volume.layout.metadata_replicas (mine memory actor).intended (is.each actor).intended) after.volume gives.made)
  remembered_on actor (events.Commit counted) (answers.Refused refusal) after stays own gives = at_same after _ stays gives.1 refl
  remembered_on actor (events.Commit counted) answers.NoMemory after stays own gives = at_same after _ stays gives refl
  remembered_on actor (events.Commit counted) (answers.Found keys) after stays own gives = absurd gives
  remembered_on actor (events.Commit counted) (answers.Ids tree) after stays own gives = absurd gives
  remembered_on actor (events.Commit counted) (answers.At stage durable) after stays own gives = absurd gives
  remembered_on actor (events.Commit counted) (answers.Wait holder) after stays own gives = absurd gives
  remembered_on actor (events.Commit counted) (answers.DeviceFault dev) after stays own gives = absurd gives
  remembered_on actor events.Seal answers.Done after stays own gives =
      subst (λ (s : DevicesState). IsCoreSafe begun start s after.volume) (sym stays) (flown_on laws begun start memory.volume is.volume old kept after.volume gives.0 (needed-between memory.volume is.volume).0 ring.commits)
  remembered_on actor events.Seal (answers.At stage durable) after stays own gives = at_same after _ stays gives.1.1 refl
  remembered_on actor events.Seal (answers.Refused refusal) after stays own gives = at_same after _ stays gives.1 refl
  remembered_on actor events.Seal answers.NoMemory after stays own gives = at_same after _ stays gives refl
  remembered_on actor events.Seal (answers.Found keys) after stays own gives = absurd gives
  remembered_on actor events.Seal (answers.Ids tree) after stays own gives = absurd gives
  remembered_on actor events.Seal (answers.Wait holder) after stays own gives = absurd gives
  remembered_on actor events.Seal (answers.DeviceFault dev) after stays own gives = absurd gives
  remembered_on actor events.Settle answers.Done after stays own gives = changed_on after _ stays gives.1 (settled_on laws begun start memory.volume is.volume old kept gives.0.stage_is)
  remembered_on actor events.Settle (answers.At stage durable) after stays own gives = at_same after _ stays gives.1.1 refl
  remembered_on actor events.Settle (answers.Refused refusal) after stays own gives = at_same after _ stays gives.1 refl
  remembered_on actor events.Settle answers.NoMemory after stays own gives = absurd gives
  remembered_on actor events.Settle (answers.Found keys) after stays own gives = absurd gives
  remembered_on actor events.Settle (answers.Ids tree) after stays own gives = absurd gives
  remembered_on actor events.Settle (answers.Wait holder) after stays own gives = absurd gives
  remembered_on actor events.Settle (answers.DeviceFault dev) after stays own gives = absurd gives
  remembered_on actor (events.Freeze node) answers.Done after stays own gives =
      subst (λ (s : DevicesState). IsCoreSafe begun start s after.volume) (sym stays) (frozen_on laws begun start memory.volume is.volume parts old kept node after.volume gives.0)
  remembered_on actor (events.Freeze node) (answers.At stage durable) after stays own gives = at_same after _ stays gives.1.1 refl
  remembered_on actor (events.Freeze node) (answers.Refused refusal) after stays own gives = changed_on after _ stays gives.1 (unfrozen_on laws begun start memory.volume is.volume old kept node refusal gives.0)
  remembered_on actor (events.Freeze node) answers.NoMemory after stays own gives = at_same after _ stays gives refl
  remembered_on actor (events.Freeze node) (answers.Found keys) after stays own gives = absurd gives
  remembered_on actor (events.Freeze node) (answers.Ids tree) after stays own gives = absurd gives
  remembered_on actor (events.Freeze node) (answers.Wait holder) after stays own gives = absurd gives
  remembered_on actor (events.Freeze node) (answers.DeviceFault dev) after stays own gives = absurd gives
  remembered_on actor events.CommitNodes answers.Done after stays own gives =
      subst (λ (s : DevicesState). IsCoreSafe begun start s after.volume) (sym stays) (placed_on laws begun start memory.volume is.volume parts old kept after.volume gives.0)
  remembered_on actor events.CommitNodes (answers.At stage durable) after stays own gives = at_same after _ stays gives.1.1 refl
  remembered_on actor events.CommitNodes (answers.Refused refusal) after stays own gives = at_same after _ stays gives.1 refl
  remembered_on actor events.CommitNodes answers.NoMemory after stays own gives = at_same after _ stays gives refl
  remembered_on actor events.CommitNodes (answers.Found keys) after stays own gives = absurd gives
  remembered_on actor events.CommitNodes (answers.Ids tree) after stays own gives = absurd gives
  remembered_on actor events.CommitNodes (answers.Wait holder) after stays own gives = absurd gives
  remembered_on actor events.CommitNodes (answers.DeviceFault dev) after stays own gives = absurd gives
  remembered_on actor events.WriteEntry answer after stays own gives = absurd own
  remembered_on actor (events.Flush dev) answer after stays own gives = absurd own
  remembered_on actor (events.WriteSet node) answer after stays own gives = absurd own

  module _ (tells : Type 0) (told : tells) (disks : All IsDisk (now new)) (steady : AreSteady new) where
    -- A part of the entry in flight is written, or not.
    written_any : (tick actor : ℕ) (answer : Answer) (after : State) → WriteGives tick memory actor answer after → WritesEntry tells memory.volume.writer.ring answer old new → IsCoreSafe begun start new after.volume
    written_any tick actor answers.Done after gives calls =
        subst (λ (s : State). IsCoreSafe begun start new s.volume) (sym gives.1)
        (written_on laws begun start memory.volume is.volume old new kept disks steady None gives.0.stage_is (part_written tells told memory.volume.writer.ring None old new calls))
    written_any tick actor (answers.DeviceFault dev) after gives calls =
        subst (λ (s : State). IsCoreSafe begun start new s.volume) (sym gives.1)
        (halted_on begun start new _ _ (written_on laws begun start memory.volume is.volume old new kept disks steady (Some dev) gives.0.stage_is (part_written tells told memory.volume.writer.ring (Some dev) old new calls)))
    written_any tick actor (answers.At stage durable) after gives calls = at_same after _ calls gives.1.1 refl
    written_any tick actor (answers.Refused refusal) after gives calls = at_same after _ calls gives.1 refl
    written_any tick actor answers.NoMemory after gives calls = absurd gives
    written_any tick actor (answers.Found keys) after gives calls = absurd gives
    written_any tick actor (answers.Ids tree) after gives calls = absurd gives
    written_any tick actor (answers.Wait holder) after gives calls = absurd gives

    -- A device is flushed, or not.
    flushed_any : (dev tick actor : ℕ) (answer : Answer) (after : State) → FlushGives dev tick memory actor answer after → FlushesDevice tells dev answer old new → IsCoreSafe begun start new after.volume
    flushed_any dev tick actor answers.Done after gives calls =
        subst (λ (s : State). IsCoreSafe begun start new s.volume) (sym gives.1)
        (flushed_on laws begun start memory.volume is.volume old new kept disks steady dev true (flushes tells told dev flush_done old new calls))
    flushed_any dev tick actor (answers.DeviceFault failed) after gives calls =
        subst (λ (s : State). IsCoreSafe begun start new s.volume) (sym gives.2)
        (halted_on begun start new _ _ (flushed_on laws begun start memory.volume is.volume old new kept disks steady dev false (flushes tells told dev flush_failed old new calls)))
    flushed_any dev tick actor (answers.Refused refusal) after gives calls = at_same after _ calls gives.1 refl
    flushed_any dev tick actor (answers.At stage durable) after gives calls = absurd gives
    flushed_any dev tick actor answers.NoMemory after gives calls = absurd gives
    flushed_any dev tick actor (answers.Found keys) after gives calls = absurd gives
    flushed_any dev tick actor (answers.Ids tree) after gives calls = absurd gives
    flushed_any dev tick actor (answers.Wait holder) after gives calls = absurd gives

    -- A block of the unfinished node is written, or its device failed.
    block_by : (node : ℕ) (failed : Option ℕ) (unfinished : Option UnfinishedNode) → memory.volume.work.unfinished ≡ unfinished → node_stage_of memory.volume ≡ WriteSet node
        → ((some : UnfinishedNode) → unfinished ≡ Some some → WritesNodePart tells some.node.blocked some.written failed old new) → IsCoreSafe begun start new (with_block_by failed memory.volume)
    block_by node failed None left stage calls = absurd (writing_is memory.volume node stage (ap birth_left left))
    block_by node failed (Some unfinished) left stage calls =
        block_written_on laws begun start memory.volume is.volume parts old new kept disks failed unfinished left
        (block_part tells told unfinished.node.blocked unfinished.written failed old new (calls unfinished refl))

    -- The next block of a frozen node is written, or not.
    block_any : (node tick actor : ℕ) (answer : Answer) (after : State) → WriteSetGives node tick memory actor answer after → WritesNode tells memory.volume.work.unfinished answer old new → IsCoreSafe begun start new after.volume
    block_any node tick actor answers.Done after gives calls =
        subst (λ (s : State). IsCoreSafe begun start new s.volume) (sym gives.1)
        (block_by node None memory.volume.work.unfinished refl gives.0.stage_is (λ some is. subst (λ (u : Option UnfinishedNode). WritesNode tells u answers.Done old new) is calls))
    block_any node tick actor (answers.DeviceFault dev) after gives calls =
        subst (λ (s : State). IsCoreSafe begun start new s.volume) (sym gives.1)
        (halted_on begun start new _ _ (block_by node (Some dev) memory.volume.work.unfinished refl gives.0.stage_is (λ some is. subst (λ (u : Option UnfinishedNode). WritesNode tells u (answers.DeviceFault dev) old new) is calls)))
    block_any node tick actor (answers.At stage durable) after gives calls = at_same after _ (block_told tells memory.volume.work.unfinished stage durable old new calls) gives.1.1 refl
    block_any node tick actor (answers.Refused refusal) after gives calls = at_same after _ (block_refused tells memory.volume.work.unfinished refusal old new calls) gives.1 refl
    block_any node tick actor answers.NoMemory after gives calls = absurd gives
    block_any node tick actor (answers.Found keys) after gives calls = absurd gives
    block_any node tick actor (answers.Ids tree) after gives calls = absurd gives
    block_any node tick actor (answers.Wait holder) after gives calls = absurd gives

module _ {D : Type 0} (laws : CoreLaws) (begun : Found) (start : DevicesState) (tells : Type 0) (told : tells) (state : D → DevicesState) (old new : CoreState D) (is : IsState old.memory) (parts : KeepParts old.memory.volume)
    (ring : KeepsRing old.memory.volume) (kept : IsCoreSafe begun start (state old.devices) old.memory.volume) (disks : All IsDisk (now (state new.devices))) (steady : AreSteady (state new.devices)) where
  remembered : (actor : ℕ) (event : Event) (answer : Answer) → IsOfMemory event → EventGives old.memory actor event answer new.memory × (new.devices ≡ old.devices) → IsCoreSafe begun start (state new.devices) new.memory.volume
  remembered actor event answer own gives = remembered_on laws begun start (state old.devices) (state new.devices) old.memory is parts ring kept actor event answer new.memory (ap state gives.1) own gives.0

  -- The core stays safe whatever event an actor makes.
  pub stepped : (actor : ℕ) (event : Event) (answer : Answer) → StepGives tells state old actor event answer new → IsCoreSafe begun start (state new.devices) new.memory.volume
  stepped actor events.WriteEntry answer gives = written_any laws begun start (state old.devices) (state new.devices) old.memory is parts ring kept tells told disks steady (state new.devices).moment actor answer new.memory gives.0 gives.1
  stepped actor (events.Flush dev) answer gives = flushed_any laws begun start (state old.devices) (state new.devices) old.memory is parts ring kept tells told disks steady dev (state new.devices).moment actor answer new.memory gives.0 gives.1
  stepped actor (events.WriteSet node) answer gives = block_any laws begun start (state old.devices) (state new.devices) old.memory is parts ring kept tells told disks steady node (state new.devices).moment actor answer new.memory gives.0 gives.1
  stepped actor (events.Begin first) answer gives = remembered actor (events.Begin first) answer tt gives
  stepped actor (events.Look query) answer gives = remembered actor (events.Look query) answer tt gives
  stepped actor events.LookIds answer gives = remembered actor events.LookIds answer tt gives
  stepped actor (events.Intend updates) answer gives = remembered actor (events.Intend updates) answer tt gives
  stepped actor (events.Commit counted) answer gives = remembered actor (events.Commit counted) answer tt gives
  stepped actor events.Finish answer gives = remembered actor events.Finish answer tt gives
  stepped actor events.Drop answer gives = remembered actor events.Drop answer tt gives
  stepped actor (events.Next work) answer gives = remembered actor (events.Next work) answer tt gives
  stepped actor events.Seal answer gives = remembered actor events.Seal answer tt gives
  stepped actor events.Settle answer gives = remembered actor events.Settle answer tt gives
  stepped actor (events.Freeze node) answer gives = remembered actor (events.Freeze node) answer tt gives
  stepped actor events.CommitNodes answer gives = remembered actor events.CommitNodes answer tt gives
