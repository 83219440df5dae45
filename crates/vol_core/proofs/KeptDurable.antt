-- Inside an event nothing is lost that was durable when it began: whatever a crash leaves means one of the bases from before, and one that is no
-- earlier than the last durable one and has no fewer commits; and it is what is told of it by what was in memory.
use Rattle.std.proofs.Common.{◌≡◌, ◌≤◌, ℕ, length, true, false, Option, Some, None, refl, sym, ap, subst, arith}
use Rattle.core_state.specs.Devices.{FlushesDevice, WritesEntry, WritesNode}
use Rattle.core_state.specs.Events.{FlushGives, WriteGives, WriteSetGives}
use Rattle.core_state.specs.States.{IsState, State}
use Rattle.core_volume.specs.Volumes.{KeepParts, Volume, node_stage_of}
use Rattle.core_actors.specs.declared.answer.Answer.{Answer}
use Rattle.core_actors.specs.declared.answer.Answer.TheVariants as answers
use Rattle.core_actors.specs.declared.event.Event.{Event}
use Rattle.core_actors.specs.declared.event.Event.TheVariants as events
use Rattle.dev_model.specs.Devices.{DevicesState, now}
use Rattle.dev_model.specs.Disk.{IsDisk}
use Rattle.journal_writer.specs.declared.stage.Stage.TheVariants.{WriteSet}
use Rattle.image_view.specs.Found.{Found}
use Rattle.crash_safety.specs.Flushes.{flushes}
use Rattle.crash_safety.specs.Safety.{IsSafe, MeansOneOf}
use Rattle.crash_safety.specs.Standing.{AreSteady}
use Rattle.node_writeback.specs.NodeWork.{birth_left}
use Rattle.node_writeback.specs.NodeWrites.{WritesNodePart}
use Rattle.node_writeback.specs.declared.node.UnfinishedNode.{UnfinishedNode}
use Rattle.replay.specs.Mending.{IsUntorn}
use Rattle.std.specs.Prelude.{All}
use Rattle.vol_types.specs.declared.layout.Layout.{Layout}
use Rattle.vol_core.specs.CoreLaws.{CoreLaws}
use Rattle.vol_core.specs.Cores.{CoreState, StepGives}
use Rattle.vol_core.specs.KeptFiles.{KeepsFiles}
use Rattle.vol_core.specs.Left.{IsSoundFound, KeepsLeft}
use Rattle.vol_core.specs.Rested.{KeepsRing}
use Rattle.vol_core.specs.Room.{KeepsRoom, LeavesRoom}
use Rattle.vol_core.specs.Safety.{IsCoreSafe, KeepsDurable, MayBegin}
use Rattle.vol_core.proofs.BlockWritten.{block_safe}
use Rattle.vol_core.proofs.Chains.{IsNoEarlier, all_below, last_durable, led_on}
use Rattle.vol_core.proofs.FilesKept.{IsOfFiles, still_holds}
use Rattle.vol_core.proofs.FilesStepped.{files_held}
use Rattle.vol_core.proofs.LeftBases.{left_kept}
use Rattle.vol_core.proofs.NodeStages.{writing_is}
use Rattle.vol_core.proofs.Spared.{spares_here}
use Rattle.vol_core.proofs.Stepped.{block_part, block_refused, block_told, flush_done, flush_failed, part_written}
use Rattle.vol_core.proofs.Surviving.{StandsWhole}
use Rattle.vol_core.proofs.WholeKept.{IsNeededPlace, needed_held, still_needed}
use Rattle.vol_core.proofs.Written.{flushed_safe, written_safe}

module _ (laws : CoreLaws) (begun : Found) (start : DevicesState) (old new : DevicesState) (memory : State) (is : IsState memory) (parts : KeepParts memory.volume) (kept : IsCoreSafe begun start old memory.volume) where
  -- whatever a crash has left means one of the bases from before
  abbrev StaysSafe : Type 0
  StaysSafe = IsSafe kept.f.layout kept.bases kept.durable start.moment new

  -- No base that may be meant is earlier than the last durable one.
  pub durable_kept : StaysSafe → KeepsDurable start old new memory.volume
  durable_kept safe moment from to image may untorn =
      let begins = kept.safe.stands.begun in
      let means : MeansOneOf kept.bases kept.durable moment image =
      (safe.each moment (omega (arith, begins, from)) to image may (subst (λ (layout : Layout). IsUntorn layout start.moment moment new image) (sym kept.known.layout) untorn)).itself in
      let behind : length kept.durable ≤ means.index = all_below kept.durable means.index (λ k m there. means.none_before k m there (let past = kept.past k m there in omega (arith, past, from))) in
      let later : IsNoEarlier kept.f means.base =
      led_on kept.bases kept.chain (length kept.durable) means.index kept.f means.base (last_durable kept.f kept.writing kept.bases kept.durable kept.safe.bases_are) means.at behind in (
        means.base,
        means.finds,
        (let known = kept.known.commits in let more = later.commits in omega (arith, known, more)),
        (let known = kept.known.sequence in let more = later.sequence in omega (arith, known, more)),
      )

  -- No device is called.
  stays_safe : new ≡ old → StaysSafe
  stays_safe stays = subst (IsSafe kept.f.layout kept.bases kept.durable start.moment) (sym stays) kept.safe.safe

  module _ (tells : Type 0) (told : tells) (disks : All IsDisk (now new)) (steady : AreSteady new) where
    -- A part of the entry in flight is written, or not.
    part_safe : (tick actor : ℕ) (answer : Answer) (after : State) → WriteGives tick memory actor answer after → WritesEntry tells memory.volume.writer.ring answer old new → StaysSafe
    part_safe tick actor answers.Done after gives calls =
        written_safe laws begun start memory.volume is.volume old new kept disks steady None gives.0.stage_is (part_written tells told memory.volume.writer.ring None old new calls)
    part_safe tick actor (answers.DeviceFault dev) after gives calls =
        written_safe laws begun start memory.volume is.volume old new kept disks steady (Some dev) gives.0.stage_is (part_written tells told memory.volume.writer.ring (Some dev) old new calls)
    part_safe tick actor (answers.At stage durable) after gives calls = stays_safe calls
    part_safe tick actor (answers.Refused refusal) after gives calls = stays_safe calls
    part_safe tick actor answers.NoMemory after gives calls = absurd gives
    part_safe tick actor (answers.Found keys) after gives calls = absurd gives
    part_safe tick actor (answers.Ids tree) after gives calls = absurd gives
    part_safe tick actor (answers.Wait holder) after gives calls = absurd gives

    -- A device is flushed, or not.
    flush_safe : (dev tick actor : ℕ) (answer : Answer) (after : State) → FlushGives dev tick memory actor answer after → FlushesDevice tells dev answer old new → StaysSafe
    flush_safe dev tick actor answers.Done after gives calls = flushed_safe laws begun start memory.volume is.volume old new kept disks steady dev true (flushes tells told dev flush_done old new calls)
    flush_safe dev tick actor (answers.DeviceFault failed) after gives calls = flushed_safe laws begun start memory.volume is.volume old new kept disks steady dev false (flushes tells told dev flush_failed old new calls)
    flush_safe dev tick actor (answers.Refused refusal) after gives calls = stays_safe calls
    flush_safe dev tick actor (answers.At stage durable) after gives calls = absurd gives
    flush_safe dev tick actor answers.NoMemory after gives calls = absurd gives
    flush_safe dev tick actor (answers.Found keys) after gives calls = absurd gives
    flush_safe dev tick actor (answers.Ids tree) after gives calls = absurd gives
    flush_safe dev tick actor (answers.Wait holder) after gives calls = absurd gives

    -- A block of the unfinished node is written, or its device failed.
    set_by : (node : ℕ) (failed : Option ℕ) (unfinished : Option UnfinishedNode) → memory.volume.work.unfinished ≡ unfinished → node_stage_of memory.volume ≡ WriteSet node
        → ((some : UnfinishedNode) → unfinished ≡ Some some → WritesNodePart tells some.node.blocked some.written failed old new) → StaysSafe
    set_by node failed None left stage calls = absurd (writing_is memory.volume node stage (ap birth_left left))
    set_by node failed (Some unfinished) left stage calls =
        block_safe laws begun start memory.volume is.volume parts old new kept disks failed unfinished left (block_part tells told unfinished.node.blocked unfinished.written failed old new (calls unfinished refl))

    -- The next block of a frozen node is written, or not.
    set_safe : (node tick actor : ℕ) (answer : Answer) (after : State) → WriteSetGives node tick memory actor answer after → WritesNode tells memory.volume.work.unfinished answer old new → StaysSafe
    set_safe node tick actor answers.Done after gives calls =
        set_by node None memory.volume.work.unfinished refl gives.0.stage_is (λ some is. subst (λ (u : Option UnfinishedNode). WritesNode tells u answers.Done old new) is calls)
    set_safe node tick actor (answers.DeviceFault dev) after gives calls =
        set_by node (Some dev) memory.volume.work.unfinished refl gives.0.stage_is (λ some is. subst (λ (u : Option UnfinishedNode). WritesNode tells u (answers.DeviceFault dev) old new) is calls)
    set_safe node tick actor (answers.At stage durable) after gives calls = stays_safe (block_told tells memory.volume.work.unfinished stage durable old new calls)
    set_safe node tick actor (answers.Refused refusal) after gives calls = stays_safe (block_refused tells memory.volume.work.unfinished refusal old new calls)
    set_safe node tick actor answers.NoMemory after gives calls = absurd gives
    set_safe node tick actor (answers.Found keys) after gives calls = absurd gives
    set_safe node tick actor (answers.Ids tree) after gives calls = absurd gives
    set_safe node tick actor (answers.Wait holder) after gives calls = absurd gives

module _ {D : Type 0} (laws : CoreLaws) (begun : Found) (start : DevicesState) (tells : Type 0) (told : tells) (state : D → DevicesState) (old new : CoreState D) (is : IsState old.memory) (parts : KeepParts old.memory.volume)
    (kept : IsCoreSafe begun start (state old.devices) old.memory.volume) (disks : All IsDisk (now (state new.devices))) (steady : AreSteady (state new.devices)) where
  abbrev Stays : Type 0
  Stays = IsSafe kept.f.layout kept.bases kept.durable start.moment (state new.devices)

  -- An event of memory.
  same_safe : new.devices ≡ old.devices → Stays
  same_safe same = stays_safe laws begun start (state old.devices) (state new.devices) old.memory is parts kept (ap state same)

  -- Whatever a crash has left means one of the bases from before, whatever event an actor makes.
  pub still_safe : (actor : ℕ) (event : Event) (answer : Answer) → StepGives tells state old actor event answer new → Stays
  still_safe actor events.WriteEntry answer gives =
      part_safe laws begun start (state old.devices) (state new.devices) old.memory is parts kept tells told disks steady (state new.devices).moment actor answer new.memory gives.0 gives.1
  still_safe actor (events.Flush dev) answer gives =
      flush_safe laws begun start (state old.devices) (state new.devices) old.memory is parts kept tells told disks steady dev (state new.devices).moment actor answer new.memory gives.0 gives.1
  still_safe actor (events.WriteSet node) answer gives =
      set_safe laws begun start (state old.devices) (state new.devices) old.memory is parts kept tells told disks steady node (state new.devices).moment actor answer new.memory gives.0 gives.1
  still_safe actor (events.Begin first) answer gives = same_safe gives.1
  still_safe actor (events.Look query) answer gives = same_safe gives.1
  still_safe actor events.LookIds answer gives = same_safe gives.1
  still_safe actor (events.Intend updates) answer gives = same_safe gives.1
  still_safe actor (events.Commit counted) answer gives = same_safe gives.1
  still_safe actor events.Finish answer gives = same_safe gives.1
  still_safe actor events.Drop answer gives = same_safe gives.1
  still_safe actor (events.Next work) answer gives = same_safe gives.1
  still_safe actor events.Seal answer gives = same_safe gives.1
  still_safe actor events.Settle answer gives = same_safe gives.1
  still_safe actor (events.Freeze node) answer gives = same_safe gives.1
  still_safe actor events.CommitNodes answer gives = same_safe gives.1

  -- Nothing that was durable is lost, whatever event an actor makes.
  pub kept_durable : (actor : ℕ) (event : Event) (answer : Answer) → StepGives tells state old actor event answer new → KeepsDurable start (state old.devices) (state new.devices) old.memory.volume
  kept_durable actor event answer gives = durable_kept laws begun start (state old.devices) (state new.devices) old.memory is parts kept (still_safe actor event answer gives)

  -- What a crash leaves is what is told of it, whatever event an actor makes.
  pub left_stepped : MayBegin begun (now start) → KeepsRing old.memory.volume → (LeavesRoom begun → KeepsRoom old.memory.volume) → (IsSoundFound begun → KeepsFiles begun start (state old.devices) old.memory.volume)
      → (actor : ℕ) (event : Event) (answer : Answer) → StepGives tells state old actor event answer new → KeepsLeft begun start (state old.devices) (state new.devices) old.memory.volume
  left_stepped begins ring room files actor event answer gives =
      left_kept begun start (state old.devices) (state new.devices) old.memory.volume kept begins ring room (still_safe actor event answer gives) (λ sound. (files sound).in_use)
      (λ sound. files_held laws begun start tells told state old new is parts kept begins sound (files sound) actor event answer gives)
      (needed_held laws begun start tells told state old new is parts kept actor event answer gives)

-- What a crash leaves now is what is told of it.
pub left_now : StandsWhole → (begun : Found) (start state : DevicesState) (volume : Volume) → IsCoreSafe begun start state volume → MayBegin begun (now start) → KeepsRing volume → (LeavesRoom begun → KeepsRoom volume)
    → (IsSoundFound begun → KeepsFiles begun start state volume) → KeepsLeft begun start state state volume
left_now stands begun start state volume kept begins ring room files =
    left_kept begun start state state volume kept begins ring room kept.safe.safe (λ sound. (files sound).in_use) (λ sound. still_holds begun start state state (spares_here (IsOfFiles begun) state) (files sound).left)
    (still_needed kept.f state state (spares_here (IsNeededPlace kept.f) state) (stands kept.f kept.image kept.writing kept.asked kept.written kept.bases kept.durable start.moment state kept.safe))
