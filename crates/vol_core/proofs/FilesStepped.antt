-- What is kept of the blocks of files stays so whatever event an actor makes.
use Rattle.std.proofs.Common.{◌≡◌, ◌≤◌, ℕ, Bool, Option, Some, None, sym, ap, subst, arith, ⊎_elim}
use Rattle.core_state.specs.Events.{CommitGives, CommitNodesGives, FlushGives, FreezeGives, SealGives, SettleGives, Waits, WriteGives, WriteSetGives}
use Rattle.core_state.specs.States.{IsState, State, other_holder}
use Rattle.core_volume.specs.Volumes.{KeepParts, Volume}
use Rattle.core_actors.specs.declared.answer.Answer.{Answer}
use Rattle.core_actors.specs.declared.answer.Answer.TheVariants as answers
use Rattle.core_actors.specs.declared.event.Event.{Event}
use Rattle.core_actors.specs.declared.event.Event.TheVariants as events
use Rattle.dev_model.specs.Devices.{DevicesState, now}
use Rattle.dev_model.specs.Disk.{Image, IsCrashImage}
use Rattle.image_view.specs.Found.{Found}
use Rattle.vol_core.specs.CoreLaws.{CoreLaws}
use Rattle.vol_core.specs.Cores.{CoreState, StepGives}
use Rattle.vol_core.specs.KeptFiles.{AreInUse, KeepsFiles}
use Rattle.vol_core.specs.Left.{HoldsFiles, IsSoundFound}
use Rattle.vol_core.specs.Safety.{IsCoreSafe, MayBegin}
use Rattle.vol_core.proofs.FilesKept.{IsOfFiles, block_outside_files, frozen_in_use, part_outside_files, placed_in_use, refused_in_use, settled_in_use, still_holds}
use Rattle.vol_core.proofs.Spared.{Spares, spared}

-- Where an actor waits for another one, nothing changes.
waits_same : (OrElse : Type 0) (holder : Option ℕ) (old : State) (answer : Answer) (new : State) → Waits holder old answer new OrElse → (OrElse → new.volume ≡ old.volume) → new.volume ≡ old.volume
waits_same OrElse None old answer new waits same = same waits
waits_same OrElse (Some holder) old answer new waits same = ap (λ (s : State). s.volume) waits.1

-- ---- buckets

module _ (laws : CoreLaws) (begun : Found) (start state : DevicesState) (memory : State) (is : IsState memory) (parts : KeepParts memory.volume) (safe : IsCoreSafe begun start state memory.volume) (in_use : AreInUse begun memory.volume.space) (actor : ℕ) (after : State) where
  -- The space of the state is that of another one.
  use_of : (other : State) → after ≡ other → AreInUse begun other.volume.space → AreInUse begun after.volume.space
  use_of other is_other used = subst (λ (s : State). AreInUse begun s.volume.space) (sym is_other) used

  -- Nothing of the volume changes.
  same_use : after.volume ≡ memory.volume → AreInUse begun after.volume.space
  same_use same = subst (λ (volume : Volume). AreInUse begun volume.space) (sym same) in_use

  commit_use : (counted : Bool) (answer : Answer) → CommitGives memory actor counted answer after → AreInUse begun after.volume.space
  commit_use counted answers.Done gives = subst (λ (volume : Volume). AreInUse begun volume.space) (sym gives.made.rest) in_use
  commit_use counted (answers.Refused refusal) gives = use_of _ gives.1 in_use
  commit_use counted answers.NoMemory gives = use_of _ gives in_use
  commit_use counted (answers.Found keys) gives = absurd gives
  commit_use counted (answers.Ids tree) gives = absurd gives
  commit_use counted (answers.At stage durable) gives = absurd gives
  commit_use counted (answers.Wait holder) gives = absurd gives
  commit_use counted (answers.DeviceFault dev) gives = absurd gives

  seal_use : (answer : Answer) → SealGives memory actor answer after → AreInUse begun after.volume.space
  seal_use answers.Done gives = subst (λ (volume : Volume). AreInUse begun volume.space) (sym gives.0.rest) in_use
  seal_use (answers.At stage durable) gives = use_of _ gives.1.1 in_use
  seal_use (answers.Refused refusal) gives = use_of _ gives.1 in_use
  seal_use answers.NoMemory gives = use_of _ gives in_use
  seal_use (answers.Found keys) gives = absurd gives
  seal_use (answers.Ids tree) gives = absurd gives
  seal_use (answers.Wait holder) gives = absurd gives
  seal_use (answers.DeviceFault dev) gives = absurd gives

  settle_use : (answer : Answer) → SettleGives memory actor answer after → AreInUse begun after.volume.space
  settle_use answers.Done gives = use_of _ gives.1 (settled_in_use begun memory.volume in_use)
  settle_use (answers.At stage durable) gives = use_of _ gives.1.1 in_use
  settle_use (answers.Refused refusal) gives = use_of _ gives.1 in_use
  settle_use answers.NoMemory gives = absurd gives
  settle_use (answers.Found keys) gives = absurd gives
  settle_use (answers.Ids tree) gives = absurd gives
  settle_use (answers.Wait holder) gives = absurd gives
  settle_use (answers.DeviceFault dev) gives = absurd gives

  write_use : (tick : ℕ) (answer : Answer) → WriteGives tick memory actor answer after → AreInUse begun after.volume.space
  write_use tick answers.Done gives = use_of _ gives.1 in_use
  write_use tick (answers.DeviceFault dev) gives = use_of _ gives.1 in_use
  write_use tick (answers.At stage durable) gives = use_of _ gives.1.1 in_use
  write_use tick (answers.Refused refusal) gives = use_of _ gives.1 in_use
  write_use tick answers.NoMemory gives = absurd gives
  write_use tick (answers.Found keys) gives = absurd gives
  write_use tick (answers.Ids tree) gives = absurd gives
  write_use tick (answers.Wait holder) gives = absurd gives

  flush_use : (dev tick : ℕ) (answer : Answer) → FlushGives dev tick memory actor answer after → AreInUse begun after.volume.space
  flush_use dev tick answers.Done gives = use_of _ gives.1 in_use
  flush_use dev tick (answers.DeviceFault failed) gives = use_of _ gives.2 in_use
  flush_use dev tick (answers.Refused refusal) gives = use_of _ gives.1 in_use
  flush_use dev tick (answers.At stage durable) gives = absurd gives
  flush_use dev tick answers.NoMemory gives = absurd gives
  flush_use dev tick (answers.Found keys) gives = absurd gives
  flush_use dev tick (answers.Ids tree) gives = absurd gives
  flush_use dev tick (answers.Wait holder) gives = absurd gives

  freeze_use : (node : ℕ) (answer : Answer) → FreezeGives node memory actor answer after → AreInUse begun after.volume.space
  freeze_use node answers.Done gives = frozen_in_use begun node memory.volume after.volume gives.0 in_use
  freeze_use node (answers.At stage durable) gives = use_of _ gives.1.1 in_use
  freeze_use node (answers.Refused refusal) gives = use_of _ gives.1 (refused_in_use begun start state memory.volume safe refusal in_use)
  freeze_use node answers.NoMemory gives = use_of _ gives in_use
  freeze_use node (answers.Found keys) gives = absurd gives
  freeze_use node (answers.Ids tree) gives = absurd gives
  freeze_use node (answers.Wait holder) gives = absurd gives
  freeze_use node (answers.DeviceFault dev) gives = absurd gives

  set_use : (node tick : ℕ) (answer : Answer) → WriteSetGives node tick memory actor answer after → AreInUse begun after.volume.space
  set_use node tick answers.Done gives = use_of _ gives.1 in_use
  set_use node tick (answers.DeviceFault dev) gives = use_of _ gives.1 in_use
  set_use node tick (answers.At stage durable) gives = use_of _ gives.1.1 in_use
  set_use node tick (answers.Refused refusal) gives = use_of _ gives.1 in_use
  set_use node tick answers.NoMemory gives = absurd gives
  set_use node tick (answers.Found keys) gives = absurd gives
  set_use node tick (answers.Ids tree) gives = absurd gives
  set_use node tick (answers.Wait holder) gives = absurd gives

  place_use : (answer : Answer) → CommitNodesGives memory actor answer after → AreInUse begun after.volume.space
  place_use answers.Done gives = placed_in_use begun start state memory.volume safe laws is.volume parts after.volume gives.0 in_use
  place_use (answers.At stage durable) gives = use_of _ gives.1.1 in_use
  place_use (answers.Refused refusal) gives = use_of _ gives.1 in_use
  place_use answers.NoMemory gives = use_of _ gives in_use
  place_use (answers.Found keys) gives = absurd gives
  place_use (answers.Ids tree) gives = absurd gives
  place_use (answers.Wait holder) gives = absurd gives
  place_use (answers.DeviceFault dev) gives = absurd gives

-- ---- an event

module _ {D : Type 0} (laws : CoreLaws) (begun : Found) (start : DevicesState) (tells : Type 0) (told : tells) (state : D → DevicesState) (old new : CoreState D) (is : IsState old.memory) (parts : KeepParts old.memory.volume)
    (safe : IsCoreSafe begun start (state old.devices) old.memory.volume) (begins : MayBegin begun (now start)) (sound : IsSoundFound begun) (files : KeepsFiles begun start (state old.devices) old.memory.volume) where
  abbrev Used : Type 0
  Used = AreInUse begun new.memory.volume.space

  -- Whatever event an actor makes, the buckets with blocks of files stay in use by files,
  used : (actor : ℕ) (event : Event) (answer : Answer) → StepGives tells state old actor event answer new → Used
  used actor events.WriteEntry answer gives = write_use laws begun start (state old.devices) old.memory is parts safe files.in_use actor new.memory (state new.devices).moment answer gives.0
  used actor (events.Flush dev) answer gives = flush_use laws begun start (state old.devices) old.memory is parts safe files.in_use actor new.memory dev (state new.devices).moment answer gives.0
  used actor (events.WriteSet node) answer gives = set_use laws begun start (state old.devices) old.memory is parts safe files.in_use actor new.memory node (state new.devices).moment answer gives.0
  used actor (events.Begin first) answer gives = use_of laws begun start (state old.devices) old.memory is parts safe files.in_use actor new.memory _ gives.0.1 files.in_use
  used actor (events.Look query) answer gives = same_use laws begun start (state old.devices) old.memory is parts safe files.in_use actor new.memory
      (waits_same _ (other_holder actor old.memory.turn) old.memory answer new.memory gives.0 (λ either. ⊎_elim (λ none. ap (λ (s : State). s.volume) none.1) (λ found. ap (λ (s : State). s.volume) found.1) either))
  used actor events.LookIds answer gives = same_use laws begun start (state old.devices) old.memory is parts safe files.in_use actor new.memory
      (waits_same _ (other_holder actor old.memory.turn) old.memory answer new.memory gives.0 (λ either. ⊎_elim (λ none. ap (λ (s : State). s.volume) none.1) (λ found. ap (λ (s : State). s.volume) found.1) either))
  used actor (events.Intend updates) answer gives = same_use laws begun start (state old.devices) old.memory is parts safe files.in_use actor new.memory
      (waits_same _ (other_holder actor old.memory.turn) old.memory answer new.memory gives.0 (λ done. ap (λ (s : State). s.volume) done.1))
  used actor (events.Commit counted) answer gives = commit_use laws begun start (state old.devices) old.memory is parts safe files.in_use actor new.memory counted answer gives.0
  used actor events.Finish answer gives = use_of laws begun start (state old.devices) old.memory is parts safe files.in_use actor new.memory _ gives.0.1 files.in_use
  used actor events.Drop answer gives = use_of laws begun start (state old.devices) old.memory is parts safe files.in_use actor new.memory _ gives.0.1 files.in_use
  used actor (events.Next work) answer gives = use_of laws begun start (state old.devices) old.memory is parts safe files.in_use actor new.memory _ gives.0.1 files.in_use
  used actor events.Seal answer gives = seal_use laws begun start (state old.devices) old.memory is parts safe files.in_use actor new.memory answer gives.0
  used actor events.Settle answer gives = settle_use laws begun start (state old.devices) old.memory is parts safe files.in_use actor new.memory answer gives.0
  used actor (events.Freeze node) answer gives = freeze_use laws begun start (state old.devices) old.memory is parts safe files.in_use actor new.memory node answer gives.0
  used actor events.CommitNodes answer gives = place_use laws begun start (state old.devices) old.memory is parts safe files.in_use actor new.memory answer gives.0

  -- and none of these blocks is written.
  files_spared : (actor : ℕ) (event : Event) (answer : Answer) → StepGives tells state old actor event answer new → Spares (IsOfFiles begun) (state old.devices) (state new.devices)
  files_spared actor event answer gives =
      spared (IsOfFiles begun) tells told state old new safe.safe.stands.disks (part_outside_files begun start (state old.devices) old.memory.volume is.volume safe begins sound)
      (block_outside_files begun start (state old.devices) old.memory.volume is.volume safe begins parts files.in_use) actor event answer gives

  -- So whatever a crash leaves at a moment of the event holds them.
  pub files_held : (actor : ℕ) (event : Event) (answer : Answer) → StepGives tells state old actor event answer new
      → (moment : ℕ) → (state old.devices).moment ≤ moment → moment ≤ (state new.devices).moment → (image : Image) → IsCrashImage ((state new.devices).disks moment) image → HoldsFiles begun start image
  files_held actor event answer gives = still_holds begun start (state old.devices) (state new.devices) (files_spared actor event answer gives) files.left

  pub files_stepped : (actor : ℕ) (event : Event) (answer : Answer) → StepGives tells state old actor event answer new → KeepsFiles begun start (state new.devices) new.memory.volume
  files_stepped actor event answer gives = record {
    in_use = used actor event answer gives;
    left = λ image may. files_held actor event answer gives (state new.devices).moment (files_spared actor event answer gives).later (omega arith) image may;
  }
