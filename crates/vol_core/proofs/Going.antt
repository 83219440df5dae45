-- Devices are only written and flushed by an event, and what was stays; a failure that is answered names the device whose count rose, and it is one of the devices.
use Rattle.std.proofs.Common.{◌≡◌, ◌<◌, ⊎_elim, ℕ, true, List, [], ◌∷◌, ◌++◌, length, Option, Some, None, IfSome, refl, sym, ap, subst, ◌∙◌, arith}
use Rattle.std.proofs.lemmas.Bool.{cases_lt}
use Rattle.std.proofs.lemmas.List.{get_or_past}
use Rattle.std.proofs.lemmas.List.Elements.{All-contains, All-head}
use Rattle.std.specs.Prelude.{All, Contains, slice_index_or}
use Rattle.btree_map.specs.Trees.{keys_in}
use Rattle.bucket_pool.specs.NodeBuckets.{MayHoldNode}
use Rattle.dirty_nodes.specs.Ids.{id_trees}
use Rattle.core_state.specs.Devices.{FlushesDevice, WritesEntry, WritesNode}
use Rattle.core_state.specs.Events.{CommitGives, CommitNodesGives, EventGives, Fits, FlushGives, FreezeGives, HasIds, IsOfMemory, SealGives, SettleGives, Waits, WriteSetGives}
use Rattle.core_state.specs.States.{IsState, State, other_holder}
use Rattle.core_volume.specs.Volumes.{IsFrozenKept, IsVolume, KeepParts, Volume}
use Rattle.core_actors.specs.declared.answer.Answer.{Answer}
use Rattle.core_actors.specs.declared.answer.Answer.TheVariants as answers
use Rattle.core_actors.specs.declared.event.Event.{Event}
use Rattle.core_actors.specs.declared.event.Event.TheVariants as events
use Rattle.dev_model.specs.Devices.{DevicesState, with_write_fault}
use Rattle.dev_model.specs.FrameLaws.{go_on_by_write, go_on_here}
use Rattle.dev_model.specs.Frames.{GoOn, after_writes}
use Rattle.geometry.specs.LayoutFacts.{HasPlaces, has_places}
use Rattle.geometry.specs.Layouts.{is_layout_of}
use Rattle.journal_ring.specs.Rings.{RingState}
use Rattle.node_writeback.specs.NodeWork.{IsUnfinished, birth_left, left_nodes}
use Rattle.node_writeback.specs.declared.node.UnfinishedNode.{UnfinishedNode}
use Rattle.replay.specs.Mending.{KeepsPast}
use Rattle.vol_types.specs.declared.layout.Layout.{Layout}
use Rattle.vol_types.specs.declared.pointers.Place.{Place}
use Rattle.vol_core.specs.Cores.{CoreState, StepGives}
use Rattle.vol_core.specs.Left.{failed_by}
use Rattle.vol_core.proofs.FoundRoots.{all_right}
use Rattle.vol_core.proofs.NodeStages.{writing_is}
use Rattle.vol_core.proofs.Stepped.{block_refused, block_told, flush_done, flush_failed}

-- ---- devices go on

module _ (old new : DevicesState) where
  goes_on_still : new ≡ old → GoOn old new
  goes_on_still same = subst (GoOn old) (sym same) (go_on_here old)

  -- Devices go on where a part of an entry is written, or not,
  pub entry_goes_on : (tells : Type 0) (ring : RingState) (answer : Answer) → WritesEntry tells ring answer old new → GoOn old new
  entry_goes_on tells ring answers.Done calls = calls.goes_on
  entry_goes_on tells ring (answers.DeviceFault dev) calls = calls.goes_on
  entry_goes_on tells ring (answers.At stage durable) calls = goes_on_still calls
  entry_goes_on tells ring (answers.Refused refusal) calls = goes_on_still calls
  entry_goes_on tells ring answers.NoMemory calls = goes_on_still calls
  entry_goes_on tells ring (answers.Found keys) calls = goes_on_still calls
  entry_goes_on tells ring (answers.Ids tree) calls = goes_on_still calls
  entry_goes_on tells ring (answers.Wait holder) calls = goes_on_still calls

  -- where a device is flushed, or not,
  pub flush_goes_on : (tells : Type 0) (dev : ℕ) (answer : Answer) → new.sizes ≡ old.sizes → FlushesDevice tells dev answer old new → GoOn old new
  flush_goes_on tells dev answers.Done sizes calls = go_on_by_write tells dev flush_done _ _ old new calls sizes
  flush_goes_on tells dev (answers.DeviceFault failed) sizes calls = go_on_by_write tells dev flush_failed _ _ old new calls sizes
  flush_goes_on tells dev (answers.At stage durable) sizes calls = goes_on_still calls
  flush_goes_on tells dev (answers.Refused refusal) sizes calls = goes_on_still calls
  flush_goes_on tells dev answers.NoMemory sizes calls = goes_on_still calls
  flush_goes_on tells dev (answers.Found keys) sizes calls = goes_on_still calls
  flush_goes_on tells dev (answers.Ids tree) sizes calls = goes_on_still calls
  flush_goes_on tells dev (answers.Wait holder) sizes calls = goes_on_still calls

  -- and where a block of a node is.
  pub set_goes_on : (tells : Type 0) (unfinished : Option UnfinishedNode) (answer : Answer) → WritesNode tells unfinished answer old new → GoOn old new
  set_goes_on tells (Some unfinished) answers.Done calls = calls.goes_on
  set_goes_on tells (Some unfinished) (answers.DeviceFault dev) calls = calls.goes_on
  set_goes_on tells (Some unfinished) (answers.At stage durable) calls = goes_on_still calls
  set_goes_on tells (Some unfinished) (answers.Refused refusal) calls = goes_on_still calls
  set_goes_on tells (Some unfinished) answers.NoMemory calls = goes_on_still calls
  set_goes_on tells (Some unfinished) (answers.Found keys) calls = goes_on_still calls
  set_goes_on tells (Some unfinished) (answers.Ids tree) calls = goes_on_still calls
  set_goes_on tells (Some unfinished) (answers.Wait holder) calls = goes_on_still calls
  set_goes_on tells None answers.Done calls = goes_on_still calls
  set_goes_on tells None (answers.DeviceFault dev) calls = goes_on_still calls
  set_goes_on tells None (answers.At stage durable) calls = goes_on_still calls
  set_goes_on tells None (answers.Refused refusal) calls = goes_on_still calls
  set_goes_on tells None answers.NoMemory calls = goes_on_still calls
  set_goes_on tells None (answers.Found keys) calls = goes_on_still calls
  set_goes_on tells None (answers.Ids tree) calls = goes_on_still calls
  set_goes_on tells None (answers.Wait holder) calls = goes_on_still calls

-- ---- what was stays, and counts rise

-- What the disks were stays where they are told, and the counts rise by the failure of this device, or by none.
pub record IsCalled (tells : Type 0) (old new : DevicesState) (failed : Option ℕ) : Type 0 where
  pub past : tells → KeepsPast old new
  pub cause : new.faults ≡ after_writes failed old.faults

module _ (tells : Type 0) (old new : DevicesState) where
  uncalled : new ≡ old → IsCalled tells old new None
  uncalled same = subst (λ (state : DevicesState). IsCalled tells old state None) (sym same) (record { past = λ told moment within. refl; cause = refl })

  entry_called : (ring : RingState) (answer : Answer) → WritesEntry tells ring answer old new → IsCalled tells old new (failed_by answer)
  entry_called ring answers.Done calls = record { past = λ told. (calls.crashes told).past; cause = calls.cause }
  entry_called ring (answers.DeviceFault dev) calls = record { past = λ told. (calls.crashes told).past; cause = calls.cause }
  entry_called ring (answers.At stage durable) calls = uncalled calls
  entry_called ring (answers.Refused refusal) calls = uncalled calls
  entry_called ring answers.NoMemory calls = uncalled calls
  entry_called ring (answers.Found keys) calls = uncalled calls
  entry_called ring (answers.Ids tree) calls = uncalled calls
  entry_called ring (answers.Wait holder) calls = uncalled calls

  flush_called : (dev tick actor : ℕ) (memory : State) (answer : Answer) (after : State) → FlushGives dev tick memory actor answer after → FlushesDevice tells dev answer old new → IsCalled tells old new (failed_by answer)
  flush_called dev tick actor memory answers.Done after gives calls = record { past = λ told. (calls.disks told).past; cause = calls.faults }
  flush_called dev tick actor memory (answers.DeviceFault failed) after gives calls =
      record { past = λ told. (calls.disks told).past; cause = calls.faults ∙ ap (λ (d : ℕ). with_write_fault d old.faults) (sym gives.0) }
  flush_called dev tick actor memory (answers.Refused refusal) after gives calls = uncalled calls
  flush_called dev tick actor memory (answers.At stage durable) after gives calls = absurd gives
  flush_called dev tick actor memory answers.NoMemory after gives calls = absurd gives
  flush_called dev tick actor memory (answers.Found keys) after gives calls = absurd gives
  flush_called dev tick actor memory (answers.Ids tree) after gives calls = absurd gives
  flush_called dev tick actor memory (answers.Wait holder) after gives calls = absurd gives

  set_called : (node tick actor : ℕ) (memory : State) (answer : Answer) (after : State) → WriteSetGives node tick memory actor answer after → (unfinished : Option UnfinishedNode) → memory.volume.work.unfinished ≡ unfinished → WritesNode tells unfinished answer old new
      → IsCalled tells old new (failed_by answer)
  set_called node tick actor memory answers.Done after gives None left calls = uncalled calls
  set_called node tick actor memory answers.Done after gives (Some unfinished) left calls = record { past = λ told. (calls.crashes told).past; cause = calls.cause }
  set_called node tick actor memory (answers.DeviceFault dev) after gives None left calls = absurd (writing_is memory.volume node gives.0.stage_is (ap birth_left left))
  set_called node tick actor memory (answers.DeviceFault dev) after gives (Some unfinished) left calls = record { past = λ told. (calls.crashes told).past; cause = calls.cause }
  set_called node tick actor memory (answers.At stage durable) after gives unfinished left calls = uncalled (block_told tells unfinished stage durable old new calls)
  set_called node tick actor memory (answers.Refused refusal) after gives unfinished left calls = uncalled (block_refused tells unfinished refusal old new calls)
  set_called node tick actor memory answers.NoMemory after gives unfinished left calls = absurd gives
  set_called node tick actor memory (answers.Found keys) after gives unfinished left calls = absurd gives
  set_called node tick actor memory (answers.Ids tree) after gives unfinished left calls = absurd gives
  set_called node tick actor memory (answers.Wait holder) after gives unfinished left calls = absurd gives

-- ---- events of memory

-- An answer that is none of a failed device names none.
unfailed : (P : Answer → Type 0) → ((dev : ℕ) → P (answers.DeviceFault dev) → ⊥) → (answer : Answer) → P answer → failed_by answer ≡ None
unfailed P none answers.Done is = refl
unfailed P none (answers.At stage durable) is = refl
unfailed P none (answers.Refused refusal) is = refl
unfailed P none answers.NoMemory is = refl
unfailed P none (answers.Found keys) is = refl
unfailed P none (answers.Ids tree) is = refl
unfailed P none (answers.Wait holder) is = refl
unfailed P none (answers.DeviceFault dev) is = absurd (none dev is)

waits_unfailed : (OrElse : Type 0) (holder : Option ℕ) (old : State) (answer : Answer) (new : State) → Waits holder old answer new OrElse → (OrElse → failed_by answer ≡ None) → failed_by answer ≡ None
waits_unfailed OrElse None old answer new waits none = none waits
waits_unfailed OrElse (Some holder) old answer new waits none = ap failed_by waits.0

module _ (memory : State) (actor : ℕ) (answer : Answer) (after : State) where
  -- An event of memory fails at no device.
  memory_unfailed : (event : Event) → IsOfMemory event → EventGives memory actor event answer after → failed_by answer ≡ None
  memory_unfailed (events.Begin first) own gives = ap failed_by gives.0
  memory_unfailed (events.Look query) own gives = waits_unfailed _ (other_holder actor memory.turn) memory answer after gives (λ either. ⊎_elim (λ none. ap failed_by none.0) (λ found. ap failed_by found.0) either)
  memory_unfailed events.LookIds own gives = waits_unfailed _ (other_holder actor memory.turn) memory answer after gives (λ either. ⊎_elim (λ none. ap failed_by none.0) (λ found. unfailed (λ a. HasIds a (id_trees (keys_in memory.volume.trees))) (λ dev is. is) answer found.0) either)
  memory_unfailed (events.Intend updates) own gives = waits_unfailed _ (other_holder actor memory.turn) memory answer after gives (λ done. ap failed_by done.0)
  memory_unfailed (events.Commit counted) own gives = unfailed (λ a. CommitGives memory actor counted a after) (λ dev is. is) answer gives
  memory_unfailed events.Finish own gives = ap failed_by gives.0
  memory_unfailed events.Drop own gives = ap failed_by gives.0
  memory_unfailed (events.Next work) own gives = ap failed_by gives.0
  memory_unfailed events.Seal own gives = unfailed (λ a. SealGives memory actor a after) (λ dev is. is) answer gives
  memory_unfailed events.Settle own gives = unfailed (λ a. SettleGives memory actor a after) (λ dev is. is) answer gives
  memory_unfailed (events.Freeze node) own gives = unfailed (λ a. FreezeGives node memory actor a after) (λ dev is. is) answer gives
  memory_unfailed events.CommitNodes own gives = unfailed (λ a. CommitNodesGives memory actor a after) (λ dev is. is) answer gives
  memory_unfailed events.WriteEntry own gives = absurd own
  memory_unfailed (events.Flush dev) own gives = absurd own
  memory_unfailed (events.WriteSet node) own gives = absurd own

-- ---- the device that failed

-- Each place where a node may lie is one of a device of the layout.
place_device : (layout : Layout) (place : Place) → MayHoldNode layout place → place.dev < length layout.blocks
place_device layout place may = ⊎_elim
    (λ (there : place.dev < length layout.blocks). there)
    (λ past. let room = may.within in let none : slice_index_or layout.blocks place.dev 0 ≡ 0 = get_or_past layout.blocks place.dev 0 past in absurd (omega (arith, room, none)))
    (cases_lt place.dev (length layout.blocks))

module _ (sizes : List ℕ) (volume : Volume) (lies : is_layout_of sizes volume.layout ≡ true) (is : IsVolume volume) (parts : KeepParts volume) where
  abbrev IsDevice : ℕ → Type 0
  IsDevice dev = dev < length sizes

  abbrev places : HasPlaces sizes volume.layout
  places = has_places sizes volume.layout lies

  -- A device of the layout is one.
  layout_device : (dev : ℕ) → dev < length volume.layout.blocks → IsDevice dev
  layout_device dev low = let count = places.devices in omega (arith, low, count)

  -- A metadata device is one.
  mirror_device : (dev : ℕ) → dev < volume.writer.ring.mirrors → IsDevice dev
  mirror_device dev low =
      let mirrors = is.ring.mirrors in
      let few = places.mirrors in
      omega (arith, low, mirrors, few)

  -- So is that of a place of the unfinished node.
  node_device : (unfinished : UnfinishedNode) → volume.work.unfinished ≡ Some unfinished → (dev : ℕ) (place : Place) → Contains unfinished.node.blocked.places place → dev ≡ place.dev → IsDevice dev
  node_device unfinished left dev place there device =
      let plan : IsUnfinished unfinished = subst (λ (u : Option UnfinishedNode). IfSome u IsUnfinished) left parts.work.unfinished in
      let each : All (IsFrozenKept volume) (volume.work.finished ++ unfinished.node ∷ []) = subst (λ (u : Option UnfinishedNode). All (IsFrozenKept volume) (volume.work.finished ++ left_nodes u)) left is.work.each in
      let frozen : IsFrozenKept volume unfinished.node = All-head (IsFrozenKept volume) unfinished.node [] (all_right (IsFrozenKept volume) volume.work.finished (unfinished.node ∷ []) each) in
      let member : Contains unfinished.node.fresh.places place = subst (λ (ps : List Place). Contains ps place) plan.node.places there in
      let low = place_device volume.layout place (All-contains (MayHoldNode volume.layout) unfinished.node.fresh.places place frozen.placed member) in
      layout_device dev (omega (arith, low, device))

module _ (tells : Type 0) (sizes : List ℕ) (old new : DevicesState) (memory : State) (lies : is_layout_of sizes memory.volume.layout ≡ true) (is : IsState memory) (parts : KeepParts memory.volume) where
  abbrev IsNamed : Answer → Type 0
  IsNamed answer = IfSome (failed_by answer) (λ dev. dev < length sizes)

  entry_names : (answer : Answer) → WritesEntry tells memory.volume.writer.ring answer old new → IsNamed answer
  entry_names answers.Done calls = tt
  entry_names (answers.DeviceFault dev) calls = mirror_device sizes memory.volume lies is.volume parts dev calls.device
  entry_names (answers.At stage durable) calls = tt
  entry_names (answers.Refused refusal) calls = tt
  entry_names answers.NoMemory calls = tt
  entry_names (answers.Found keys) calls = tt
  entry_names (answers.Ids tree) calls = tt
  entry_names (answers.Wait holder) calls = tt

  flush_names : (dev tick actor : ℕ) → dev < length memory.volume.layout.blocks → (answer : Answer) (after : State) → FlushGives dev tick memory actor answer after → IsNamed answer
  flush_names dev tick actor there answers.Done after gives = tt
  flush_names dev tick actor there (answers.DeviceFault failed) after gives = let same : failed ≡ dev = gives.0 in layout_device sizes memory.volume lies is.volume parts failed (omega (arith, there, same))
  flush_names dev tick actor there (answers.At stage durable) after gives = tt
  flush_names dev tick actor there (answers.Refused refusal) after gives = tt
  flush_names dev tick actor there answers.NoMemory after gives = tt
  flush_names dev tick actor there (answers.Found keys) after gives = tt
  flush_names dev tick actor there (answers.Ids tree) after gives = tt
  flush_names dev tick actor there (answers.Wait holder) after gives = tt

  set_names : (node tick actor : ℕ) (answer : Answer) (after : State) → WriteSetGives node tick memory actor answer after → (unfinished : Option UnfinishedNode) → memory.volume.work.unfinished ≡ unfinished → WritesNode tells unfinished answer old new → IsNamed answer
  set_names node tick actor (answers.DeviceFault dev) after gives None left calls = absurd (writing_is memory.volume node gives.0.stage_is (ap birth_left left))
  set_names node tick actor (answers.DeviceFault dev) after gives (Some unfinished) left calls = node_device sizes memory.volume lies is.volume parts unfinished left dev calls.device.0 calls.device.1 calls.device.2
  set_names node tick actor answers.Done after gives unfinished left calls = tt
  set_names node tick actor (answers.At stage durable) after gives unfinished left calls = tt
  set_names node tick actor (answers.Refused refusal) after gives unfinished left calls = tt
  set_names node tick actor answers.NoMemory after gives unfinished left calls = tt
  set_names node tick actor (answers.Found keys) after gives unfinished left calls = tt
  set_names node tick actor (answers.Ids tree) after gives unfinished left calls = tt
  set_names node tick actor (answers.Wait holder) after gives unfinished left calls = tt

-- ---- whatever event an actor makes

module _ {D : Type 0} (tells : Type 0) (state : D → DevicesState) (old new : CoreState D) (actor : ℕ) (answer : Answer) where
  abbrev Called : Type 0
  Called = IsCalled tells (state old.devices) (state new.devices) (failed_by answer)

  memory_called : (event : Event) → IsOfMemory event → EventGives old.memory actor event answer new.memory × (new.devices ≡ old.devices) → Called
  memory_called event own gives =
      subst (IsCalled tells (state old.devices) (state new.devices)) (sym (memory_unfailed old.memory actor answer new.memory event own gives.0)) (uncalled tells (state old.devices) (state new.devices) (ap state gives.1))

  -- What the disks were stays, and the counts rise by the failure that is answered.
  pub step_called : (event : Event) → StepGives tells state old actor event answer new → Called
  step_called events.WriteEntry gives = entry_called tells (state old.devices) (state new.devices) old.memory.volume.writer.ring answer gives.1
  step_called (events.Flush dev) gives = flush_called tells (state old.devices) (state new.devices) dev (state new.devices).moment actor old.memory answer new.memory gives.0 gives.1
  step_called (events.WriteSet node) gives = set_called tells (state old.devices) (state new.devices) node (state new.devices).moment actor old.memory answer new.memory gives.0 old.memory.volume.work.unfinished refl gives.1
  step_called (events.Begin first) gives = memory_called (events.Begin first) tt gives
  step_called (events.Look query) gives = memory_called (events.Look query) tt gives
  step_called events.LookIds gives = memory_called events.LookIds tt gives
  step_called (events.Intend updates) gives = memory_called (events.Intend updates) tt gives
  step_called (events.Commit counted) gives = memory_called (events.Commit counted) tt gives
  step_called events.Finish gives = memory_called events.Finish tt gives
  step_called events.Drop gives = memory_called events.Drop tt gives
  step_called (events.Next work) gives = memory_called (events.Next work) tt gives
  step_called events.Seal gives = memory_called events.Seal tt gives
  step_called events.Settle gives = memory_called events.Settle tt gives
  step_called (events.Freeze node) gives = memory_called (events.Freeze node) tt gives
  step_called events.CommitNodes gives = memory_called events.CommitNodes tt gives

  module _ (sizes : List ℕ) (lies : is_layout_of sizes old.memory.volume.layout ≡ true) (is : IsState old.memory) (parts : KeepParts old.memory.volume) where
    abbrev Named : Type 0
    Named = IfSome (failed_by answer) (λ dev. dev < length sizes)

    memory_names : (event : Event) → IsOfMemory event → EventGives old.memory actor event answer new.memory × (new.devices ≡ old.devices) → Named
    memory_names event own gives = subst (λ (failed : Option ℕ). IfSome failed (λ dev. dev < length sizes)) (sym (memory_unfailed old.memory actor answer new.memory event own gives.0)) tt

    -- The device that an answer names as failed is one of the devices.
    pub step_names : (event : Event) → Fits old.memory actor event → StepGives tells state old actor event answer new → Named
    step_names events.WriteEntry fit gives = entry_names tells sizes (state old.devices) (state new.devices) old.memory lies is parts answer gives.1
    step_names (events.Flush dev) fit gives = flush_names tells sizes (state old.devices) (state new.devices) old.memory lies is parts dev (state new.devices).moment actor fit.fits answer new.memory gives.0
    step_names (events.WriteSet node) fit gives = set_names tells sizes (state old.devices) (state new.devices) old.memory lies is parts node (state new.devices).moment actor answer new.memory gives.0 old.memory.volume.work.unfinished refl gives.1
    step_names (events.Begin first) fit gives = memory_names (events.Begin first) tt gives
    step_names (events.Look query) fit gives = memory_names (events.Look query) tt gives
    step_names events.LookIds fit gives = memory_names events.LookIds tt gives
    step_names (events.Intend updates) fit gives = memory_names (events.Intend updates) tt gives
    step_names (events.Commit counted) fit gives = memory_names (events.Commit counted) tt gives
    step_names events.Finish fit gives = memory_names events.Finish tt gives
    step_names events.Drop fit gives = memory_names events.Drop tt gives
    step_names (events.Next work) fit gives = memory_names (events.Next work) tt gives
    step_names events.Seal fit gives = memory_names events.Seal tt gives
    step_names events.Settle fit gives = memory_names events.Settle tt gives
    step_names (events.Freeze node) fit gives = memory_names (events.Freeze node) tt gives
    step_names events.CommitNodes fit gives = memory_names events.CommitNodes tt gives
