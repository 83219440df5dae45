-- What the events of an actor write, told by places that count for something: a part of the entry in flight, a block of a leaf that isn't finished, and nothing else. Where
-- none of these counts, whatever a crash leaves at a moment of the event is what it might leave before, but at places that don't.
use Rattle.std.proofs.Common.{◌≡◌, ◌+◌, ◌/◌, ◌%◌, ℕ, List, [], ◌∷◌, ◌++◌, map, Option, Some, None, Result, refl, sym, ap, subst, arith}
use Rattle.std.proofs.lemmas.List.Elements.{All-contains, All-head}
use Rattle.std.specs.Prelude.{All, Contains, IfSome}
use Rattle.bucket_pool.specs.NodeBuckets.{HoldsNode, MayHoldNode}
use Rattle.bucket_pool.specs.Space.{Space}
use Rattle.crash_safety.specs.KeptLeaves.{HoldsOwn, IsFreshKept}
use Rattle.crash_safety.specs.CheckpointLeaves.{FreshLeaf}
use Rattle.core_state.specs.Devices.{FlushesDevice, WritesEntry, WritesNode}
use Rattle.core_state.specs.Events.{WriteGives}
use Rattle.core_state.specs.States.{State}
use Rattle.core_volume.specs.Volumes.{KeepParts, Volume, stage_of}
use Rattle.core_actors.specs.declared.answer.Answer.{Answer}
use Rattle.core_actors.specs.declared.answer.Answer.TheVariants as answers
use Rattle.core_actors.specs.declared.event.Event.{Event}
use Rattle.core_actors.specs.declared.event.Event.TheVariants as events
use Rattle.dev_model.specs.CrashLaws.{goes_on_flush, left_itself, same_but_more, started}
use Rattle.dev_model.specs.Crashes.{EachCrash, IsCrashImageBut}
use Rattle.dev_model.specs.Devices.{DevicesState, IsFlush, now}
use Rattle.dev_model.specs.Disk.{IsDisk}
use Rattle.journal_writer.specs.Writes.{WritesPart}
use Rattle.journal_writer.specs.declared.stage.Stage.TheVariants.{WriteEntry}
use Rattle.image_view.specs.Found.{Found}
use Rattle.journal_ring.specs.Rings.{IsPartPlace}
use Rattle.node_store.specs.Writes.{IsCopyOf}
use Rattle.node_writeback.specs.NodeWork.{IsUnfinished}
use Rattle.node_writeback.specs.NodeWrites.{WritesNodePart}
use Rattle.node_writeback.specs.declared.node.UnfinishedNode.{UnfinishedNode}
use Rattle.vol_types.specs.Limits.{bucket_blocks}
use Rattle.vol_types.specs.declared.layout.Layout.{Layout}
use Rattle.vol_types.specs.declared.pointers.Place.{Place}
use Rattle.vol_core.specs.Cores.{CoreState, StepGives}
use Rattle.vol_core.specs.Safety.{IsCoreSafe}
use Rattle.vol_core.specs.VolumeLeaves.{fresh_leaf, fresh_leaves, leaves_left}
use Rattle.vol_core.proofs.FoundRoots.{all_right}
use Rattle.vol_core.proofs.Stepped.{flush_done, flush_failed}

-- Whatever a crash leaves between two states is what it might leave before, but at places that don't count.
abbrev pub Spares : (ℕ → ℕ → Type 0) → DevicesState → DevicesState → Type 0
Spares counts old new = EachCrash (λ _ _ image. IsCrashImageBut (λ dev block. ¬ counts dev block) (now old) image) old new

-- No place counts of the part that is written next.
abbrev pub IsPartAside : (ℕ → ℕ → Type 0) → Volume → Type 0
IsPartAside counts volume = stage_of volume ≡ WriteEntry → (dev block : ℕ) → IsPartPlace volume.writer.ring dev block → ¬ counts dev block

-- No place counts of the next block of the leaf that isn't finished.
abbrev pub IsBlockAside : (ℕ → ℕ → Type 0) → Volume → Type 0
IsBlockAside counts volume = (unfinished : UnfinishedNode) → volume.work.unfinished ≡ Some unfinished → (dev block : ℕ) → IsCopyOf unfinished.node.blocked.places (unfinished.node.blocked.block + unfinished.written) dev block → ¬ counts dev block

-- ---- one call

module _ (counts : ℕ → ℕ → Type 0) where
  abbrev Aside : ℕ → ℕ → Type 0
  Aside dev block = ¬ counts dev block

  -- What counts is spared where no place does that was written,
  spares : (touched : ℕ → ℕ → Type 0) (old new : DevicesState) → ((dev block : ℕ) → touched dev block → ¬ counts dev block) → EachCrash (λ _ _ image. IsCrashImageBut touched (now old) image) old new → Spares counts old new
  spares touched old new aside crashes = record {
    later = crashes.later;
    past = crashes.past;
    each = λ m from to image may. let left = crashes.each m from to image may in (left.0, left.1, same_but_more touched Aside left.0 image aside left.2);
  }

  -- where nothing was written,
  pub spares_here : (state : DevicesState) → Spares counts state state
  spares_here state = started (λ _ _ image. IsCrashImageBut Aside (now state) image) state (λ image may. left_itself Aside (now state) image may)

  spares_still : (old new : DevicesState) → new ≡ old → Spares counts old new
  spares_still old new same = subst (Spares counts old) (sym same) (spares_here old)

  -- and where a device was flushed.
  flush_spares : {T E : Type 0} (tells : Type 0) → tells → (dev : ℕ) (result : Result T E) (old new : DevicesState) → All IsDisk (now old) → IsFlush tells dev result old new → Spares counts old new
  flush_spares tells told dev result old new disks call = goes_on_flush Aside (now old) old old (spares_here old) disks result dev new (call.disks told)

-- ---- an event

module _ (counts : ℕ → ℕ → Type 0) (old new : DevicesState) (memory : State) (disks : All IsDisk (now old)) (part_aside : IsPartAside counts memory.volume) (block_aside : IsBlockAside counts memory.volume) (tells : Type 0) (told : tells) where
  part_written : (failed : Option ℕ) → stage_of memory.volume ≡ WriteEntry → WritesPart tells memory.volume.writer.ring failed old new → Spares counts old new
  part_written failed stage calls = spares counts (IsPartPlace memory.volume.writer.ring) old new (part_aside stage) (calls.crashes told)

  part_spared : (tick actor : ℕ) (answer : Answer) (after : State) → WriteGives tick memory actor answer after → WritesEntry tells memory.volume.writer.ring answer old new → Spares counts old new
  part_spared tick actor answers.Done after gives calls = part_written None gives.0.stage_is calls
  part_spared tick actor (answers.DeviceFault dev) after gives calls = part_written (Some dev) gives.0.stage_is calls
  part_spared tick actor (answers.At stage durable) after gives calls = spares_still counts old new calls
  part_spared tick actor (answers.Refused refusal) after gives calls = spares_still counts old new calls
  part_spared tick actor answers.NoMemory after gives calls = spares_still counts old new calls
  part_spared tick actor (answers.Found keys) after gives calls = spares_still counts old new calls
  part_spared tick actor (answers.Ids tree) after gives calls = spares_still counts old new calls
  part_spared tick actor (answers.Wait holder) after gives calls = spares_still counts old new calls

  flush_spared : (dev : ℕ) (answer : Answer) → FlushesDevice tells dev answer old new → Spares counts old new
  flush_spared dev answers.Done calls = flush_spares counts tells told dev flush_done old new disks calls
  flush_spared dev (answers.DeviceFault failed) calls = flush_spares counts tells told dev flush_failed old new disks calls
  flush_spared dev (answers.At stage durable) calls = spares_still counts old new calls
  flush_spared dev (answers.Refused refusal) calls = spares_still counts old new calls
  flush_spared dev answers.NoMemory calls = spares_still counts old new calls
  flush_spared dev (answers.Found keys) calls = spares_still counts old new calls
  flush_spared dev (answers.Ids tree) calls = spares_still counts old new calls
  flush_spared dev (answers.Wait holder) calls = spares_still counts old new calls

  block_written : (failed : Option ℕ) (unfinished : UnfinishedNode) → memory.volume.work.unfinished ≡ Some unfinished → WritesNodePart tells unfinished.node.blocked unfinished.written failed old new → Spares counts old new
  block_written failed unfinished left calls = spares counts (IsCopyOf unfinished.node.blocked.places (unfinished.node.blocked.block + unfinished.written)) old new (block_aside unfinished left) (calls.crashes told)

  block_spared : (unfinished : Option UnfinishedNode) → memory.volume.work.unfinished ≡ unfinished → (answer : Answer) → WritesNode tells unfinished answer old new → Spares counts old new
  block_spared None left answer calls = spares_still counts old new (idle answer calls)
    where
      idle : (answer : Answer) → WritesNode tells None answer old new → new ≡ old
      idle answers.Done calls = calls
      idle (answers.DeviceFault dev) calls = calls
      idle (answers.At stage durable) calls = calls
      idle (answers.Refused refusal) calls = calls
      idle answers.NoMemory calls = calls
      idle (answers.Found keys) calls = calls
      idle (answers.Ids tree) calls = calls
      idle (answers.Wait holder) calls = calls
  block_spared (Some unfinished) left answers.Done calls = block_written None unfinished left calls
  block_spared (Some unfinished) left (answers.DeviceFault dev) calls = block_written (Some dev) unfinished left calls
  block_spared (Some unfinished) left (answers.At stage durable) calls = spares_still counts old new calls
  block_spared (Some unfinished) left (answers.Refused refusal) calls = spares_still counts old new calls
  block_spared (Some unfinished) left answers.NoMemory calls = spares_still counts old new calls
  block_spared (Some unfinished) left (answers.Found keys) calls = spares_still counts old new calls
  block_spared (Some unfinished) left (answers.Ids tree) calls = spares_still counts old new calls
  block_spared (Some unfinished) left (answers.Wait holder) calls = spares_still counts old new calls

module _ {D : Type 0} (counts : ℕ → ℕ → Type 0) (tells : Type 0) (told : tells) (state : D → DevicesState) (old new : CoreState D) (disks : All IsDisk (now (state old.devices))) (part_aside : IsPartAside counts old.memory.volume)
    (block_aside : IsBlockAside counts old.memory.volume) where
  abbrev Spared : Type 0
  Spared = Spares counts (state old.devices) (state new.devices)

  same_devices : new.devices ≡ old.devices → Spared
  same_devices same = spares_still counts (state old.devices) (state new.devices) (ap state same)

  -- Whatever event an actor makes spares what counts.
  pub spared : (actor : ℕ) (event : Event) (answer : Answer) → StepGives tells state old actor event answer new → Spared
  spared actor events.WriteEntry answer gives =
      part_spared counts (state old.devices) (state new.devices) old.memory disks part_aside block_aside tells told (state new.devices).moment actor answer new.memory gives.0 gives.1
  spared actor (events.Flush dev) answer gives = flush_spared counts (state old.devices) (state new.devices) old.memory disks part_aside block_aside tells told dev answer gives.1
  spared actor (events.WriteSet node) answer gives =
      block_spared counts (state old.devices) (state new.devices) old.memory disks part_aside block_aside tells told old.memory.volume.work.unfinished refl answer gives.1
  spared actor (events.Begin first) answer gives = same_devices gives.1
  spared actor (events.Look query) answer gives = same_devices gives.1
  spared actor events.LookIds answer gives = same_devices gives.1
  spared actor (events.Intend updates) answer gives = same_devices gives.1
  spared actor (events.Commit counted) answer gives = same_devices gives.1
  spared actor events.Finish answer gives = same_devices gives.1
  spared actor events.Drop answer gives = same_devices gives.1
  spared actor (events.Next work) answer gives = same_devices gives.1
  spared actor events.Seal answer gives = same_devices gives.1
  spared actor events.Settle answer gives = same_devices gives.1
  spared actor (events.Freeze node) answer gives = same_devices gives.1
  spared actor events.CommitNodes answer gives = same_devices gives.1

-- ---- the blocks of a leaf

-- The block lies in a bucket that holds a node, where nodes may lie.
pub record LiesInNode (layout : Layout) (space : Space) (dev block : ℕ) : Type 0 where
  pub place : Place
  pub device : dev ≡ place.dev
  pub bucket : block / 16 ≡ place.block / 16
  pub node : HoldsNode space place
  pub may : MayHoldNode layout place

-- So does the next block of a leaf that isn't finished.
pub unfinished_lies : (begun : Found) (start state : DevicesState) (volume : Volume) (kept : IsCoreSafe begun start state volume) → KeepParts volume → (unfinished : UnfinishedNode) → volume.work.unfinished ≡ Some unfinished
    → (dev block : ℕ) → IsCopyOf unfinished.node.blocked.places (unfinished.node.blocked.block + unfinished.written) dev block → LiesInNode kept.f.layout volume.space dev block
unfinished_lies begun start state volume kept parts unfinished left dev block at =
    let leaf : FreshLeaf = fresh_leaf volume.later unfinished.written unfinished.node in
    let whole : List FreshLeaf = map (fresh_leaf volume.later bucket_blocks) volume.work.finished in
    let fresh_is : fresh_leaves volume.later volume.work ≡ whole ++ leaf ∷ [] = ap (λ (u : Option UnfinishedNode). whole ++ leaves_left volume.later u) left in
    let Own : FreshLeaf → Type 0 = λ l. HoldsOwn volume.space l.node in
    let Fresh : FreshLeaf → Type 0 = IsFreshKept kept.f kept.kept.before state in
    let own : All (HoldsNode volume.space) unfinished.node.fresh.places = All-head Own leaf [] (all_right Own whole (leaf ∷ []) (subst (All Own) fresh_is kept.kept.lie.fresh)) in
    let fresh : IsFreshKept kept.f kept.kept.before state leaf = All-head Fresh leaf [] (all_right Fresh whole (leaf ∷ []) (subst (All Fresh) fresh_is kept.kept.fresh)) in
    let plan : IsUnfinished unfinished = subst (λ (u : Option UnfinishedNode). IfSome u IsUnfinished) left parts.work.unfinished in
    let place : Place = at.0 in
    let there : Contains unfinished.node.fresh.places place = subst (λ (places : List Place). Contains places place) plan.node.places at.1 in
    let may : MayHoldNode kept.f.layout place = All-contains (MayHoldNode kept.f.layout) unfinished.node.fresh.places place fresh.placed there in
    let begin : place.block % 16 ≡ 0 = may.begins in
    let first = plan.node.first in
    let few = plan.left in
    let number : block ≡ place.block + (unfinished.node.blocked.block + unfinished.written) = at.3 in
    record {
      place = place;
      device = at.2;
      bucket = omega (arith, begin, first, few, number);
      node = All-contains (HoldsNode volume.space) unfinished.node.fresh.places place own there;
      may = may;
    }
