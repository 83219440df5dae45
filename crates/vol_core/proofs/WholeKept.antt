-- Each entry that the last durable one needs goes on standing whole on every metadata device inside an event: neither a part of the entry in flight nor a block of a leaf is
-- written at a place of one of its parts.
use Rattle.std.proofs.Common.{◌≡◌, ◌≤◌, ◌<◌, ◌+◌, ◌%◌, ℕ, List, [], ◌∷◌, length, Option, Some, None, refl, sym, ap, subst, ◌∙◌, arith}
use Rattle.std.proofs.Math.Nat.{mod-lt}
use Rattle.std.proofs.lemmas.Option.{same_Some}
use Rattle.std.specs.Prelude.{IfSome, slice_index_or}
use Rattle.core_state.specs.States.{IsState}
use Rattle.core_volume.specs.Volumes.{IsVolume, KeepParts, Volume, needs_entry}
use Rattle.core_actors.specs.declared.answer.Answer.{Answer}
use Rattle.core_actors.specs.declared.event.Event.{Event}
use Rattle.dev_model.specs.Crashes.{SameBut}
use Rattle.dev_model.specs.Devices.{DevicesState, now}
use Rattle.dev_model.specs.Disk.{Image, IsCrashImage, block_at}
use Rattle.journal_writer.specs.Writers.{stage_by}
use Rattle.journal_writer.specs.declared.stage.Stage.TheVariants.{WriteEntry}
use Rattle.journal_writer.specs.declared.writer.Flight.{Flight}
use Rattle.image_view.specs.Bases.{AgreeAt, AgreeOnBase}
use Rattle.image_view.specs.Found.{Found}
use Rattle.image_view.specs.Mends.{IsPlaceOf}
use Rattle.journal_ring.specs.EntryBlocks.{parts_of, ring_block}
use Rattle.journal_ring.specs.Rings.{flight_number}
use Rattle.journal_ring.specs.declared.found.FoundEntry.{FoundEntry}
use Rattle.crash_safety.specs.Writings.{IsWriting, Writing}
use Rattle.replay.specs.Mending.{StandsOnAll}
use Rattle.vol_types.specs.LayoutLaws.{layout_found}
use Rattle.vol_types.specs.declared.layout.Layout.{Layout}
use Rattle.vol_core.specs.CoreLaws.{CoreLaws}
use Rattle.vol_core.specs.Cores.{CoreState, StepGives}
use Rattle.vol_core.specs.Entries.{FliesAs}
use Rattle.vol_core.specs.Safety.{IsCoreSafe}
use Rattle.vol_core.proofs.OtherBlock.{sizes-with_block, with_block, with_block_elsewhere, with_block_here}
use Rattle.vol_core.proofs.Spared.{IsBlockAside, IsPartAside, LiesInNode, Spares, spared, unfinished_lies}
use Rattle.vol_core.proofs.Stages.{resting_writes_nothing, writing_is_left}
use Rattle.vol_core.proofs.Surviving.{HoldsNeeded}

-- It is the place of a part of a needed entry.
pub record IsNeededPlace (f : Found) (dev block : ℕ) : Type 0 where
  pub index : ℕ
  pub within : index < length f.needed
  pub of_part : IsPlaceOf f.layout (slice_index_or f.needed index f.last) (parts_of (slice_index_or f.needed index f.last).entry) dev block

-- ---- images

-- An entry that stands on every metadata device of an image does so in one that is the same at the places of its parts.
stands_still : (layout : Layout) (entry : FoundEntry) (one other : Image) → ((dev block : ℕ) → IsPlaceOf layout entry (parts_of entry.entry) dev block → AgreeAt one other dev block) → StandsOnAll layout one entry → StandsOnAll layout other entry
stands_still layout entry one other same stands = record {
  blocks = stands.blocks;
  sealed = stands.sealed;
  stand = λ dev p mirror low.
      let count = stands.sealed.count in
      sym (same dev (ring_block layout.journal (entry.number + p)) (record { mirror = mirror; part = p; within = omega (arith, low, count); place = refl })) ∙ stands.stand dev p mirror low;
}

-- Where the places of needed entries are spared, each image that a crash leaves holds these, where those before did.
pub still_needed : (f : Found) (old new : DevicesState) → Spares (IsNeededPlace f) old new → ((image : Image) → IsCrashImage (now old) image → HoldsNeeded f image)
    → (moment : ℕ) → old.moment ≤ moment → moment ≤ new.moment → (image : Image) → IsCrashImage (new.disks moment) image → HoldsNeeded f image
still_needed f old new crashes held moment from to image may index within =
    let left = crashes.each moment from to image may in
    stands_still f.layout (slice_index_or f.needed index f.last) left.0 image
    (λ dev block at. left.2 dev block (λ aside. aside (record { index = index; within = within; of_part = at })))
    (held left.0 left.1 index within)

-- ---- places

module _ (laws : CoreLaws) (begun : Found) (start state : DevicesState) (volume : Volume) (is : IsVolume volume) (kept : IsCoreSafe begun start state volume) where
  -- No part of the entry that is written has a place of a part of a needed one: what was found would hang on it.
  part_apart : (w : Writing) → IsWriting kept.f kept.image w → (dev block : ℕ) → IsPlaceOf kept.f.layout w.next (parts_of w.next.entry) dev block → ¬ IsNeededPlace kept.f dev block
  part_apart w writes dev block hit needed =
      let f : Found = kept.f in
      let image : Image = kept.image in
      let entry : FoundEntry = slice_index_or f.needed needed.index f.last in
      let number : ℕ = entry.number + needed.of_part.part in
      let stands : StandsOnAll f.layout image entry = kept.safe.stands.whole needed.index needed.within in
      let held : List ℕ = slice_index_or stands.blocks needed.of_part.part [] in
      let other : Image = with_block dev block (0 ∷ held) image in
      let part = needed.of_part.within in
      let count = stands.sealed.count in
      let end = laws.places_of_entries.ends image f kept.safe.stands.finds needed.index needed.within in
      let there : block_at image dev (ring_block f.layout.journal number) ≡ Some held = stands.stand dev needed.of_part.part needed.of_part.mirror (omega (arith, part, count)) in
      let but : SameBut (IsPlaceOf f.layout w.next (parts_of w.next.entry)) image other =
      λ d b away. with_block_elsewhere dev block (0 ∷ held) image d b (λ at.
      away (subst (λ (n : ℕ). IsPlaceOf f.layout w.next (parts_of w.next.entry) n b) (sym at.0) (subst (λ (n : ℕ). IsPlaceOf f.layout w.next (parts_of w.next.entry) dev n) (sym at.1) hit))) in
      let agree : AgreeOnBase f image other =
      laws.places_of_entries.base image other f w.passed w.next (parts_of w.next.entry) kept.safe.stands.finds kept.safe.stands.in_order kept.safe.stands.placed writes.next (omega arith) (sizes-with_block dev block (0 ∷ held) image) but in
      let same : block_at image dev (ring_block f.layout.journal number) ≡ block_at other dev (ring_block f.layout.journal number) =
      agree.entries needed.index f.last needed.within dev number needed.of_part.mirror (omega arith) (omega (arith, part, end)) in
      let here : block_at other dev block ≡ Some (0 ∷ held) = with_block_here image dev block (0 ∷ held) held (ap (block_at image dev) needed.of_part.place ∙ there) in
      let twice : held ≡ 0 ∷ held = same_Some held (0 ∷ held) (sym there ∙ same ∙ ap (block_at other dev) (sym needed.of_part.place) ∙ here) in
      let longer : length held ≡ length (0 ∷ held) = ap (λ (xs : List ℕ). length xs) twice in
      omega (arith, longer)

  -- So the part that is written next has none.
  part_outside_needed : IsPartAside (IsNeededPlace kept.f) volume
  part_outside_needed stage dev block at = by volume.writer.flight kept.writing kept.safe.stands.is kept.flying stage
    where
      by : (flight : Option Flight) (writing : Option Writing) → IfSome writing (IsWriting kept.f kept.image) → FliesAs kept.f flight writing kept.asked kept.written volume → stage_by flight (needs_entry volume) volume.writer ≡ WriteEntry → ¬ IsNeededPlace kept.f dev block
      by None writing writes flying stage = absurd (resting_writes_nothing (needs_entry volume) volume.writer stage)
      by (Some flight) None writes flying stage = absurd flying
      by (Some flight) (Some w) writes flying stage =
          let blocks : length volume.writer.ring.blocks ≡ length w.blocks = ap (λ bs. length bs) flying.blocks in
          let written : volume.writer.ring.written ≡ kept.written = flying.written_is in
          let some = flying.some in
          let few = flying.few in
          let left = writing_is_left volume.writer stage (omega (arith, blocks, some)) (omega (arith, blocks, written, few)) in
          let count = writes.sealed.count in
          let mirrors : volume.writer.ring.mirrors ≡ kept.f.layout.metadata_replicas = is.ring.mirrors ∙ ap (λ (l : Layout). l.metadata_replicas) (sym kept.known.layout) in
          let journal : volume.writer.ring.journal ≡ kept.f.layout.journal = is.ring.journal ∙ ap (λ (l : Layout). l.journal) (sym kept.known.layout) in
          let mirror = at.0 in
          part_apart w writes dev block (record {
            mirror = omega (arith, mirror, mirrors);
            part = volume.writer.ring.written;
            within = omega (arith, left, blocks, count);
            place = at.1
                ∙ ap (λ (j : ℕ). ring_block j (flight_number volume.writer.ring + volume.writer.ring.written)) journal
                ∙ ap (λ (n : ℕ). ring_block kept.f.layout.journal (n + volume.writer.ring.written)) flying.number;
          })

  -- Nor has a block of a leaf, for these lie behind the journal area on a metadata device.
  block_outside_needed : KeepParts volume → IsBlockAside (IsNeededPlace kept.f) volume
  block_outside_needed parts unfinished left dev block at needed =
      let f : Found = kept.f in
      let lies : LiesInNode f.layout volume.space dev block = unfinished_lies begun start state volume kept parts unfinished left dev block at in
      let bucket = lies.bucket in
      let begin : lies.place.block % 16 ≡ 0 = lies.may.begins in
      let mirror : dev < f.layout.metadata_replicas = needed.of_part.mirror in
      let past : 16 + f.layout.journal ≤ lies.place.block = lies.may.past_journal (subst (λ (d : ℕ). d < f.layout.metadata_replicas) lies.device mirror) in
      let number : ℕ = (slice_index_or f.needed needed.index f.last).number + needed.of_part.part in
      let least = (layout_found f.layout kept.kept.layout).journal_range.0 in
      let some : 0 < f.layout.journal = omega (arith, least) in
      let low : number % f.layout.journal < f.layout.journal = mod-lt number some in
      let place : block ≡ 16 + number % f.layout.journal = needed.of_part.place in
      omega (arith, bucket, begin, past, low, place)

-- ---- an event

module _ {D : Type 0} (laws : CoreLaws) (begun : Found) (start : DevicesState) (tells : Type 0) (told : tells) (state : D → DevicesState) (old new : CoreState D) (is : IsState old.memory) (parts : KeepParts old.memory.volume)
    (kept : IsCoreSafe begun start (state old.devices) old.memory.volume) where
  -- Whatever a crash leaves at a moment of an event holds the entries that the last durable one needed when it began.
  pub needed_held : (actor : ℕ) (event : Event) (answer : Answer) → StepGives tells state old actor event answer new
      → (moment : ℕ) → (state old.devices).moment ≤ moment → moment ≤ (state new.devices).moment → (image : Image) → IsCrashImage ((state new.devices).disks moment) image → HoldsNeeded kept.f image
  needed_held actor event answer gives =
      still_needed kept.f (state old.devices) (state new.devices)
      (spared (IsNeededPlace kept.f) tells told state old new kept.safe.stands.disks (part_outside_needed laws begun start (state old.devices) old.memory.volume is.volume kept)
      (block_outside_needed laws begun start (state old.devices) old.memory.volume is.volume kept parts) actor event answer gives)
      (laws.journal.whole kept.f kept.image kept.writing kept.asked kept.written kept.bases kept.durable start.moment (state old.devices) kept.safe)
