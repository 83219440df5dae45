-- A block of a node that is written where nothing counts leaves a journal safe.
use Rattle.std.proofs.Common.{◌≡◌, ℕ, ◌+◌, ◌<◌, List, length, map, Option, sym, ap, subst, ◌∙◌, arith}
use Rattle.std.proofs.lemmas.List.{get_or-map, length-map}
use Rattle.std.proofs.lemmas.List.Elements.{All-contains_itself, All-map, All-weaker}
use Rattle.std.specs.Prelude.{All, Contains}
use Rattle.dev_model.specs.CrashLaws.{as_read_may_be_left}
use Rattle.dev_model.specs.Devices.{DevicesState, now}
use Rattle.dev_model.specs.Disk.{Image, IsDisk, as_read}
use Rattle.image_view.specs.Found.{Found}
use Rattle.crash_safety.specs.CallLaws.{asks_more}
use Rattle.crash_safety.specs.Elsewhere.{IsAtOneOf, IsElsewhereOfBoth, IsOneOf, KeepsSizes}
use Rattle.crash_safety.specs.JournalLaws.{JournalLaws}
use Rattle.crash_safety.specs.Safety.{IsJournalSafe}
use Rattle.crash_safety.specs.Writings.{Writing}
use Rattle.node_store.specs.Plans.{part_bytes}
use Rattle.node_store.specs.Writes.{IsCopyBlock, IsCopyOf}
use Rattle.node_store.specs.declared.planning.Blocked.{Blocked}
use Rattle.vol_types.specs.Limits.{bucket_blocks}
use Rattle.vol_types.specs.declared.pointers.Place.{Place}
use Rattle.crash_safety.specs.NodeParts.{AreElsewhere, IsNodePartWritten}

-- block n of the bucket at a place
abbrev block_behind : ℕ → Place → Place
block_behind n place = record { dev = place.dev; block = place.block + n }

-- A copy is at one of these blocks.
copy_at_one : (places : List Place) (n dev block : ℕ) → IsCopyOf places n dev block → IsOneOf (map (block_behind n) places) dev block
copy_at_one places n dev block copy =
    let here : Contains (map (block_behind n) places) (block_behind n copy.0) = (
      copy.1.0,
      let low = copy.1.1 in let same : length (map (block_behind n) places) ≡ length places = length-map {B = Place} places (block_behind n) in omega (arith, low, same),
      get_or-map (block_behind n) places copy.1.0 copy.0 (block_behind n copy.0) copy.1.1 ∙ ap (block_behind n) copy.1.2,
    ) in
    subst (Contains (map (block_behind n) places)) (λ i. record { dev = sym copy.2 i; block = sym copy.3 i }) here

-- What a crash leaves has the sizes that are read.
sizes_kept : (f : Found) (image : Image) (writing : Option Writing) (asked written : ℕ) (bases : List Found) (durable : List ℕ) (first : ℕ) (old new : DevicesState) (blocked : Blocked) (part : ℕ) (failed : Option ℕ)
    → IsJournalSafe f image writing asked written bases durable first old → IsNodePartWritten blocked part failed old new → KeepsSizes old new
sizes_kept f image writing asked written bases durable first old new blocked part failed safe is m lo hi other may =
    let before = is.lengths m lo hi other may in
    sym (safe.stands.crashes (as_read (now old)) (as_read_may_be_left (now old) safe.stands.disks)).base.lengths ∙ (safe.stands.crashes before.0 before.1).base.lengths ∙ before.2

pub part_elsewhere : JournalLaws → (f : Found) (image : Image) (writing : Option Writing) (asked written : ℕ) (bases : List Found) (durable : List ℕ) (first : ℕ) (old new : DevicesState) (blocked : Blocked) (part : ℕ) (failed : Option ℕ)
    → IsJournalSafe f image writing asked written bases durable first old → AreElsewhere f writing blocked.places → blocked.block + part < bucket_blocks → IsNodePartWritten blocked part failed old new → All IsDisk (now new)
    → IsJournalSafe f image writing asked written bases durable first new
part_elsewhere laws f image writing asked written bases durable first old new blocked part failed safe far few is are =
    let n = blocked.block + part in
    let places : List Place = map (block_behind n) blocked.places in
    laws.elsewhere f image writing asked written bases durable first old new places safe
    (All-map (IsElsewhereOfBoth f writing) (block_behind n) blocked.places
    (All-weaker (Contains blocked.places) (λ (place : Place). IsElsewhereOfBoth f writing (block_behind n place)) (λ place there. far place there n few) blocked.places (All-contains_itself blocked.places)))
    (asks_more (IsCopyOf blocked.places n) (IsOneOf places) (IsCopyBlock blocked.places n (part_bytes blocked part)) (IsAtOneOf places) old new
    (copy_at_one blocked.places n) (λ dev block bytes copy. copy_at_one blocked.places n dev block copy.0) is.at)
    (sizes_kept f image writing asked written bases durable first old new blocked part failed safe is) are
