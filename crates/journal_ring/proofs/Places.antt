-- The places of numbers that are near one another are apart, and what a part that was written adds.
use Rattle.std.proofs.Common.{ap, ◌≡◌, ◌≢◌, ℕ, ◌+◌, ◌/◌, ◌%◌, ◌<◌, ◌≤◌, ⊎_elim, Bool, List, [], ◌∷◌, ◌++◌, length, Some, ◌∙◌, sym, subst, arith}
use Rattle.std.proofs.lemmas.Bool.{cases_lt}
use Rattle.std.proofs.lemmas.Nat.{div-add-mod', mul-le, row_fits}
use Rattle.dev_model.specs.Crashes.{EachCrash, IsCrashImageBut, SameBut}
use Rattle.dev_model.specs.Disk.{Image, block_at}
use Rattle.dev_model.specs.Devices.{DevicesState, now}
use Rattle.dev_model.specs.HeldBlocks.{HoldOnly}
use Rattle.geometry.specs.Mirrors.{HoldMirrors, IsMirror, IsMirrorBlock}
use Rattle.record_codec.specs.declared.entries.EntryRecord.{EntryRecord}
use Rattle.std.proofs.lemmas.List.{get_or_append_left, get_or_push}
use Rattle.std.specs.Prelude.{slice_index_or}
use Rattle.journal_ring.specs.EntryBlocks.{ArePartBlocks, IsPartBlock, ring_block}
use Rattle.journal_ring.specs.Mending.{IsEntryBlock}
use Rattle.journal_ring.specs.Rings.{HoldsParts, IsClear, IsPartAsked, IsPartPlace, IsRing, RingState, flight_number, part_bytes, part_number, part_place}

-- Two numbers less than the length of the area apart have different places.
pub apart : (journal a b : ℕ) → a < b → b < a + journal → a % journal ≢ b % journal
apart journal a b less near same = ⊎_elim
    (λ (up : a / journal < b / journal). omega (arith, div-add-mod' a journal, div-add-mod' b journal, same, near, row_fits (a / journal) journal (b / journal) journal up (omega arith)))
    (λ (no_more : b / journal ≤ a / journal). omega (arith, div-add-mod' a journal, div-add-mod' b journal, same, less, mul-le (b / journal) journal (a / journal) journal no_more (omega arith)))
    (cases_lt (a / journal) (b / journal))

-- The parts of an entry have places of their own.
pub parts_apart : (journal number p q : ℕ) → 256 ≤ journal → p < 64 → q < 64 → ring_block journal (number + p) ≡ ring_block journal (number + q) → p ≡ q
parts_apart journal number p q least few fewer same = ⊎_elim
    (λ (less : p < q). absurd (apart journal (number + p) (number + q) (omega (arith, less)) (omega (arith, fewer, least)) (omega (arith, same))))
    (λ (no_less : q ≤ p). ⊎_elim
    (λ (more : q < p). absurd (apart journal (number + q) (number + p) (omega (arith, more)) (omega (arith, few, least)) (omega (arith, same))))
    (λ (no_more : p ≤ q). omega (arith, no_less, no_more))
    (cases_lt q p))
    (cases_lt p q)

-- At each place one block of the entry is wanted.
pub one_block_each : (mirrors journal number : ℕ) (blocks : List (List ℕ)) → 256 ≤ journal → length blocks ≤ 64 → (d b : ℕ) (x y : List ℕ) → IsEntryBlock mirrors journal number blocks d b x → IsEntryBlock mirrors journal number blocks d b y → x ≡ y
one_block_each mirrors journal number blocks least few d b x y one other =
    let within = one.within in
    let also = other.within in
    let same : one.part ≡ other.part = parts_apart journal number one.part other.part least (omega (arith, within, few)) (omega (arith, also, few)) (sym one.place ∙ other.place) in
    one.bytes_are ∙ ap (λ n. slice_index_or blocks n []) same ∙ sym other.bytes_are

-- A part on the mirrors is a block of the entry.
pub one_part : (mirrors journal number place p : ℕ) (blocks : List (List ℕ)) → p < length blocks → place ≡ ring_block journal (number + p)
    → (d b : ℕ) (x : List ℕ) → IsMirrorBlock mirrors place (slice_index_or blocks p []) d b x → IsEntryBlock mirrors journal number blocks d b x
one_part mirrors journal number place p blocks within is d b x at = record { part = p; within = within; mirror = at.0.0; place = at.0.1 ∙ is; bytes_are = at.1 }

-- A number less than the length of the area behind the first needed one has no needed number's place.
pub clear : (ring : RingState) (number : ℕ) → number < ring.first + ring.journal → IsClear ring number
clear ring number near needed from before same = apart ring.journal needed number before (omega (arith, from, near)) (omega (arith, same))

-- So is it with the part that is written next.
pub clear_part : (ring : RingState) → IsRing ring → ring.written < length ring.blocks → IsClear ring (part_number ring)
clear_part ring is left = clear ring (part_number ring) (omega (arith, is.fits (omega (arith, left)), is.order, left))

-- With the parts before it a part that was written stands.
pub holds_more : (ring : RingState) (before after : Image) → IsRing ring → ring.written < length ring.blocks
    → HoldMirrors ring.mirrors (part_place ring) (part_bytes ring) after → SameBut (IsPartPlace ring) before after → HoldsParts ring ring.written before → HoldsParts ring (ring.written + 1) after
holds_more ring before after is left written elsewhere held dev p mirror lower = ⊎_elim
    (λ (earlier : p < ring.written).
    let number = flight_number ring + p in
    let other : ¬ IsPartPlace ring dev (ring_block ring.journal number) = λ at. clear_part ring is left number (omega (arith, is.order)) (omega (arith, earlier)) at.1 in
    sym (elsewhere dev (ring_block ring.journal number) other) ∙ held dev p mirror earlier)
    (λ (last : ring.written ≤ p).
    let same : ring.written ≡ p = omega (arith, lower, last) in
    subst (λ n. block_at after dev (ring_block ring.journal (flight_number ring + n)) ≡ Some (get ring n)) same (written dev mirror))
    (cases_lt p ring.written)
  where
    get : RingState → ℕ → List ℕ
    get r n = slice_index_or r.blocks n []

-- What a mirrored write asks for is what the next part is.
pub asked_as : (opens : List ℕ → Bool) (old new : DevicesState) (inside ring : RingState) (place : ℕ) (bytes : List ℕ) → inside ≡ ring → place ≡ part_place inside → bytes ≡ part_bytes inside
    → HoldOnly opens (IsMirrorBlock inside.mirrors place bytes) old new → HoldOnly opens (IsPartAsked ring) old new
asked_as opens old new inside ring place bytes same place_is bytes_are held =
    subst (λ (r : RingState). HoldOnly opens (IsPartAsked r) old new) same
    (subst (λ (b : List ℕ). HoldOnly opens (IsMirrorBlock inside.mirrors (part_place inside) b) old new) bytes_are
    (subst (λ n. HoldOnly opens (IsMirrorBlock inside.mirrors n bytes) old new) place_is held))

-- Where it writes is where the next part lies: what a crash may leave there, what stands there then, and what stays elsewhere.
module _ (inside ring : RingState) (place : ℕ) (same : inside ≡ ring) (place_is : place ≡ part_place inside) where
  pub crashes_as : (old new : DevicesState) → EachCrash (λ _ _ image. IsCrashImageBut (IsMirror inside.mirrors place) (now old) image) old new → EachCrash (λ _ _ image. IsCrashImageBut (IsPartPlace ring) (now old) image) old new
  crashes_as old new crashes =
      subst (λ (r : RingState). EachCrash (λ _ _ image. IsCrashImageBut (IsPartPlace r) (now old) image) old new) same
      (subst (λ n. EachCrash (λ _ _ image. IsCrashImageBut (IsMirror inside.mirrors n) (now old) image) old new) place_is crashes)

  pub others_as : (before after : Image) → SameBut (IsMirror inside.mirrors place) before after → SameBut (IsPartPlace ring) before after
  others_as before after elsewhere =
      subst (λ (r : RingState). SameBut (IsPartPlace r) before after) same (subst (λ n. SameBut (IsMirror inside.mirrors n) before after) place_is elsewhere)

  pub stands_as : (bytes : List ℕ) (after : Image) → bytes ≡ part_bytes inside → HoldMirrors inside.mirrors place bytes after → HoldMirrors ring.mirrors (part_place ring) (part_bytes ring) after
  stands_as bytes after bytes_are written =
      subst (λ (r : RingState). HoldMirrors r.mirrors (part_place r) (part_bytes r) after) same
      (subst (λ (b : List ℕ). HoldMirrors inside.mirrors (part_place inside) b after) bytes_are (subst (λ n. HoldMirrors inside.mirrors n bytes after) place_is written))

-- What it leaves on the mirrors is the next part beside those before.
pub holds_as : (inside ring : RingState) (place : ℕ) (bytes : List ℕ) (before after : Image) → inside ≡ ring → place ≡ part_place inside → bytes ≡ part_bytes inside → IsRing inside → ring.written < length ring.blocks
    → HoldMirrors inside.mirrors place bytes after → SameBut (IsMirror inside.mirrors place) before after → HoldsParts ring ring.written before → HoldsParts ring (ring.written + 1) after
holds_as inside ring place bytes before after same place_is bytes_are is left written elsewhere held =
    let mirrors_hold : HoldMirrors inside.mirrors (part_place inside) (part_bytes inside) after =
    subst (λ (b : List ℕ). HoldMirrors inside.mirrors (part_place inside) b after) bytes_are (subst (λ n. HoldMirrors inside.mirrors n bytes after) place_is written) in
    let others : SameBut (IsPartPlace inside) before after = subst (λ n. SameBut (IsMirror inside.mirrors n) before after) place_is elsewhere in
    subst (λ (r : RingState). HoldsParts r (r.written + 1) after) same
    (holds_more inside before after is (subst (λ (r : RingState). r.written < length r.blocks) (sym same) left) mirrors_hold others (subst (λ (r : RingState). HoldsParts r r.written before) (sym same) held))

-- One block more is one part more.
pub parts_more : (id : List ℕ) (number : ℕ) (entry : EntryRecord) (payload : List ℕ) (blocks : List (List ℕ)) (block : List ℕ) (count : ℕ) → length blocks ≡ count
    → ArePartBlocks id number entry payload blocks count → IsPartBlock id number entry payload count block → ArePartBlocks id number entry payload (blocks ++ block ∷ []) (count + 1)
parts_more id number entry payload blocks block count as_many are is p lower = ⊎_elim
    (λ (earlier : p < count). subst (IsPartBlock id number entry payload p) (sym (get_or_append_left blocks (block ∷ []) [] p (omega (arith, earlier, as_many)))) (are p earlier))
    (λ (here : count ≤ p).
    let same : count ≡ p = omega (arith, here, lower) in
    subst (λ n. IsPartBlock id number entry payload n (slice_index_or (blocks ++ block ∷ []) n [])) same (subst (IsPartBlock id number entry payload count) (sym (get_or_push blocks block [] count as_many)) is))
    (cases_lt p count)
