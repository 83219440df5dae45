-- While one needed entry is mended whatever a crash leaves has the same found, and then the entry stands on every metadata device.
use Rattle.std.proofs.Common.{◌≡◌, ◌≢◌, ℕ, zero, suc, ◌+◌, ◌%◌, ◌<◌, ◌≤◌, ◌⊎◌, inl, inr, ⊎_elim, List, [], ◌∷◌, length, map, get_or, slice_get, Option, Some, None, Ok, refl, ap, ◌∙◌, sym, subst, arith, All}
use Rattle.std.proofs.lemmas.Bool.{cases_eq, cases_lt}
use Rattle.std.proofs.lemmas.List.Elements.{All-weaker}
use Rattle.std.proofs.lemmas.List.{get_or_default}
use Rattle.std.proofs.lemmas.Option.{none-some, same_Some, slice_get-get_or}
use Rattle.std.specs.Prelude.{is_some, option_and_then}
use Rattle.dev_model.specs.CrashLaws.{as_read_may_be_left}
use Rattle.dev_model.specs.Crashes.{IsQuiet, SameBut}
use Rattle.dev_model.specs.Devices.{DevicesState, now}
use Rattle.dev_model.specs.Disk.{Asked, Disk, Image, IsAtRest, IsCrashImage, IsDisk, as_read, block_at}
use Rattle.dev_model.specs.HeldBlocks.{HasHeld, HaveHeld}
use Rattle.geometry.specs.LayoutFacts.{HasPlaces, has_places}
use Rattle.geometry.specs.Mirrors.{AreAtRest}
use Rattle.geometry.specs.SuperLaws.{layout_fits}
use Rattle.image_view.specs.BaseLaws.{found-layout}
use Rattle.image_view.specs.CrashEntries.{opens}
use Rattle.image_view.specs.Found.{Found, IsInOrder, found, node_places}
use Rattle.image_view.specs.Mends.{HasNoEqualDigest, IsMending, IsPlaceOf, StandsIn}
use Rattle.key_meaning.specs.Checks.{AreNodesPlaced}
use Rattle.journal_ring.specs.declared.found.FoundEntry.{FoundEntry}
use Rattle.journal_ring.specs.Entries.{AgreeFrom, IsMadeOf, IsWhole, IsWholeOn}
use Rattle.journal_ring.specs.EntryBlocks.{AreEntryBlocks, HoldBlocks, ring_block}
use Rattle.journal_ring.specs.Mending.{DoNotOverlap, IsEntryBlock, IsLacking, IsLackingBlock, IsMended, IsMendedAt, Mends}
use Rattle.journal_ring.specs.Parts.{Area, area_of}
use Rattle.record_codec.specs.declared.entries.EntryRecord.{EntryRecord}
use Rattle.sealed_block.specs.declared.heads.Head.{Head}
use Rattle.sealed_block.specs.Opening.{opened}
use Rattle.vol_types.specs.declared.layout.Layout.{Layout}
use Rattle.replay.proofs.Images.{as_many_left, as_many_read, same_sizes}
use Rattle.replay.proofs.Sessions.{long_devices}
use Rattle.replay.specs.Mending.{BringsNoBlock, IsInOrderOn, IsMendedTo, IsUntorn, KeepsFound, StandsOnAll}
use Rattle.replay.specs.Untorn.{untorn_before, untorn_since}

tail_of : List ℕ → List ℕ
tail_of [] = []
tail_of (x ∷ xs) = xs

head_of : List ℕ → ℕ
head_of [] = 0
head_of (x ∷ xs) = x

pub bytes_cases : (a b : List ℕ) → (a ≡ b) ⊎ ¬ (a ≡ b)
unfolding tail_of head_of
bytes_cases [] [] = inl refl
bytes_cases [] (y ∷ ys) = inr (λ (same : [] ≡ y ∷ ys). omega (arith, ap (λ (l : List ℕ). length l) same))
bytes_cases (x ∷ xs) [] = inr (λ (same : x ∷ xs ≡ []). omega (arith, ap (λ (l : List ℕ). length l) same))
bytes_cases (x ∷ xs) (y ∷ ys) = ⊎_elim
    (λ (first : x ≡ y). ⊎_elim
    (λ (rest : xs ≡ ys). inl (ap (λ n. n ∷ xs) first ∙ ap (λ l. y ∷ l) rest))
    (λ (differs : ¬ (xs ≡ ys)). inr (λ (same : x ∷ xs ≡ y ∷ ys). differs (ap tail_of same)))
    (bytes_cases xs ys))
    (λ (differs : ¬ (x ≡ y)). inr (λ (same : x ∷ xs ≡ y ∷ ys). differs (ap head_of same)))
    (cases_eq x y)

-- What stands at a place is these bytes, or it isn't.
decide : (held : Option (List ℕ)) (bytes : List ℕ) → (held ≡ Some bytes) ⊎ (held ≢ Some bytes)
decide None bytes = inr (λ same. none-some bytes same)
decide (Some x) bytes = ⊎_elim (λ (same : x ≡ bytes). inl (ap Some same)) (λ (differs : ¬ (x ≡ bytes)). inr (λ same. differs (same_Some x bytes same))) (bytes_cases x bytes)

-- What a disk at rest has held is what it is read as.
at_rest_held : (disk : Disk) (block : ℕ) (bytes : List ℕ) → IsDisk disk → IsAtRest disk → HasHeld disk block bytes → slice_get disk.blocks block ≡ Some bytes
at_rest_held disk block bytes is rest (inl settled) = is.at_rest block (λ pending. let none = subst (λ (asked : List Asked). pending.1.0 < length asked) rest.writes pending.1.1 in omega (arith, none)) ∙ settled
at_rest_held disk block bytes is rest (inr asked) = let none = subst (λ (ws : List Asked). asked.0 < length ws) rest.writes asked.1 in absurd (omega (arith, none))

disk_read : (disks : List Disk) (dev : ℕ) (disk : Disk) (block : ℕ) → slice_get disks dev ≡ Some disk → block_at (as_read disks) dev block ≡ slice_get disk.blocks block
disk_read [] dev disk block there = absurd (none-some disk there)
disk_read (one ∷ disks) zero disk block there = ap (λ (d : Disk). slice_get d.blocks block) (same_Some one disk there)
disk_read (one ∷ disks) (suc dev) disk block there = disk_read disks dev disk block there

is_disk : (disks : List Disk) (dev : ℕ) (disk : Disk) → All IsDisk disks → slice_get disks dev ≡ Some disk → IsDisk disk
is_disk [] dev disk are there = absurd (none-some disk there)
is_disk (one ∷ disks) zero disk are there = subst IsDisk (same_Some one disk there) (are 0 one (omega arith))
is_disk (one ∷ disks) (suc dev) disk are there = is_disk disks dev disk (λ k d lower. are (suc k) d (omega (arith, lower))) there

pub rest_held : (mirrors : ℕ) (disks : List Disk) (dev block : ℕ) (bytes : List ℕ) → All IsDisk disks → AreAtRest mirrors disks → dev < mirrors → HaveHeld disks dev block bytes → block_at (as_read disks) dev block ≡ Some bytes
rest_held mirrors disks dev block bytes are rest within held =
    disk_read disks dev held.0 block held.1 ∙ at_rest_held held.0 block bytes (is_disk disks dev held.0 are held.1) (rest dev held.0 within held.1) held.2

-- ---- one entry

pub record MendLaws : Type 0 where
  pub again : (one other : Image) (f : Found) → found one ≡ Ok f → IsInOrder f one → AreNodesPlaced (node_places f) f.layout → (index : ℕ) (entry : FoundEntry) → slice_get f.needed index ≡ Some entry → (blocks : List (List ℕ))
      → IsMending f.layout entry blocks one other → HasNoEqualDigest f.layout (area_of one) → found other ≡ Ok f
  pub in_order : (one other : Image) (f : Found) → found one ≡ Ok f → IsInOrder f one → AreNodesPlaced (node_places f) f.layout → (index : ℕ) (entry : FoundEntry) → slice_get f.needed index ≡ Some entry → (blocks : List (List ℕ))
      → IsMending f.layout entry blocks one other → HasNoEqualDigest f.layout (area_of one) → IsInOrder f other
  pub whole : (one : Image) (f : Found) → found one ≡ Ok f → (index : ℕ) → index < length f.needed → IsWhole f.layout (area_of one) (get_or f.needed index f.last)
  pub apart : (one : Image) (f : Found) → found one ≡ Ok f → IsInOrder f one → (index other : ℕ) → index < length f.needed → other < length f.needed → ¬ (other ≡ index)
      → DoNotOverlap f.layout.journal (get_or f.needed index f.last) (get_or f.needed other f.last)
  pub made : (layout : Layout) (area : Area) (dev : ℕ) (found : FoundEntry) → IsWholeOn layout area dev found → (blocks : List (List ℕ)) × IsMadeOf layout area found blocks
  pub sealed : (layout : Layout) (area : Area) (found : FoundEntry) (blocks : List (List ℕ)) → IsMadeOf layout area found blocks → AreEntryBlocks layout.id found.number found.entry blocks
  pub same : (id : List ℕ) (number : ℕ) (entry : EntryRecord) (one other : List (List ℕ)) → AreEntryBlocks id number entry one → AreEntryBlocks id number entry other → one ≡ other
  pub places : (layout : Layout) (one other : Area) (found another : FoundEntry) (blocks : List (List ℕ)) → 0 < layout.journal → found.end ≡ found.number + length blocks → DoNotOverlap layout.journal found another → IsMended layout found.number blocks one other
      → AgreeFrom layout one other another.number another.end
  pub few_parts : (block : List ℕ) (h : Head) → opened block ≡ Some h → h.parts ≤ 64
  pub own_places : (journal number p q : ℕ) → 256 ≤ journal → p < 64 → q < 64 → ring_block journal (number + p) ≡ ring_block journal (number + q) → p ≡ q

module _ (laws : MendLaws) (f : Found) (mid : DevicesState) (on : IsInOrderOn f (now mid)) (index : ℕ) (lower : index < length f.needed) where
  abbrev one : Image
  one = as_read (now mid)

  abbrev entry : FoundEntry
  entry = get_or f.needed index f.last

  at : slice_get f.needed index ≡ Some entry
  at = slice_get-get_or f.needed index f.last lower

  places : HasPlaces (map (λ blocks. length blocks) one) f.layout
  places = has_places (map (λ blocks. length blocks) one) f.layout (layout_fits one f.layout (found-layout one f on.on.finds))

  least : 256 ≤ f.layout.journal
  least = places.least

  whole : IsWhole f.layout (area_of one) entry
  whole = laws.whole one f on.on.finds index lower

  -- the entry's blocks
  pub made : (blocks : List (List ℕ)) × IsMadeOf f.layout (area_of one) entry blocks
  made = laws.made f.layout (area_of one) whole.0 entry whole.1

  abbrev blocks : List (List ℕ)
  blocks = made.0

  sealed : AreEntryBlocks f.layout.id entry.number entry.entry blocks
  sealed = laws.sealed f.layout (area_of one) entry blocks made.1

  few : length blocks ≤ 64
  few =
      let count = made.1.record_is.parts.count in
      let most = laws.few_parts (get_or blocks 0 []) made.1.record_is.first made.1.record_is.parts.begins in
      omega (arith, count, most)

  abbrev Wanted : ℕ → ℕ → List ℕ → Type 0
  Wanted = IsEntryBlock f.layout.metadata_replicas f.layout.journal entry.number blocks

  -- Each place is that of one part.
  one_part : (p q : ℕ) → p < length blocks → q < length blocks → ring_block f.layout.journal (entry.number + p) ≡ ring_block f.layout.journal (entry.number + q) → p ≡ q
  one_part p q low also same = laws.own_places f.layout.journal entry.number p q least (omega (arith, low, few)) (omega (arith, also, few)) same

  -- A part that stands doesn't lack.
  has_not_lacking : (dev p : ℕ) → p < length blocks → block_at one dev (ring_block f.layout.journal (entry.number + p)) ≡ Some (get_or blocks p []) → ¬ IsLacking Wanted one dev (ring_block f.layout.journal (entry.number + p))
  has_not_lacking dev p low stands lacking =
      let wanted = lacking.1 in
      let same : p ≡ wanted.part = one_part p wanted.part low wanted.within wanted.place in
      lacking.2 (stands ∙ ap Some (ap (λ n. get_or blocks n []) same ∙ sym wanted.bytes_are))

  -- Where no part of the entry has its place nothing lacks.
  away_not_lacking : (dev block : ℕ) → ¬ IsPlaceOf f.layout entry (length blocks) dev block → ¬ IsLacking Wanted one dev block
  away_not_lacking dev block away lacking =
      let wanted = lacking.1 in
      away (record { mirror = wanted.mirror; part = wanted.part; within = wanted.within; place = wanted.place })

  -- The images that differ only where the entry lacks have the same sizes.
  module _ (other : Image) (as_many : length other ≡ length one) (but : SameBut (IsLacking Wanted one) one other) where
    lengths : map (λ blocks. length blocks) one ≡ map (λ blocks. length blocks) other
    lengths = sym (same_sizes other one (16 + f.layout.journal) as_many (λ dev within. long_devices one f on.on.finds dev within)
        (λ dev block far. sym (but dev block (λ lacking. let wanted = lacking.1 in let place = wanted.place in omega (arith, place, far, least)))))

    -- At a part's place: as it was, or lacking and then right or torn.
    module _ (right : (dev p : ℕ) → dev < f.layout.metadata_replicas → p < length blocks → (block_at one dev (ring_block f.layout.journal (entry.number + p)) ≢ Some (get_or blocks p []))
        → IsMendedAt f.layout entry.number blocks (area_of one) (area_of other) dev p) where
      mending : IsMending f.layout entry blocks one other
      mending = record {
        sealed = sealed;
        lengths = lengths;
        parts = λ dev p mirror low. ⊎_elim
            (λ (has : block_at one dev (ring_block f.layout.journal (entry.number + p)) ≡ Some (get_or blocks p [])).
            inl (sym (but dev (ring_block f.layout.journal (entry.number + p)) (has_not_lacking dev p low has))))
            (λ (lacks : block_at one dev (ring_block f.layout.journal (entry.number + p)) ≢ Some (get_or blocks p [])). right dev p mirror low lacks)
            (decide (block_at one dev (ring_block f.layout.journal (entry.number + p))) (get_or blocks p []));
        elsewhere = λ dev block away. but dev block (away_not_lacking dev block away);
      }

      pub mended_again : found other ≡ Ok f
      mended_again = laws.again one other f on.on.finds on.order on.on.placed index entry at blocks mending on.digests

      pub mended_order : IsInOrder f other
      mended_order = laws.in_order one other f on.on.finds on.order on.on.placed index entry at blocks mending on.digests

  -- ---- while it is mended

  module _ (new : DevicesState) (mends : Mends Wanted mid new) (are : All IsDisk (now mid)) (steady : (m : ℕ) → m ≤ new.moment → length (new.disks m) ≡ length new.sizes) where
    count_left : (m : ℕ) → m ≤ new.moment → (image : Image) → IsCrashImage (new.disks m) image → length image ≡ length one
    count_left m hi image may =
        as_many_left (new.disks m) image may ∙ steady m hi ∙ sym (steady mid.moment mends.crashes.later) ∙ ap (λ (ds : List Disk). length ds) (mends.crashes.past mid.moment (omega arith)) ∙ sym (as_many_read (now mid))

    left_but : (m : ℕ) → mid.moment ≤ m → m ≤ new.moment → (image : Image) → IsCrashImage (new.disks m) image → SameBut (IsLacking Wanted one) one image
    left_but m lo hi image may d b away =
        let left = mends.crashes.each m lo hi image may in
        sym (ap (λ (i : Image). block_at i d b) (on.on.quiet left.0 left.1)) ∙ left.2 d b away

    some : 0 < f.layout.journal
    some = omega (arith, least)

    -- What a crash left at the place of a part that lacked.
    left_at : (m : ℕ) → mid.moment ≤ m → m ≤ new.moment → (image : Image) → IsUntorn f.layout mid.moment m new image → (dev p : ℕ) → dev < f.layout.metadata_replicas → p < length blocks
        → (block_at one dev (ring_block f.layout.journal (entry.number + p)) ≢ Some (get_or blocks p []))
        → (held : Option (List ℕ)) → block_at image dev (ring_block f.layout.journal (entry.number + p)) ≡ held → IsMendedAt f.layout entry.number blocks (area_of one) (area_of image) dev p
    left_at m lo hi image untorn dev p mirror low lacks None is = inr (lacks, inr (ap (option_and_then opened) is))
    left_at m lo hi image untorn dev p mirror low lacks (Some x) is = by (opened x) refl
      where
        by : (head : Option Head) → opened x ≡ head → IsMendedAt f.layout entry.number blocks (area_of one) (area_of image) dev p
        by None torn = inr (lacks, inr (ap (option_and_then opened) is ∙ torn))
        by (Some head) is_open =
            let held = untorn.left dev ((entry.number + p) % f.layout.journal) mirror (omega (arith, some)) x is (ap is_some is_open) in
            ⊎_elim
            (λ (before : HaveHeld (now mid) dev (ring_block f.layout.journal (entry.number + p)) x).
            inl (is ∙ sym (rest_held f.layout.metadata_replicas (now mid) dev (ring_block f.layout.journal (entry.number + p)) x are on.rest mirror before)))
            (λ (asked : IsLackingBlock Wanted one dev (ring_block f.layout.journal (entry.number + p)) x).
            let wanted = asked.0 in
            let same : p ≡ wanted.part = one_part p wanted.part low wanted.within wanted.place in
            inr (lacks, inl (is ∙ ap Some (wanted.bytes_are ∙ ap (λ n. get_or blocks n []) (sym same)))))
            (mends.asks opens m lo hi dev (ring_block f.layout.journal (entry.number + p)) (untorn.reads dev ((entry.number + p) % f.layout.journal) mirror (omega (arith, some))) x (ap is_some is_open) held)

    -- Whatever a crash leaves meanwhile has the same found, in order.
    pub entry_keeps : KeepsFound f mid new
    entry_keeps m lo hi image may untorn = (mended_again image (count_left m hi image may) (left_but m lo hi image may) right, mended_order image (count_left m hi image may) (left_but m lo hi image may) right)
      where
        right : (dev p : ℕ) → dev < f.layout.metadata_replicas → p < length blocks → (block_at one dev (ring_block f.layout.journal (entry.number + p)) ≢ Some (get_or blocks p [])) → IsMendedAt f.layout entry.number blocks (area_of one) (area_of image) dev p
        right dev p mirror low lacks = left_at m lo hi image untorn dev p mirror low lacks (block_at image dev (ring_block f.layout.journal (entry.number + p))) refl

    -- ---- once it is mended

    module _ (are_new : All IsDisk (now new)) (held : HoldBlocks f.layout.metadata_replicas f.layout.journal entry.number blocks (length blocks) (as_read (now new))) (quiet : IsQuiet (now new)) (rest : AreAtRest f.layout.metadata_replicas (now new)) where
      abbrev mended : Image
      mended = as_read (now new)

      count_mended : length mended ≡ length one
      count_mended = count_left new.moment (omega arith) mended (as_read_may_be_left (now new) are_new)

      right_mended : (dev p : ℕ) → dev < f.layout.metadata_replicas → p < length blocks → (block_at one dev (ring_block f.layout.journal (entry.number + p)) ≢ Some (get_or blocks p [])) → IsMendedAt f.layout entry.number blocks (area_of one) (area_of mended) dev p
      right_mended dev p mirror low lacks = inr (lacks, inl (held dev p mirror low))

      -- A place is one of the entry, or it isn't.
      part_at : (place count : ℕ) → ((p : ℕ) × (p < count) × (place ≡ (entry.number + p) % f.layout.journal)) ⊎ ((p : ℕ) → p < count → place ≢ (entry.number + p) % f.layout.journal)
      part_at place zero = inr (λ p low. absurd (omega (arith, low)))
      part_at place (suc count) = ⊎_elim
          (λ (found : (p : ℕ) × (p < count) × (place ≡ (entry.number + p) % f.layout.journal)). let low = found.1 in inl (found.0, omega (arith, low), found.2))
          (λ (none : (p : ℕ) → p < count → place ≢ (entry.number + p) % f.layout.journal). ⊎_elim
          (λ (here : place ≡ (entry.number + count) % f.layout.journal). inl (count, omega arith, here))
          (λ (away : ¬ (place ≡ (entry.number + count) % f.layout.journal)). inr (λ p low. ⊎_elim (λ (less : p < count). none p less) (λ (more : count ≤ p). subst (λ n. place ≢ (entry.number + n) % f.layout.journal) (let e : count ≡ p = omega (arith, low, more) in e) away) (cases_lt p count)))
          (cases_eq place ((entry.number + count) % f.layout.journal)))
          (part_at place count)

      -- What stands there stood before.
      pub stood : BringsNoBlock f.layout one mended
      stood bytes there = ⊎_elim
          (λ (part : (p : ℕ) × (p < length blocks) × (there.place ≡ (entry.number + p) % f.layout.journal)).
          let same : bytes ≡ get_or blocks part.0 [] = same_Some bytes (get_or blocks part.0 []) (sym there.stands ∙ ap (area_of mended there.dev) part.2 ∙ held there.dev part.0 there.mirror part.1) in
          let before = made.1.stand part.0 part.1 in
          record { dev = before.0; place = (entry.number + part.0) % f.layout.journal; mirror = before.1; within = omega (arith, some); stands = before.2 ∙ ap Some (sym same) })
          (λ (none : (p : ℕ) → p < length blocks → there.place ≢ (entry.number + p) % f.layout.journal).
          record {
            dev = there.dev;
            place = there.place;
            mirror = there.mirror;
            within = there.within;
            stands = mends.elsewhere there.dev (16 + there.place) (away_not_lacking there.dev (16 + there.place) (λ (hit : IsPlaceOf f.layout entry (length blocks) there.dev (16 + there.place)). let place = hit.place in none hit.part hit.within (omega (arith, place)))) ∙ there.stands;
          })
          (part_at there.place (length blocks))

      -- What was found is found in order again.
      pub found_mended : IsInOrderOn f (now new)
      found_mended = record {
        on = record { quiet = quiet; finds = mended_again mended count_mended mends.elsewhere right_mended; placed = on.on.placed };
        rest = rest;
        order = mended_order mended count_mended mends.elsewhere right_mended;
        digests = λ these those payload second digest standing others record_is other_is.
            on.digests these those payload second digest
            (All-weaker (StandsIn f.layout (area_of mended)) (StandsIn f.layout (area_of one)) stood these standing)
            (All-weaker (StandsIn f.layout (area_of mended)) (StandsIn f.layout (area_of one)) stood those others) record_is other_is;
      }

      -- The entry stands on each metadata device,
      pub stands_mended : StandsOnAll f.layout mended entry
      stands_mended = record { blocks = blocks; sealed = sealed; stand = held }

      area_mended : IsMended f.layout entry.number blocks (area_of one) (area_of mended)
      area_mended =
          let m = mending mended count_mended mends.elsewhere right_mended in
          record {
            parts = m.parts;
            elsewhere = λ dev place mirror within away. m.elsewhere dev (16 + place) (λ (hit : IsPlaceOf f.layout entry (length blocks) dev (16 + place)). let same = hit.place in away hit.part hit.within (omega (arith, same)));
          }

      -- and so does each other needed one that did.
      pub stands_still : (k : ℕ) → k < length f.needed → ¬ (k ≡ index) → StandsOnAll f.layout one (get_or f.needed k f.last) → StandsOnAll f.layout mended (get_or f.needed k f.last)
      stands_still k within differs stands =
          let another : FoundEntry = get_or f.needed k f.last in
          let w = laws.whole one f on.on.finds k within in
          let m = laws.made f.layout (area_of one) w.0 another w.1 in
          let same : m.0 ≡ stands.blocks = laws.same f.layout.id another.number another.entry m.0 stands.blocks (laws.sealed f.layout (area_of one) another m.0 m.1) stands.sealed in
          let end = m.1.end in
          let agree = laws.places f.layout (area_of one) (area_of mended) entry another blocks some made.1.end (laws.apart one f on.on.finds on.order index k lower within differs) area_mended in
          record {
            blocks = stands.blocks;
            sealed = stands.sealed;
            stand = λ dev p mirror low. sym (agree dev (another.number + p) mirror (omega arith) (omega (arith, low, end, ap (λ (bs : List (List ℕ)). length bs) same))) ∙ stands.stand dev p mirror low;
          }

-- ---- from one state to a later one, and on

pub keeps_then : (f : Found) (first mid new : DevicesState) → first.moment ≤ mid.moment → ((m : ℕ) → m ≤ mid.moment → new.disks m ≡ mid.disks m) → KeepsFound f first mid → KeepsFound f mid new → KeepsFound f first new
keeps_then f first mid new begun past before after m lo hi image may untorn = ⊎_elim
    (λ (later : mid.moment < m). after m (omega (arith, later)) hi image may (untorn_since f.layout first.moment mid.moment m new image begun untorn))
    (λ (earlier : m ≤ mid.moment). before m lo earlier image (subst (λ (ds : List Disk). IsCrashImage ds image) (past m earlier) may) (untorn_before f.layout first.moment m mid new image past earlier untorn))
    (cases_lt mid.moment m)

-- ---- one entry more

module _ (laws : MendLaws) (f : Found) (layout : Layout) (needed : List FoundEntry) (layouts : f.layout ≡ layout) (needs : f.needed ≡ needed) (index : ℕ) (within : index < length needed) (e : FoundEntry) (is : e ≡ get_or needed index e)
    (first mid new : DevicesState) (later : first.moment ≤ mid.moment) (so_far : IsMendedTo f index first mid) (are : All IsDisk (now mid)) (steady : (m : ℕ) → m ≤ new.moment → length (new.disks m) ≡ length new.sizes)
    (mends : (blocks : List (List ℕ)) → AreEntryBlocks layout.id e.number e.entry blocks → Mends (IsEntryBlock layout.metadata_replicas layout.journal e.number blocks) mid new) where
  abbrev on : IsInOrderOn f (now mid)
  on = so_far.mended.found_on

  lower : index < length f.needed
  lower = subst (λ (ns : List FoundEntry). index < length ns) (sym needs) within

  same : e ≡ get_or f.needed index f.last
  same = is ∙ get_or_default needed index e f.last within ∙ ap (λ (ns : List FoundEntry). get_or ns index f.last) (sym needs)

  abbrev parts : List (List ℕ)
  parts = (made laws f mid on index lower).0

  mends_here : Mends (IsEntryBlock f.layout.metadata_replicas f.layout.journal (get_or f.needed index f.last).number parts) mid new
  mends_here =
      subst (λ (l : Layout). AreEntryBlocks l.id (get_or f.needed index f.last).number (get_or f.needed index f.last).entry parts → Mends (IsEntryBlock l.metadata_replicas l.journal (get_or f.needed index f.last).number parts) mid new) (sym layouts)
      (subst (λ (x : FoundEntry). AreEntryBlocks layout.id x.number x.entry parts → Mends (IsEntryBlock layout.metadata_replicas layout.journal x.number parts) mid new) same (mends parts))
      (sealed laws f mid on index lower)

  pub keeps_more : KeepsFound f first new
  keeps_more = keeps_then f first mid new later mends_here.crashes.past so_far.keeps (entry_keeps laws f mid on index lower new mends_here are steady)

  module _ (are_new : All IsDisk (now new)) (quiet : IsQuiet (now new)) (rest : AreAtRest f.layout.metadata_replicas (now new))
      (held : (blocks : List (List ℕ)) → AreEntryBlocks layout.id e.number e.entry blocks → HoldBlocks layout.metadata_replicas layout.journal e.number blocks (length blocks) (as_read (now new))) where
    held_here : HoldBlocks f.layout.metadata_replicas f.layout.journal (get_or f.needed index f.last).number parts (length parts) (as_read (now new))
    held_here =
        subst (λ (l : Layout). AreEntryBlocks l.id (get_or f.needed index f.last).number (get_or f.needed index f.last).entry parts → HoldBlocks l.metadata_replicas l.journal (get_or f.needed index f.last).number parts (length parts) (as_read (now new))) (sym layouts)
        (subst (λ (x : FoundEntry). AreEntryBlocks layout.id x.number x.entry parts → HoldBlocks layout.metadata_replicas layout.journal x.number parts (length parts) (as_read (now new))) same (held parts))
        (sealed laws f mid on index lower)

    pub mended_more : IsMendedTo f (index + 1) first new
    mended_more = record {
      keeps = keeps_more;
      mended = record {
        found_on = found_mended laws f mid on index lower new mends_here are steady are_new held_here quiet rest;
        stand = λ k low. ⊎_elim
            (λ (earlier : k < index). stands_still laws f mid on index lower new mends_here are steady are_new held_here quiet rest k (omega (arith, earlier, lower)) (λ here. omega (arith, earlier, here)) (so_far.mended.stand k earlier))
            (λ (last : index ≤ k). subst (λ n. StandsOnAll f.layout (as_read (now new)) (get_or f.needed n f.last)) (let here : index ≡ k = omega (arith, last, low) in here) (stands_mended laws f mid on index lower new mends_here are steady are_new held_here quiet rest))
            (cases_lt k index);
      };
      no_block = λ bytes there. so_far.no_block bytes (stood laws f mid on index lower new mends_here are steady are_new held_here quiet rest bytes there);
      past = λ m lo. mends_here.crashes.past m (omega (arith, lo, later)) ∙ so_far.past m lo;
    }

-- At first no entry was mended: a crash leaves what is read.
pub mended_none : (f : Found) (state : DevicesState) → IsInOrderOn f (now state) → IsMendedTo f 0 state state
mended_none f state on = record {
  keeps = λ m lo hi image may untorn.
      let here : m ≡ state.moment = omega (arith, lo, hi) in
      let same : image ≡ as_read (now state) = on.on.quiet image (subst (λ n. IsCrashImage (state.disks n) image) here may) in
      (ap found same ∙ on.on.finds, subst (IsInOrder f) (sym same) on.order);
  mended = record { found_on = on; stand = λ k low. absurd (omega (arith, low)) };
  no_block = λ bytes there. there;
  past = λ m lo. refl;
}
