-- The steps of an entry that is written: it is put in flight, its parts are written, devices are flushed, and it is taken as durable.
use Rattle.std.proofs.Common.{◌≡◌, ◌⊎◌, inl, inr, ⊎_elim, ℕ, zero, suc, ◌+◌, ◌%◌, ◌<◌, ◌≤◌, Bool, List, [], ◌∷◌, ◌++◌, length, get_or, slice_get, Option, Some, None, Ok, refl, sym, ap, subst, ◌∙◌, arith, append_assoc}
use Rattle.std.proofs.lemmas.Bool.{cases_lt}
use Rattle.std.proofs.lemmas.List.{length_push}
use Rattle.std.proofs.lemmas.Option.{none-some, same_Some}
use Rattle.std.specs.Prelude.{All}
use Rattle.dev_model.specs.CrashLaws.{as_read_may_be_left}
use Rattle.dev_model.specs.Crashes.{SameBut}
use Rattle.dev_model.specs.Devices.{DevicesState, now}
use Rattle.dev_model.specs.Disk.{Disk, Image, IsCrashImage, IsDisk, as_read, block_at}
use Rattle.dev_model.specs.FrameLaws.{stay_now}
use Rattle.dev_model.specs.Frames.{DisksStay}
use Rattle.geometry.specs.Mirrors.{NoBlock}
use Rattle.image_view.specs.Bases.{AgreeAt, AgreeOnBase, AgreeOnNodes}
use Rattle.image_view.specs.CrashEntries.{OnlyHeldEntriesOpen}
use Rattle.image_view.specs.Found.{Found, IsAlike, IsInOrder, found}
use Rattle.image_view.specs.Mends.{IsPlaceOf}
use Rattle.image_view.specs.NextEntries.{AreNumberedBelow, IsWritten}
use Rattle.image_view.specs.Trees.{nodes_of}
use Rattle.journal_ring.specs.EntryBlocks.{HoldBlocks, ring_block}
use Rattle.journal_ring.specs.Parts.{area_of}
use Rattle.journal_ring.specs.Rings.{HoldsParts, IsPartAsked, IsPartPlace, RingState, flight_number, part_bytes, part_place}
use Rattle.replay.specs.Mending.{HasMended, IsInOrderOn, IsUntorn, StandsOnAll}
use Rattle.vol_types.specs.declared.layout.Layout.{Layout}
use Rattle.crash_safety.specs.Flushes.{AreSettled, Flushes}
use Rattle.crash_safety.specs.Parts.{AsksAt, IsRingOf, IsPartWritten, standing_by}
use Rattle.crash_safety.specs.Safety.{AreBases, IsJournalSafe, IsSafe, MeansOneOf}
use Rattle.crash_safety.specs.Standing.{AgreeOnWriting, AgreesBut, AreNodesLeft, AreSteady, HoldKnown, StandsOn}
use Rattle.crash_safety.specs.Writings.{HoldParts, IsAsked, IsWriting, Writing, after, meant_by}
use Rattle.crash_safety.proofs.Calls.{IsHarmless, sizes_kept, untorn_before}
use Rattle.crash_safety.proofs.Flushing.{NoPlace, flush_asks}
use Rattle.crash_safety.proofs.Images.{journal_within, places_of, sizes}
use Rattle.crash_safety.proofs.Settled.{settled_held, settled_quiet}
use Rattle.crash_safety.proofs.Meanings.{ImageLaws, meaning, meant_again, same_area}
use Rattle.crash_safety.proofs.OnEach.{alike_again, each_of}
use Rattle.crash_safety.proofs.OneOf.{one_of}
use Rattle.crash_safety.proofs.Safe.{journal_safe_on}
use Rattle.crash_safety.proofs.Whole.{each_after, whole_again}

-- ---- images that agree everywhere that counts

same_base : (f : Found) (one other : Image) → sizes one ≡ sizes other → ((dev block : ℕ) → AgreeAt one other dev block) → AgreeOnBase f one other
same_base f one other as_long same = record {
  lengths = as_long;
  first_copies = λ dev. same dev 0;
  second_copies = λ dev. same dev 8;
  even_sessions = λ dev mirror. same dev 4;
  odd_sessions = λ dev mirror. same dev 5;
  entries = λ k d lower dev number mirror from end. same dev (16 + number % f.layout.journal);
  nodes = λ k d lower j e low n few. same _ _;
}

same_writing : (f : Found) (writing : Option Writing) (one other : Image) → sizes one ≡ sizes other → ((dev block : ℕ) → AgreeAt one other dev block) → AgreeOnWriting f writing one other
same_writing f None one other as_long same = tt
same_writing f (Some w) one other as_long same = record { lengths = as_long; first_copies = λ dev. same dev 0; second_copies = λ dev. same dev 8; nodes = λ k d lower j e low n few. same _ _ }

-- Images that agree with one agree with each other.
base_from : (f : Found) (image one other : Image) → AgreeOnBase f image one → AgreeOnBase f image other → AgreeOnBase f one other
base_from f image one other first second = record {
  lengths = sym first.lengths ∙ second.lengths;
  first_copies = λ dev. sym (first.first_copies dev) ∙ second.first_copies dev;
  second_copies = λ dev. sym (first.second_copies dev) ∙ second.second_copies dev;
  even_sessions = λ dev mirror. sym (first.even_sessions dev mirror) ∙ second.even_sessions dev mirror;
  odd_sessions = λ dev mirror. sym (first.odd_sessions dev mirror) ∙ second.odd_sessions dev mirror;
  entries = λ k d lower dev number mirror from end. sym (first.entries k d lower dev number mirror from end) ∙ second.entries k d lower dev number mirror from end;
  nodes = λ k d lower j e low n few. sym (first.nodes k d lower j e low n few) ∙ second.nodes k d lower j e low n few;
}

-- ---- the beginning

pub begun : ImageLaws → (f : Found) (state : DevicesState) → HasMended f (length f.needed) (now state) → All (IsAlike f (as_read (now state))) (nodes_of f.trees.nodes) → AreNumberedBelow f.layout f.session f.last.end (area_of (as_read (now state))) → All IsDisk (now state)
    → IsJournalSafe f (as_read (now state)) None 0 0 (f ∷ []) [] state.moment state
begun laws f state mended alike numbered are = record { stands = stands; bases_are = bases_are; safe = safe }
  where
    on : IsInOrderOn f (now state)
    on = mended.found_on

    bases_are : AreBases f None (f ∷ []) []
    bases_are = record { before = []; are = refl; count = refl }

    agrees : (other : Image) → IsCrashImage (now state) other → AgreesBut f (IsAsked f.layout None 0) (as_read (now state)) other
    agrees other may =
        let same : as_read (now state) ≡ other = sym (on.on.quiet other may) in
        record {
          base = same_base f (as_read (now state)) other (ap sizes same) (λ dev block. ap (λ (i : Image). block_at i dev block) same);
          journal = λ dev place mirror within away. ap (λ (i : Image). block_at i dev (16 + place)) same;
        }

    known : HoldKnown f.layout (as_read (now state)) None (now state)
    known dev place bytes mirror within is_open held = inl (settled_held (now state) dev (16 + place) bytes are (settled_quiet (now state) on.on.quiet dev) (journal_within (as_read (now state)) f on.on.finds dev place mirror within) held)

    stands : StandsOn f (as_read (now state)) None 0 0 state.moment state
    stands = record {
      finds = on.on.finds;
      in_order = on.order;
      whole = mended.stand;
      alike = record { found = alike; next = tt };
      placed = on.on.placed;
      numbered = numbered;
      is = tt;
      few = tt;
      begun = omega arith;
      disks = are;
      crashes = agrees;
      nodes = λ other may. tt;
      held = λ untorn. known;
      stand = tt;
    }

    safe : IsSafe f.layout (f ∷ []) [] state.moment state
    safe = record {
      each = λ moment lo hi other may untorn.
          let here : moment ≡ state.moment = omega (arith, lo, hi) in
          let now_may : IsCrashImage (now state) other = subst (λ n. IsCrashImage (state.disks n) other) here may in
          let left = subst (λ n. IsUntorn f.layout state.moment n state other) here untorn in
          each_of laws f (as_read (now state)) on.on.finds on.order numbered mended.stand None tt (record { found = alike; next = tt }) (f ∷ []) [] bases_are 0 other (now state) (agrees other now_may) tt known left.left moment;
    }

-- ---- an entry is put in flight

pub sealed : (f : Found) (image : Image) (bases : List Found) (durable : List ℕ) (first : ℕ) (state : DevicesState) (w : Writing) → IsJournalSafe f image None 0 0 bases durable first state → IsWriting f image w
    → All (IsAlike (after w f) image) (nodes_of w.trees.nodes) → AreNodesLeft f image (Some w) state → IsJournalSafe f image (Some w) 0 0 (bases ++ after w f ∷ []) durable first state
sealed f image bases durable first state w safe is alike left = record {
  stands = record {
    finds = safe.stands.finds;
    in_order = safe.stands.in_order;
    whole = safe.stands.whole;
    alike = record { found = safe.stands.alike.found; next = alike };
    placed = safe.stands.placed;
    numbered = safe.stands.numbered;
    is = is;
    few = omega arith;
    begun = safe.stands.begun;
    disks = safe.stands.disks;
    crashes = λ other may. let agrees = safe.stands.crashes other may in record { base = agrees.base; journal = λ dev place mirror within away. agrees.journal dev place mirror within (λ none. none) };
    nodes = left;
    held = λ untorn dev place bytes mirror within is_open held. inl (⊎_elim (λ old. old) (λ none. absurd none) (safe.stands.held untorn dev place bytes mirror within is_open held));
    stand = λ dev p mirror low. absurd (omega (arith, low));
  };
  bases_are = record {
    before = safe.bases_are.before;
    are = ap (λ (bs : List Found). bs ++ after w f ∷ []) safe.bases_are.are ∙ append_assoc safe.bases_are.before (f ∷ []) (after w f ∷ []);
    count = safe.bases_are.count;
  };
  safe = record {
    each = λ moment lo hi other may untorn.
        let meant = safe.safe.each moment lo hi other may untorn in
        record { itself = still_meant moment other meant.itself; alone = λ mirror low alone degraded. still_meant moment alone (meant.alone mirror low alone degraded) };
  };
}
  where
    still : (bases : List Found) (index : ℕ) (base : Found) → slice_get bases index ≡ Some base → slice_get (bases ++ after w f ∷ []) index ≡ Some base
    still [] index base there = absurd (none-some base there)
    still (b ∷ bases) zero base there = there
    still (b ∷ bases) (suc index) base there = still bases index base there

    still_meant : (moment : ℕ) (other : Image) → MeansOneOf bases durable moment other → MeansOneOf (bases ++ after w f ∷ []) durable moment other
    still_meant moment other meant = record { index = meant.index; base = meant.base; at = still bases meant.index meant.base meant.at; finds = meant.finds; in_order = meant.in_order; none_before = meant.none_before }

-- ---- a device is flushed

stand_still : (layout : Layout) (writing : Option Writing) (count : ℕ) (one other : Image) → SameBut NoPlace one other → HoldParts layout writing count one → HoldParts layout writing count other
stand_still layout None count one other same stand = stand
stand_still layout (Some w) count one other same stand = λ dev p mirror low. sym (same dev (ring_block layout.journal (w.next.number + p)) (λ none. none)) ∙ stand dev p mirror low

pub flushed_on : ImageLaws → (f : Found) (image : Image) (writing : Option Writing) (asked written : ℕ) (bases : List Found) (durable : List ℕ) (first : ℕ) (old new : DevicesState) (dev : ℕ) (done : Bool) → IsJournalSafe f image writing asked written bases durable first old
    → Flushes dev done old new → All IsDisk (now new) → AreSteady new → IsJournalSafe f image writing asked written bases durable first new
flushed_on laws f image writing asked written bases durable first old new dev done safe flush are steady =
    let call : AsksAt NoPlace NoBlock old new = flush_asks dev done old new safe.stands.disks flush in
    let harmless : IsHarmless f image writing asked asked NoPlace NoBlock = record {
      aside = λ other as_long same. same_base f image other as_long (λ d b. same d b (λ none. none));
      nodes_aside = λ other as_long same. same_writing f writing image other as_long (λ d b. same d b (λ none. none));
      more = λ d b before. before;
      within = λ d place mirror within none. absurd none;
      own = λ d place bytes mirror within is_open none. absurd none;
      few = safe.stands.few;
    } in
    journal_safe_on laws f image writing asked written bases durable first old safe new NoPlace NoBlock call asked harmless
    (sizes_kept f image writing asked written first old safe.stands new NoPlace NoBlock call asked harmless steady (λ d b none. absurd none)) written are
    (stand_still f.layout writing written (as_read (now old)) (as_read (now new)) call.elsewhere safe.stands.stand)

-- ---- devices are read

pub read_on : ImageLaws → (f : Found) (image : Image) (writing : Option Writing) (asked written : ℕ) (bases : List Found) (durable : List ℕ) (first : ℕ) (old new : DevicesState) → IsJournalSafe f image writing asked written bases durable first old → DisksStay old new
    → IsJournalSafe f image writing asked written bases durable first new
read_on laws f image writing asked written bases durable first old new safe stay = record {
  stands = record {
    finds = safe.stands.finds;
    in_order = safe.stands.in_order;
    whole = safe.stands.whole;
    alike = safe.stands.alike;
    placed = safe.stands.placed;
    numbered = safe.stands.numbered;
    is = safe.stands.is;
    few = safe.stands.few;
    begun = let later = stay.later in let begun = safe.stands.begun in omega (arith, later, begun);
    disks = subst (λ (ds : List Disk). All IsDisk ds) (sym same) safe.stands.disks;
    crashes = λ other may. safe.stands.crashes other (subst (λ (ds : List Disk). IsCrashImage ds other) same may);
    nodes = λ other may. safe.stands.nodes other (subst (λ (ds : List Disk). IsCrashImage ds other) same may);
    held = λ untorn. subst (λ (ds : List Disk). HoldKnown f.layout image writing ds) (sym same) (safe.stands.held (untorn_before f.layout first old.moment new.moment old new stay.past stay.later (omega arith) untorn));
    stand = subst (λ (ds : List Disk). HoldParts f.layout writing written (as_read ds)) (sym same) safe.stands.stand;
  };
  bases_are = safe.bases_are;
  safe = record {
    each = λ moment lo hi other may untorn. ⊎_elim
        (λ (later : old.moment < moment).
        let here : new.disks moment ≡ now old = stay.same moment (omega (arith, later)) hi in
        let begun = safe.stands.begun in
        each_of laws f image safe.stands.finds safe.stands.in_order safe.stands.numbered safe.stands.whole writing safe.stands.is safe.stands.alike bases durable safe.bases_are asked other (new.disks moment)
        (safe.stands.crashes other (subst (λ (ds : List Disk). IsCrashImage ds other) here may))
        (safe.stands.nodes other (subst (λ (ds : List Disk). IsCrashImage ds other) here may))
        (subst (λ (ds : List Disk). HoldKnown f.layout image writing ds) (sym here) (safe.stands.held (untorn_before f.layout first old.moment moment old new stay.past (omega (arith, later)) (omega arith) untorn.reads)))
        untorn.left moment)
        (λ (earlier : moment ≤ old.moment).
        safe.safe.each moment lo earlier other (subst (λ (ds : List Disk). IsCrashImage ds other) (stay.past moment earlier) may) (record {
          reads = untorn_before f.layout first moment moment old new stay.past (omega arith) earlier untorn.reads;
          left = subst (λ (ds : List Disk). OnlyHeldEntriesOpen f.layout ds other) (stay.past moment earlier) untorn.left;
        }))
        (cases_lt old.moment moment);
  };
}
  where
    same : now new ≡ now old
    same = stay_now old new stay

-- ---- a part is written

module _ (layout : Layout) (w : Writing) (n : ℕ) (ring : RingState) (r : IsRingOf layout w n ring) where
  place_is : part_place ring ≡ ring_block layout.journal (w.next.number + n)
  place_is =
      ap (λ j. ring_block j (flight_number ring + ring.written)) r.journal
      ∙ ap (λ m. ring_block layout.journal (m + ring.written)) r.number
      ∙ ap (λ m. ring_block layout.journal (w.next.number + m)) r.written_is

  bytes_are : part_bytes ring ≡ get_or w.blocks n []
  bytes_are = ap (λ (bs : List (List ℕ)). get_or bs ring.written []) r.blocks ∙ ap (λ m. get_or w.blocks m []) r.written_is

  placed_so : (p : ℕ) → ring_block ring.journal (flight_number ring + p) ≡ ring_block layout.journal (w.next.number + p)
  placed_so p = ap (λ j. ring_block j (flight_number ring + p)) r.journal ∙ ap (λ m. ring_block layout.journal (m + p)) r.number

  of_ring : (count : ℕ) (image : Image) → HoldBlocks layout.metadata_replicas layout.journal w.next.number w.blocks count image → HoldsParts ring count image
  of_ring count image stand dev p mirror low =
      ap (block_at image dev) (placed_so p) ∙ stand dev p (let m = r.mirrors in omega (arith, mirror, m)) low ∙ ap (λ (bs : List (List ℕ)). Some (get_or bs p [])) (sym r.blocks)

  from_ring : (count : ℕ) (image : Image) → HoldsParts ring count image → HoldBlocks layout.metadata_replicas layout.journal w.next.number w.blocks count image
  from_ring count image stand dev p mirror low =
      ap (block_at image dev) (sym (placed_so p)) ∙ stand dev p (let m = r.mirrors in omega (arith, mirror, m)) low ∙ ap (λ (bs : List (List ℕ)). Some (get_or bs p [])) r.blocks

module _ (laws : ImageLaws) (f : Found) (image : Image) (w : Writing) (asked n : ℕ) (bases : List Found) (durable : List ℕ) (first : ℕ) (old new : DevicesState) (safe : IsJournalSafe f image (Some w) asked n bases durable first old) (again : asked ≤ n + 1) (low : n < length w.blocks)
    (ring : RingState) (r : IsRingOf f.layout w n ring) (failed : Option ℕ) (writes : IsPartWritten ring failed old new) where
  abbrev is : IsWriting f image w
  is = safe.stands.is

  wide : 256 ≤ f.layout.journal
  wide = (places_of image f safe.stands.finds).least

  few_blocks : length w.blocks ≤ 64
  few_blocks = let count = is.sealed.count in let few = is.next.parts in omega (arith, count, few)

  hits : (dev block : ℕ) → IsPartPlace ring dev block → IsPlaceOf f.layout w.next (n + 1) dev block
  hits dev block hit = record {
    mirror = let m = r.mirrors in let here = hit.0 in omega (arith, here, m);
    part = n;
    within = omega arith;
    place = hit.1 ∙ place_is f.layout w n ring r;
  }

  harmless : IsHarmless f image (Some w) asked (n + 1) (IsPartPlace ring) (IsPartAsked ring)
  harmless = record {
    aside = λ other as_long same. laws.base image other f w.passed w.next (n + 1) safe.stands.finds safe.stands.in_order safe.stands.placed is.next (let count = is.sealed.count in omega (arith, count, low)) as_long
        (λ dev block away. same dev block (λ hit. away (hits dev block hit)));
    nodes_aside = λ other as_long same. laws.nodes image other f w.passed w.next w.trees (n + 1) safe.stands.finds safe.stands.in_order is.next is.placed (let count = is.sealed.count in omega (arith, count, low)) as_long
        (λ dev block away. same dev block (λ hit. away (hits dev block hit)));
    more = λ dev block before. let lower = before.within in record { mirror = before.mirror; part = before.part; within = omega (arith, lower, again); place = before.place };
    within = λ dev place mirror within hit. hits dev (16 + place) hit;
    own = λ dev place bytes mirror within is_open asks. record {
      part = n;
      within = low;
      mirror = mirror;
      place = asks.0.1 ∙ place_is f.layout w n ring r;
      bytes_are = asks.1 ∙ bytes_are f.layout w n ring r;
    };
    few = omega (arith, low);
  }

  -- The parts before it stay, for its places are none of theirs.
  others_stay : HoldBlocks f.layout.metadata_replicas f.layout.journal w.next.number w.blocks n (as_read (now new))
  others_stay dev p mirror lower =
      sym (writes.at.elsewhere dev (ring_block f.layout.journal (w.next.number + p)) (λ hit.
      let same : p ≡ n = laws.own_places f.layout.journal w.next.number p n wide (omega (arith, lower, low, few_blocks)) (omega (arith, low, few_blocks)) (hit.1 ∙ place_is f.layout w n ring r) in
      omega (arith, same, lower)))
      ∙ safe.stands.stand dev p mirror lower

  stand_by : (failed : Option ℕ) → (HoldsParts ring ring.written (as_read (now old)) → failed ≡ None → HoldsParts ring (ring.written + 1) (as_read (now new)))
      → HoldBlocks f.layout.metadata_replicas f.layout.journal w.next.number w.blocks (standing_by failed n) (as_read (now new))
  stand_by None held =
      from_ring f.layout w n ring r (n + 1) (as_read (now new))
      (subst (λ m. HoldsParts ring m (as_read (now new))) (ap (λ c. c + 1) r.written_is)
      (held (subst (λ m. HoldsParts ring m (as_read (now old))) (sym r.written_is) (of_ring f.layout w n ring r n (as_read (now old)) safe.stands.stand)) refl))
  stand_by (Some dev) held = others_stay

  pub written_on : All IsDisk (now new) → AreSteady new → IsJournalSafe f image (Some w) (n + 1) (standing_by failed n) bases durable first new
  written_on are steady = journal_safe_on laws f image (Some w) asked n bases durable first old safe new (IsPartPlace ring) (IsPartAsked ring) writes.at (n + 1) harmless
      (sizes_kept f image (Some w) asked n first old safe.stands new (IsPartPlace ring) (IsPartAsked ring) writes.at (n + 1) harmless steady (λ dev block hit. let at = hit.1 in let same = place_is f.layout w n ring r in omega (arith, at, same, wide)))
      (standing_by failed n) are (stand_by failed writes.held)

-- ---- the entry is durable

-- What stands at a place of a list with one more.
last_or_before : (xs : List ℕ) (y k m : ℕ) → slice_get (xs ++ y ∷ []) k ≡ Some m → (slice_get xs k ≡ Some m) ⊎ (y ≡ m)
last_or_before [] y zero m there = inr (same_Some y m there)
last_or_before [] y (suc k) m there = absurd (none-some m there)
last_or_before (x ∷ xs) y zero m there = inl there
last_or_before (x ∷ xs) y (suc k) m there = last_or_before xs y k m there

module _ (laws : ImageLaws) (f : Found) (image : Image) (w : Writing) (asked n : ℕ) (bases : List Found) (durable : List ℕ) (first : ℕ) (state : DevicesState) (safe : IsJournalSafe f image (Some w) asked n bases durable first state) (all : n ≡ length w.blocks)
    (settled : AreSettled f.layout.metadata_replicas (now state)) where
  abbrev it : IsWriting f image w
  it = safe.stands.is

  abbrev reads : Image
  reads = as_read (now state)

  agrees : AgreesBut f (IsPlaceOf f.layout w.next asked) image reads
  agrees = safe.stands.crashes reads (as_read_may_be_left (now state) safe.stands.disks)

  nodes_read : AgreeOnNodes (after w f) image reads
  nodes_read = safe.stands.nodes reads (as_read_may_be_left (now state) safe.stands.disks)

  is_written : IsWritten f.layout w.next w.blocks image reads
  is_written = record {
    sealed = it.sealed;
    stands = subst (λ c. HoldBlocks f.layout.metadata_replicas f.layout.journal w.next.number w.blocks c reads) all safe.stands.stand;
    elsewhere = λ dev place mirror within away. agrees.journal dev place mirror within (λ asked_for.
        let lower = asked_for.within in
        let few = safe.stands.few in
        away (record { mirror = asked_for.mirror; part = asked_for.part; within = omega (arith, lower, few); place = asked_for.place }));
  }

  finds_it : found reads ≡ Ok (after w f)
  finds_it = laws.written image reads f w.passed w.next w.blocks w.trees safe.stands.finds safe.stands.in_order it.next agrees.base nodes_read is_written (inl safe.stands.numbered) it.trees

  order_it : IsInOrder (after w f) reads
  order_it = laws.in_order image reads f w.passed w.next w.blocks w.trees safe.stands.finds safe.stands.in_order it.next agrees.base nodes_read it.in_order is_written (inl safe.stands.numbered)

  -- The needed entries that stood there before stand there still, and so does the new one.
  whole_it : (index : ℕ) → index < length (after w f).needed → StandsOnAll f.layout reads (get_or (after w f).needed index w.next)
  whole_it = each_after (StandsOnAll f.layout reads) w.passed f.needed f.last w.next (whole_again laws image reads f safe.stands.finds agrees.base safe.stands.whole) (record { blocks = w.blocks; sealed = it.sealed; stand = is_written.stands })

  -- The nodes of the entry are alike there, as they were.
  alike_it : All (IsAlike (after w f) reads) (nodes_of w.trees.nodes)
  alike_it = alike_again (after w f) image reads (nodes_of w.trees.nodes) nodes_read.nodes safe.stands.alike.next

  numbered_it : AreNumberedBelow f.layout f.session w.next.end (area_of reads)
  numbered_it = laws.numbers image reads f w.passed w.next w.blocks safe.stands.finds it.next is_written safe.stands.numbered

  left_as_read : (other : Image) → IsCrashImage (now state) other → (dev block : ℕ) → dev < f.layout.metadata_replicas → AgreeAt reads other dev block
  left_as_read other may dev block mirror = sym (settled dev mirror other may block)

  agrees_after : (other : Image) → IsCrashImage (now state) other → AgreesBut (after w f) (IsAsked f.layout None 0) reads other
  agrees_after other may =
      let left = safe.stands.crashes other may in
      let nodes = safe.stands.nodes other may in
      record {
        base = record {
          lengths = sym agrees.base.lengths ∙ left.base.lengths;
          first_copies = λ dev. sym (agrees.base.first_copies dev) ∙ left.base.first_copies dev;
          second_copies = λ dev. sym (agrees.base.second_copies dev) ∙ left.base.second_copies dev;
          even_sessions = λ dev mirror. left_as_read other may dev 4 mirror;
          odd_sessions = λ dev mirror. left_as_read other may dev 5 mirror;
          entries = λ k d lower dev number mirror from end. left_as_read other may dev (16 + number % f.layout.journal) mirror;
          nodes = λ k d lower j e low n few. sym (nodes_read.nodes k d lower j e low n few) ∙ nodes.nodes k d lower j e low n few;
        };
        journal = λ dev place mirror within away. left_as_read other may dev (16 + place) mirror;
      }

  known : HoldKnown f.layout reads None (now state)
  known dev place bytes mirror within is_open held = inl (settled_held (now state) dev (16 + place) bytes safe.stands.disks (settled dev mirror) (journal_within reads (after w f) finds_it dev place mirror within) held)

  bases_after : AreBases (after w f) None bases (durable ++ state.moment ∷ [])
  bases_after = record {
    before = safe.bases_are.before ++ f ∷ [];
    are = safe.bases_are.are ∙ sym (append_assoc safe.bases_are.before (f ∷ []) (after w f ∷ []));
    count = length_push safe.bases_are.before f ∙ ap (λ c. c + 1) safe.bases_are.count ∙ sym (length_push durable state.moment);
  }

  -- What was meant before this moment is so still.
  earlier_meant : (moment : ℕ) → moment < state.moment → (other : Image) → MeansOneOf bases durable moment other → MeansOneOf bases (durable ++ state.moment ∷ []) moment other
  earlier_meant moment earlier other meant = record {
    index = meant.index;
    base = meant.base;
    at = meant.at;
    finds = meant.finds;
    in_order = meant.in_order;
    none_before = λ k m there by_then. ⊎_elim
        (λ (old : slice_get durable k ≡ Some m). meant.none_before k m old by_then)
        (λ (last : state.moment ≡ m). absurd (omega (arith, last, by_then, earlier)))
        (last_or_before durable state.moment k m there);
  }

  pub settled_on : IsJournalSafe (after w f) reads None 0 0 bases (durable ++ state.moment ∷ []) first state
  settled_on = record {
    stands = record {
      finds = finds_it;
      in_order = order_it;
      whole = whole_it;
      alike = record { found = alike_it; next = tt };
      placed = it.placed;
      numbered = numbered_it;
      is = tt;
      few = tt;
      begun = safe.stands.begun;
      disks = safe.stands.disks;
      crashes = agrees_after;
      nodes = λ other may. tt;
      held = λ untorn. known;
      stand = tt;
    };
    bases_are = bases_after;
    safe = record {
      each = λ moment lo hi other may untorn. ⊎_elim
          (λ (earlier : moment < state.moment).
          let meant = safe.safe.each moment lo hi other may untorn in
          record { itself = earlier_meant moment earlier other meant.itself; alone = λ mirror low alone degraded. earlier_meant moment earlier alone (meant.alone mirror low alone degraded) })
          (λ (end : state.moment ≤ moment).
          let here : moment ≡ state.moment = omega (arith, end, hi) in
          let may_now : IsCrashImage (now state) other = subst (λ c. IsCrashImage (state.disks c) other) here may in
          let left = subst (λ c. IsUntorn f.layout first c state other) here untorn in
          each_of laws (after w f) reads finds_it order_it numbered_it whole_it None tt (record { found = alike_it; next = tt }) bases (durable ++ state.moment ∷ []) bases_after 0 other (now state) (agrees_after other may_now) tt known left.left moment)
          (cases_lt moment state.moment);
    };
  }

-- ---- the image is taken as it is read

-- While no entry is written, what was found stands on what is read now as on the image.
module _ (laws : ImageLaws) (f : Found) (image : Image) (bases : List Found) (durable : List ℕ) (first : ℕ) (state : DevicesState) (safe : IsJournalSafe f image None 0 0 bases durable first state) where
  agrees_read : AgreesBut f (IsAsked f.layout None 0) image (as_read (now state))
  agrees_read = safe.stands.crashes (as_read (now state)) (as_read_may_be_left (now state) safe.stands.disks)

  pub rebased : IsJournalSafe f (as_read (now state)) None 0 0 bases durable first state
  rebased =
      let meant = meant_again laws f image safe.stands.finds safe.stands.in_order (as_read (now state)) agrees_read in
      let area = same_area laws f image safe.stands.finds safe.stands.in_order (as_read (now state)) agrees_read in
      record {
        stands = record {
          finds = meant.finds;
          in_order = meant.in_order;
          whole = whole_again laws image (as_read (now state)) f safe.stands.finds agrees_read.base safe.stands.whole;
          alike = record { found = alike_again f image (as_read (now state)) (nodes_of f.trees.nodes) agrees_read.base.nodes safe.stands.alike.found; next = tt };
          placed = safe.stands.placed;
          numbered = λ dev place bytes head mirror within stands. safe.stands.numbered dev place bytes head mirror within (area dev place mirror within ∙ stands);
          is = tt;
          few = tt;
          begun = safe.stands.begun;
          disks = safe.stands.disks;
          crashes = λ other may.
              let left = safe.stands.crashes other may in
              record {
                base = base_from f image (as_read (now state)) other agrees_read.base left.base;
                journal = λ dev place mirror within away. sym (agrees_read.journal dev place mirror within away) ∙ left.journal dev place mirror within away;
              };
          nodes = λ other may. tt;
          held = λ untorn dev place bytes mirror within is_open held. inl (⊎_elim
              (λ (stood : block_at image dev (16 + place) ≡ Some bytes). sym (area dev place mirror within) ∙ stood)
              (λ none. absurd none)
              (safe.stands.held untorn dev place bytes mirror within is_open held));
          stand = tt;
        };
        bases_are = safe.bases_are;
        safe = safe.safe;
      }

-- ---- what a crash leaves now

pub means_now : ImageLaws → (f : Found) (image : Image) (writing : Option Writing) (asked written : ℕ) (bases : List Found) (durable : List ℕ) (first : ℕ) (state : DevicesState) → IsJournalSafe f image writing asked written bases durable first state
    → (other : Image) → IsCrashImage (now state) other → IsUntorn f.layout first state.moment state other → MeansOneOf (meant_by f writing) [] state.moment other
means_now laws f image writing asked written bases durable first state safe other may untorn =
    one_of f writing (meant_by f writing) [] (record { before = []; are = refl; count = refl }) state.moment other
    (meaning laws f image writing safe.stands.finds safe.stands.in_order safe.stands.numbered safe.stands.is asked other (now state) (safe.stands.crashes other may) (safe.stands.nodes other may) (safe.stands.held untorn.reads) untorn.left)

pub whole_now : ImageLaws → (f : Found) (image : Image) (writing : Option Writing) (asked written : ℕ) (bases : List Found) (durable : List ℕ) (first : ℕ) (state : DevicesState) → IsJournalSafe f image writing asked written bases durable first state
    → (other : Image) → IsCrashImage (now state) other → (index : ℕ) → index < length f.needed → StandsOnAll f.layout other (get_or f.needed index f.last)
whole_now laws f image writing asked written bases durable first state safe other may = whole_again laws image other f safe.stands.finds (safe.stands.crashes other may).base safe.stands.whole
