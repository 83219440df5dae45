-- While a needed entry is mended the image means the same, and stays in order.
use Rattle.std.proofs.Common.{◌≡◌, ◌≢◌, ℕ, zero, suc, ◌+◌, ◌/◌, ◌%◌, ◌<◌, ◌≤◌, ◌⊎◌, inl, inr, ⊎_elim, Bool, true, cond, List, [], ◌∷◌, length, map, get_or, slice_get, Some, None, Ok, sym, ap, subst, ◌∙◌, arith}
use Rattle.std.proofs.lemmas.Bool.{cases_eq, cases_lt, lt-ltb}
use Rattle.std.proofs.lemmas.List.Elements.{All-from_get_or, All-get_or, All-weaker}
use Rattle.std.proofs.lemmas.Option.{none-some, same_Some, slice_get-get_or, slice_get_past}
use Rattle.std.specs.Prelude.{All, nat_lt, option_and_then}
use Rattle.sha2.specs.Sha256.{sha256}
use Rattle.dev_model.specs.Disk.{Image}
use Rattle.geometry.specs.LayoutFacts.{HasPlaces, has_places}
use Rattle.geometry.specs.SuperLaws.{layout_fits}
use Rattle.key_codec.specs.Combined.{ok_is}
use Rattle.key_meaning.specs.Checks.{AreNodesPlaced, IsNodePlaced, kept_buckets}
use Rattle.record_codec.specs.declared.entries.EntryRecord.{EntryRecord}
use Rattle.record_codec.specs.Entries.{entry_format, entry_in}
use Rattle.sealed_block.specs.declared.heads.Head.{Head}
use Rattle.sealed_block.specs.Blocks.{Opens}
use Rattle.sealed_block.specs.Opening.{opened}
use Rattle.journal_ring.specs.declared.found.FoundEntry.{FoundEntry}
use Rattle.journal_ring.specs.Entries.{IsMadeOf, IsWhole, IsWholeOn}
use Rattle.journal_ring.specs.EntryBlocks.{AreEntryBlocks, part_head, part_payload, parts_of}
use Rattle.journal_ring.specs.EntryLaws.{entry_head_is}
use Rattle.journal_ring.specs.Leading.{IsBehind, Leads}
use Rattle.journal_ring.specs.Mending.{DoNotOverlap, HasPart, IsMended}
use Rattle.journal_ring.specs.Parts.{Area, area_of, numbered}
use Rattle.vol_types.specs.Limits.{bucket_blocks}
use Rattle.vol_types.specs.declared.layout.Layout.{Layout}
use Rattle.vol_types.specs.declared.pointers.NodePtr.{NodePtr}
use Rattle.vol_types.specs.declared.pointers.Place.{Place}
use Rattle.image_view.proofs.CrashNewest.{Again, AreWhole}
use Rattle.image_view.proofs.OtherSession.{all_of_each}
use Rattle.image_view.specs.CopyLaws.{agree-same}
use Rattle.image_view.specs.BaseLaws.{found-again, found-layout, found-newest, found-session, greatest_session-same}
use Rattle.image_view.specs.Bases.{AgreeAt, AgreeInBucket, AgreeOnNode, AgreeOnNodes, IsNewest}
use Rattle.image_view.specs.Found.{FollowOn, Found, IsInOrder, PassesNone, found, node_places}
use Rattle.image_view.specs.Mends.{HasNoEqualDigest, IsMending, IsPlaceOf, StandsIn}
use Rattle.image_view.specs.Trees.{nodes_of}

-- ---- needed entries are apart

-- Each entry ends before the later ones begin.
ordered : (last : FoundEntry) (entries : List FoundEntry) → FollowOn entries → ((k : ℕ) → k < length entries → (get_or entries k last).number ≤ (get_or entries k last).end)
    → (i j : ℕ) → i < j → j < length entries → (get_or entries i last).end ≤ (get_or entries j last).number
ordered last [] follow long i j less lower = absurd (omega (arith, lower))
ordered last (x ∷ []) follow long i j less lower = absurd (omega (arith, less, lower))
ordered last (x ∷ y ∷ entries) follow long zero zero less lower = absurd (omega (arith, less))
ordered last (x ∷ y ∷ entries) follow long zero (suc zero) less lower = let next = follow.0 in omega (arith, next)
ordered last (x ∷ y ∷ entries) follow long zero (suc (suc j)) less lower =
    let next = follow.0 in
    let here = long 1 (omega arith) in
    let rest = ordered last (y ∷ entries) follow.1 (λ k low. long (suc k) (omega (arith, low))) 0 (suc j) (omega arith) (omega (arith, lower)) in
    omega (arith, next, here, rest)
ordered last (x ∷ y ∷ entries) follow long (suc i) zero less lower = absurd (omega (arith, less))
ordered last (x ∷ y ∷ entries) follow long (suc i) (suc j) less lower = ordered last (y ∷ entries) follow.1 (λ k low. long (suc k) (omega (arith, low))) i j (omega (arith, less)) (omega (arith, lower))

-- What the laws of the journal say.
pub record JournalLaws : Type 0 where
  pub again : Again
  pub are_whole : AreWhole
  pub made : (layout : Layout) (area : Area) (dev : ℕ) (found : FoundEntry) → IsWholeOn layout area dev found → (blocks : List (List ℕ)) × IsMadeOf layout area found blocks
  pub sealed : (layout : Layout) (area : Area) (found : FoundEntry) (blocks : List (List ℕ)) → IsMadeOf layout area found blocks → AreEntryBlocks layout.id found.number found.entry blocks
  pub same : (id : List ℕ) (number : ℕ) (entry : EntryRecord) (one other : List (List ℕ)) → AreEntryBlocks id number entry one → AreEntryBlocks id number entry other → one ≡ other
  pub stays : (layout : Layout) (one other : Area) (dev : ℕ) (found : FoundEntry) (blocks : List (List ℕ)) → IsWholeOn layout one dev found → AreEntryBlocks layout.id found.number found.entry blocks → IsMended layout found.number blocks one other → IsWholeOn layout other dev found
  pub others : (layout : Layout) (one other : Area) (dev : ℕ) (found another : FoundEntry) (blocks : List (List ℕ)) → IsWholeOn layout one dev another → 0 < layout.journal → found.end ≡ found.number + length blocks → DoNotOverlap layout.journal found another → IsMended layout found.number blocks one other → IsWholeOn layout other dev another
  pub opens : (block : List ℕ) (h : Head) (payload : List ℕ) → Opens block h payload → opened block ≡ Some h

-- Needed entries that stand in order are apart.
module _ (laws : JournalLaws) (one : Image) (f : Found) (is : found one ≡ Ok f) where
  ring_some : 0 < f.layout.journal
  ring_some = let least = (has_places (map (λ blocks. length blocks) one) f.layout (layout_fits one f.layout (found-layout one f is))).least in omega (arith, least)

  pub all_whole : (k : ℕ) → k < length f.needed → IsWhole f.layout (area_of one) (get_or f.needed k f.last)
  all_whole k within =
      let new = found-newest one f is in
      All-get_or (IsWhole f.layout (area_of one)) f.needed k f.last within (laws.are_whole f.layout (area_of one) f.last f.needed ring_some new.last new.needed)

  all_long : (k : ℕ) → k < length f.needed → (get_or f.needed k f.last).number ≤ (get_or f.needed k f.last).end
  all_long k within =
      let w = all_whole k within in
      let m = laws.made f.layout (area_of one) w.0 (get_or f.needed k f.last) w.1 in
      let end = m.1.end in
      omega (arith, end)

  module _ (order : IsInOrder f one) where
    near : (i j : ℕ) → i < length f.needed → j < length f.needed → (get_or f.needed j f.last).end ≤ (get_or f.needed i f.last).number + f.layout.journal
    near i j within there =
        All-get_or (λ (x : FoundEntry). x.end ≤ (get_or f.needed i f.last).number + f.layout.journal) f.needed j f.last there
        (All-get_or (λ (x : FoundEntry). All (λ (y : FoundEntry). y.end ≤ x.number + f.layout.journal) f.needed) f.needed i f.last within order.fits)

    pub needed_apart : (i k : ℕ) → i < length f.needed → k < length f.needed → ¬ (k ≡ i) → DoNotOverlap f.layout.journal (get_or f.needed i f.last) (get_or f.needed k f.last)
    needed_apart i k lower within elsewhere = ⊎_elim
        (λ (before : k < i). inr (ordered f.last f.needed order.entries all_long k i before lower, near k i within lower))
        (λ (after : i ≤ k). inl (ordered f.last f.needed order.entries all_long i k (omega (arith, after, elsewhere)) within, near i k lower within))
        (cases_lt k i)

kept_mirror : (test : Bool) (count : ℕ) → test ≡ true → cond {A = ℕ} test (1 + count) 1 ≡ 1 + count
kept_mirror test count is = ap (λ b. cond {A = ℕ} b (1 + count) 1) is

module _ (laws : JournalLaws) (one other : Image) (f : Found) (is : found one ≡ Ok f) (order : IsInOrder f one) (placed : AreNodesPlaced (node_places f) f.layout) (index : ℕ) (entry : FoundEntry) (at : slice_get f.needed index ≡ Some entry)
    (blocks : List (List ℕ)) (mending : IsMending f.layout entry blocks one other) (apart : HasNoEqualDigest f.layout (area_of one)) where
  places : HasPlaces (map (λ blocks. length blocks) one) f.layout
  places = has_places (map (λ blocks. length blocks) one) f.layout (layout_fits one f.layout (found-layout one f is))

  some : 0 < f.layout.journal
  some = let least = places.least in omega (arith, least)

  new : IsNewest f one
  new = found-newest one f is

  -- ---- where the entry stands

  lower : index < length f.needed
  lower = ⊎_elim (λ (within : index < length f.needed). within) (λ (past : length f.needed ≤ index). absurd (none-some entry (sym (slice_get_past f.needed index past) ∙ at))) (cases_lt index (length f.needed))

  entry_is : get_or f.needed index f.last ≡ entry
  entry_is = same_Some (get_or f.needed index f.last) entry (sym (slice_get-get_or f.needed index f.last lower) ∙ at)

  whole : (k : ℕ) → k < length f.needed → IsWhole f.layout (area_of one) (get_or f.needed k f.last)
  whole k within = All-get_or (IsWhole f.layout (area_of one)) f.needed k f.last within (laws.are_whole f.layout (area_of one) f.last f.needed some new.last new.needed)

  entry_whole : IsWhole f.layout (area_of one) entry
  entry_whole = subst (IsWhole f.layout (area_of one)) entry_is (whole index lower)

  made : IsMadeOf f.layout (area_of one) entry blocks
  made =
      let m = laws.made f.layout (area_of one) entry_whole.0 entry entry_whole.1 in
      subst (IsMadeOf f.layout (area_of one) entry) (laws.same f.layout.id entry.number entry.entry m.0 blocks (laws.sealed f.layout (area_of one) entry m.0 m.1) mending.sealed) m.1

  -- So is it with the areas.
  area_mended : IsMended f.layout entry.number blocks (area_of one) (area_of other)
  area_mended = record {
    parts = mending.parts;
    elsewhere = λ dev place mirror within away. mending.elsewhere dev (16 + place) (λ (hit : IsPlaceOf f.layout entry (length blocks) dev (16 + place)).
        let same = hit.place in
        away hit.part hit.within (omega (arith, same)));
  }

  -- ---- the other needed entries

  still_whole : (k : ℕ) → k < length f.needed → IsWhole f.layout (area_of other) (get_or f.needed k f.last)
  still_whole k within = ⊎_elim
      (λ (here : k ≡ index). (
        entry_whole.0,
        subst (IsWholeOn f.layout (area_of other) entry_whole.0) (sym entry_is ∙ ap (λ n. get_or f.needed n f.last) (sym here))
            (laws.stays f.layout (area_of one) (area_of other) entry_whole.0 entry blocks entry_whole.1 mending.sealed area_mended),
      ))
      (λ (elsewhere : ¬ (k ≡ index)).
      let w = whole k within in
      let away : DoNotOverlap f.layout.journal entry (get_or f.needed k f.last) = subst (λ (x : FoundEntry). DoNotOverlap f.layout.journal x (get_or f.needed k f.last)) entry_is (needed_apart laws one f is order index k lower within elsewhere) in
      (w.0, laws.others f.layout (area_of one) (area_of other) w.0 entry (get_or f.needed k f.last) blocks w.1 some made.end away area_mended))
      (cases_eq k index)

  -- ---- what stands in the other image

  -- A place is one of the entry, or it isn't.
  is_place : (place count : ℕ) → ((p : ℕ) × (p < count) × (place ≡ (entry.number + p) % f.layout.journal)) ⊎ ((p : ℕ) → p < count → place ≢ (entry.number + p) % f.layout.journal)
  is_place place zero = inr (λ p low. absurd (omega (arith, low)))
  is_place place (suc count) = ⊎_elim
      (λ (found : (p : ℕ) × (p < count) × (place ≡ (entry.number + p) % f.layout.journal)). let low = found.1 in inl (found.0, omega (arith, low), found.2))
      (λ (none : (p : ℕ) → p < count → place ≢ (entry.number + p) % f.layout.journal). ⊎_elim
      (λ (here : place ≡ (entry.number + count) % f.layout.journal). inl (count, omega arith, here))
      (λ (away : ¬ (place ≡ (entry.number + count) % f.layout.journal)). inr (λ p low. ⊎_elim (λ (less : p < count). none p less) (λ (more : count ≤ p). subst (λ n. place ≢ (entry.number + n) % f.layout.journal) (let e : count ≡ p = omega (arith, low, more) in e) away) (cases_lt p count)))
      (cases_eq place ((entry.number + count) % f.layout.journal)))
      (is_place place count)

  -- A block that opens there stood at that place, or it is a part of the entry.
  stood : (dev place : ℕ) (bytes : List ℕ) (head : Head) → dev < f.layout.metadata_replicas → place < f.layout.journal → area_of other dev place ≡ Some bytes → opened bytes ≡ Some head
      → (area_of one dev place ≡ Some bytes) ⊎ ((p : ℕ) × (p < length blocks) × (bytes ≡ get_or blocks p []))
  stood dev place bytes head mirror within stands opens = ⊎_elim
      (λ (found : (p : ℕ) × (p < length blocks) × (place ≡ (entry.number + p) % f.layout.journal)). ⊎_elim
      (λ (same : numbered f.layout (area_of other) dev (entry.number + found.0) ≡ numbered f.layout (area_of one) dev (entry.number + found.0)).
      inl (ap (area_of one dev) found.2 ∙ sym same ∙ ap (area_of other dev) (sym found.2) ∙ stands))
      (λ (lacks : ¬ HasPart f.layout (area_of one) entry.number blocks dev found.0 × (HasPart f.layout (area_of other) entry.number blocks dev found.0 ⊎ (option_and_then opened (numbered f.layout (area_of other) dev (entry.number + found.0)) ≡ None))). ⊎_elim
      (λ (has : HasPart f.layout (area_of other) entry.number blocks dev found.0). inr (found.0, found.1, same_Some bytes (get_or blocks found.0 []) (sym stands ∙ ap (area_of other dev) found.2 ∙ has)))
      (λ (torn : option_and_then opened (numbered f.layout (area_of other) dev (entry.number + found.0)) ≡ None).
      absurd (none-some head (sym torn ∙ ap (option_and_then opened) (ap (area_of other dev) (sym found.2) ∙ stands) ∙ opens)))
      lacks.1)
      (mending.parts dev found.0 mirror found.1))
      (λ (away : (p : ℕ) → p < length blocks → place ≢ (entry.number + p) % f.layout.journal). inl (area_mended.elsewhere dev place mirror within away ∙ stands))
      (is_place place (length blocks))

  -- The parts of the entry stand in the first image.
  part_stands : (p : ℕ) → p < length blocks → StandsIn f.layout (area_of one) (get_or blocks p [])
  part_stands p low =
      let at_dev = made.stand p low in
      record { dev = at_dev.0; place = (entry.number + p) % f.layout.journal; mirror = at_dev.1; within = omega (arith, some); stands = at_dev.2 }

  -- ---- entries that are made there

  module _ (another : FoundEntry) (parts : List (List ℕ)) (made_there : IsMadeOf f.layout (area_of other) another parts) where
    -- Each part opens.
    head_at : (p : ℕ) → p < length parts → (head : Head) × (opened (get_or parts p []) ≡ Some head)
    head_at p low =
        let part = made_there.record_is.parts.parts p (let count = made_there.record_is.parts.count in omega (arith, low, count)) in
        (part.head, part.opens)

    abbrev Old : ℕ → Type 0
    Old p = (dev : ℕ) × (dev < f.layout.metadata_replicas) × (numbered f.layout (area_of one) dev (another.number + p) ≡ Some (get_or parts p []))

    abbrev Own : ℕ → Type 0
    Own p = (q : ℕ) × (q < length blocks) × (get_or parts p [] ≡ get_or blocks q [])

    -- Each part stood there, or is one of the mended entry.
    each : (p : ℕ) → p < length parts → Old p ⊎ Own p
    each p low =
        let at_dev = made_there.stand p low in
        let head = head_at p low in
        ⊎_elim
        (λ (old : area_of one at_dev.0 ((another.number + p) % f.layout.journal) ≡ Some (get_or parts p [])). inl (at_dev.0, at_dev.1, old))
        (λ (own : Own p). inr own)
        (stood at_dev.0 ((another.number + p) % f.layout.journal) (get_or parts p []) head.0 at_dev.1 (omega (arith, some)) at_dev.2 head.1)

    -- All stood there, or one is of the mended entry.
    all_or_one : (count : ℕ) → count ≤ length parts → ((p : ℕ) → p < count → Old p) ⊎ ((p : ℕ) × (p < length parts) × Own p)
    all_or_one zero few = inl (λ p low. absurd (omega (arith, low)))
    all_or_one (suc count) few = ⊎_elim
        (λ (old : (p : ℕ) → p < count → Old p). ⊎_elim
        (λ (here : Old count). inl (λ p low. ⊎_elim (λ (less : p < count). old p less) (λ (more : count ≤ p). subst Old (let e : count ≡ p = omega (arith, low, more) in e) here) (cases_lt p count)))
        (λ (own : Own count). inr (count, omega (arith, few), own))
        (each count (omega (arith, few))))
        (λ own. inr own)
        (all_or_one count (omega (arith, few)))

    all_stand : All (StandsIn f.layout (area_of one)) parts
    all_stand = All-from_get_or (StandsIn f.layout (area_of one)) parts [] (λ p low. ⊎_elim
        (λ (old : Old p). record { dev = old.0; place = (another.number + p) % f.layout.journal; mirror = old.1; within = omega (arith, some); stands = old.2 })
        (λ (own : Own p). subst (StandsIn f.layout (area_of one)) (sym own.2) (part_stands own.0 own.1))
        (each p low))

    -- the first head of what is made
    abbrev first : Head
    first = made_there.first

    digest_is : sha256 made_there.payload ≡ first.whole
    digest_is = made_there.record_is.digest ∙ ap (λ (h : Head). h.whole) (same_Some made_there.record_is.first first (sym made_there.record_is.parts.begins ∙ made_there.begins))

    -- Where a part is of the mended entry, what is made is that entry.
    is_entry : (p : ℕ) → p < length parts → Own p → another ≡ entry
    is_entry p low own =
        let part = made_there.record_is.parts.parts p (let count = made_there.record_is.parts.count in omega (arith, low, count)) in
        let begins : part.first ≡ first = same_Some part.first first (sym part.begins ∙ made_there.begins) in
        let payload : List ℕ = entry_format.encode entry.entry in
        let count = mending.sealed.count in
        let lower_q = own.1 in
        let opens_so : (q : ℕ) → q < length blocks → opened (get_or blocks q []) ≡ Some (part_head f.layout.id entry.number entry.entry payload q) =
        λ q low_q. laws.opens (get_or blocks q []) (part_head f.layout.id entry.number entry.entry payload q) (part_payload payload q) (mending.sealed.parts q (omega (arith, low_q, count))).opens in
        let head : part.head ≡ part_head f.layout.id entry.number entry.entry payload own.0 = same_Some part.head (part_head f.layout.id entry.number entry.entry payload own.0) (sym part.opens ∙ ap opened own.2 ∙ opens_so own.0 own.1) in
        let at_part : p ≡ own.0 = sym part.continues.part ∙ ap (λ (h : Head). h.part) head in
        let at_number : first.number + p ≡ entry.number + own.0 = ap (λ (h : Head). h.number + p) (sym begins) ∙ sym part.continues.number ∙ ap (λ (h : Head). h.number) head in
        let head_number = (entry_head_is f.layout.id another.number first made_there.is_head).number_is in
        let number : another.number ≡ entry.number = omega (arith, at_part, at_number, head_number) in
        let whole : first.whole ≡ sha256 payload = ap (λ (h : Head). h.whole) (sym begins) ∙ sym part.continues.record_is.whole ∙ ap (λ (h : Head). h.whole) head in
        let zeroth : made.first ≡ part_head f.layout.id entry.number entry.entry payload 0 = same_Some made.first (part_head f.layout.id entry.number entry.entry payload 0) (sym made.begins ∙ opens_so 0 (omega (arith, lower_q))) in
        let own_digest : sha256 made.payload ≡ sha256 payload =
        made.record_is.digest ∙ ap (λ (h : Head). h.whole) (same_Some made.record_is.first made.first (sym made.record_is.parts.begins ∙ made.begins)) ∙ ap (λ (h : Head). h.whole) zeroth in
        let payloads : made_there.payload ≡ made.payload = apart parts blocks made_there.payload made.payload (sha256 payload) all_stand (All-from_get_or (StandsIn f.layout (area_of one)) blocks [] part_stands) (made_there.record_is, digest_is ∙ whole) (made.record_is, own_digest) in
        let entries : another.entry ≡ entry.entry = ok_is another.entry entry.entry (sym made_there.read ∙ ap entry_in payloads ∙ made.read) in
        let as_many = (laws.sealed f.layout (area_of other) another parts made_there).count in
        let end_there = made_there.end in
        let end_here = made.end in
        let ends : another.end ≡ entry.end = omega (arith, number, end_there, end_here, as_many, count, ap parts_of entries) in
        λ i. record { number = number i; end = ends i; entry = entries i }

    -- So what is made passes none that was found.
    passes_there : PassesNone f another
    passes_there = ⊎_elim
        (λ (old : (p : ℕ) → p < length parts → Old p). order.others another parts (record {
          first = made_there.first;
          payload = made_there.payload;
          begins = made_there.begins;
          is_head = made_there.is_head;
          session = made_there.session;
          sequence = made_there.sequence;
          end = made_there.end;
          stand = old;
          record_is = made_there.record_is;
          read = made_there.read;
        }))
        (λ (own : (p : ℕ) × (p < length parts) × Own p). subst (PassesNone f) (sym (is_entry own.0 own.1 own.2)) (order.others entry blocks made))
        (all_or_one (length parts) (omega arith))

  -- ---- the image

  bucket_mended : (place : Place) → IsNodePlaced f.layout place → AgreeInBucket one other place
  bucket_mended place node n few = mending.elsewhere place.dev (place.block + n) (λ (hit : IsPlaceOf f.layout entry (length blocks) place.dev (place.block + n)).
      let kept : kept_buckets f.layout place.dev ≡ 1 + f.layout.journal / bucket_blocks = kept_mirror (nat_lt place.dev f.layout.metadata_replicas) (f.layout.journal / bucket_blocks) (lt-ltb place.dev f.layout.metadata_replicas hit.mirror) in
      let behind = node.behind in
      let is_there = hit.place in
      let whole = places.journal_whole in
      omega (arith, kept, behind, is_there, whole, some))

  low_same : (dev block : ℕ) → block < 16 → AgreeAt one other dev block
  low_same dev block low = mending.elsewhere dev block (λ (hit : IsPlaceOf f.layout entry (length blocks) dev block). let is_there = hit.place in omega (arith, low, is_there))

  nodes_mended : AgreeOnNodes f one other
  nodes_mended = record {
    lengths = mending.lengths;
    first_copies = λ dev. low_same dev 0 (omega arith);
    second_copies = λ dev. low_same dev 8 (omega arith);
    nodes = All-weaker (λ (node : NodePtr). All (IsNodePlaced f.layout) node.places) (AgreeOnNode one other)
        (λ node each_place. All-weaker (IsNodePlaced f.layout) (AgreeInBucket one other) bucket_mended node.places each_place) (nodes_of f.trees.nodes)
        (all_of_each (IsNodePlaced f.layout) (λ (node : NodePtr). node.places) (nodes_of f.trees.nodes) placed.each);
  }

  newest_mended : IsNewest f other
  newest_mended =
      let again = laws.again f.layout (area_of one) (area_of other) f.last f.needed some new.last new.needed
      (All-from_get_or (Leads f.layout (area_of other)) f.needed f.last (λ k within. record {
        whole = still_whole k within;
        others = λ dev x is_whole named.
            let m = laws.made f.layout (area_of other) dev x is_whole in
            All-get_or (λ (needed : FoundEntry). x.entry.sequence ≡ needed.entry.sequence → IsBehind x needed) f.needed k f.last within (passes_there x m.0 m.1).behind named;
      }))
      (λ dev x is_whole. let m = laws.made f.layout (area_of other) dev x is_whole in (passes_there x m.0 m.1).sequence) in
      record { last = again.0; needed = again.1 }

  -- What is found is the same,
  pub found_mended : found other ≡ Ok f
  found_mended = found-again one other f f.session is nodes_mended
      (greatest_session-same f.layout.id one other f.layout.metadata_replicas (λ dev within. low_same dev 4 (omega arith)) (λ dev within. low_same dev 5 (omega arith)) ∙ found-session one f is)
      newest_mended

  -- and in order.
  pub in_order_mended : IsInOrder f other
  in_order_mended = record {
    entries = order.entries;
    fits = order.fits;
    others = passes_there;
    owners = λ dev place bytes head mirror within stands opens kind id. ⊎_elim
        (λ (old : area_of one dev place ≡ Some bytes). order.owners dev place bytes head mirror within old opens kind id)
        (λ (own : (p : ℕ) × (p < length blocks) × (bytes ≡ get_or blocks p [])).
        let part = part_stands own.0 own.1 in
        order.owners part.dev part.place (get_or blocks own.0 []) head part.mirror part.within part.stands (subst (λ (x : List ℕ). opened x ≡ Some head) own.2 opens) kind id)
        (stood dev place bytes head mirror within stands opens);
    levels = order.levels;
    agree = record { each = agree-same f.layout.id one other (nodes_of f.trees.nodes) nodes_mended.nodes order.agree.each };
    births = order.births;
  }
