-- What is made of the next entry's blocks and of blocks that stood there is the next entry, or it stood there.
use Rattle.std.proofs.Common.{◌≡◌, ◌⊎◌, inl, inr, ⊎_elim, ℕ, zero, suc, ◌+◌, ◌*◌, ◌%◌, ◌<◌, ◌≤◌, List, [], ◌∷◌, ◌++◌, length, take, drop, get_or, Some, Result, Ok, refl, sym, ap, subst, ◌∙◌, arith}
use Rattle.std.proofs.lemmas.Bool.{cases_lt}
use Rattle.std.proofs.lemmas.List.{append-nil, drop-drop, get_or_default, length-drop, length-take, nil_from_length, same_lists, take-append-drop}
use Rattle.std.proofs.lemmas.List.Elements.{All-from_get_or}
use Rattle.std.proofs.lemmas.Option.{same_Some}
use Rattle.std.specs.List.{flat_map}
use Rattle.std.specs.Prelude.{All, Contains, is_some}
use Rattle.sha2.specs.Sha256.{sha256}
use Rattle.dev_model.specs.Disk.{Disk, Image}
use Rattle.journal_ring.specs.Entries.{IsMadeOf}
use Rattle.journal_ring.specs.EntryBlocks.{AreEntryBlocks, part_count, part_head, part_payload, parts_of}
use Rattle.journal_ring.specs.EntryLaws.{IsEntryHead, entry_head_is}
use Rattle.journal_ring.specs.Parts.{Area, area_of, numbered}
use Rattle.journal_ring.specs.declared.found.FoundEntry.{FoundEntry}
use Rattle.key_codec.specs.Combined.{ok_is}
use Rattle.key_codec.specs.Formats.{◌>>=◌}
use Rattle.record_codec.specs.declared.entries.EntryRecord.{EntryRecord}
use Rattle.record_codec.specs.declared.fault.RecordFault.{RecordFault}
use Rattle.record_codec.specs.Entries.{entry_format, entry_in, entry_length_of}
use Rattle.record_codec.specs.Sets.{all_read}
use Rattle.sealed_block.specs.declared.heads.Head.{Head}
use Rattle.sealed_block.specs.Blocks.{Opens}
use Rattle.sealed_block.specs.Opening.{opened, payload_in}
use Rattle.sealed_block.specs.Records.{Continues, IsPart, IsRecord}
use Rattle.vol_types.specs.declared.layout.Layout.{Layout}
use Rattle.image_view.proofs.NextNewest.{NewestLaws}
use Rattle.image_view.specs.Found.{Found, IsInOrder, PassesNone}
use Rattle.image_view.specs.NextEntries.{AreNumberedBelow, HasNoEqualDigestWith, HoldOldOrNext, IsNext, IsToldApart, NonePassesBut, StandsOrIsOf}

-- What is said of the blocks of entries: they open with their heads and payloads, an entry has one list of them, and is so long.
pub record BlockLaws : Type 0 where
  pub newest : NewestLaws
  pub head : (block : List ℕ) (h : Head) (payload : List ℕ) → Opens block h payload → opened block ≡ Some h
  pub payload : (block : List ℕ) (h : Head) (payload : List ℕ) → Opens block h payload → payload_in block ≡ payload
  pub made_sealed : (layout : Layout) (area : Area) (found : FoundEntry) (blocks : List (List ℕ)) → IsMadeOf layout area found blocks → AreEntryBlocks layout.id found.number found.entry blocks
  pub one_sealed : (id : List ℕ) (number : ℕ) (entry : EntryRecord) (one other : List (List ℕ)) → AreEntryBlocks id number entry one → AreEntryBlocks id number entry other → one ≡ other
  pub so_long : (entry : EntryRecord) → length (entry_format.encode entry) ≡ entry_length_of entry.roots entry.updates

-- ---- the record of an entry

-- Pieces of a payload, joined, are the payload.
pieces : (blocks : List (List ℕ)) (payload : List ℕ) → ((p : ℕ) → p < length blocks → payload_in (get_or blocks p []) ≡ part_payload payload p) → length payload ≤ 3968 * length blocks → payload ≡ flat_map payload_in blocks
pieces [] payload each long = nil_from_length payload (omega (arith, long))
pieces (block ∷ blocks) payload each long =
    sym (take-append-drop 3968 payload)
    ∙ ap (λ (xs : List ℕ). xs ++ drop 3968 payload) (sym (each 0 (omega arith)))
    ∙ ap (λ (xs : List ℕ). payload_in block ++ xs) (pieces blocks (drop 3968 payload) (λ p lower.
    each (suc p) (omega (arith, lower))
    ∙ ap (take 3968) (ap (λ n. drop n payload) (let e : 3968 * suc p ≡ 3968 + 3968 * p = omega arith in e) ∙ sym (drop-drop (3968 * p) 3968 payload)))
    (omega (arith, long, length-drop 3968 payload)))

-- how long a part is
filled : (payload : List ℕ) (p : ℕ) → p < part_count (length payload) → 0 < length (part_payload payload p)
filled payload p lower = omega (arith, lower, length-take 3968 (drop (3968 * p) payload), length-drop (3968 * p) payload)

full : (payload : List ℕ) (p : ℕ) → p + 1 < part_count (length payload) → length (part_payload payload p) ≡ 3968
full payload p lower = omega (arith, lower, length-take 3968 (drop (3968 * p) payload), length-drop (3968 * p) payload)

continues_so : (id : List ℕ) (number : ℕ) (entry : EntryRecord) (payload : List ℕ) (p : ℕ) → p < part_count (length payload) → Continues (part_head id number entry payload 0) p (part_head id number entry payload p)
continues_so id number entry payload p lower = record {
  record_is = record { kind = refl; version = refl; parts = refl; id = refl; owner = refl; sequence = refl; whole = refl };
  part = refl;
  number = omega arith;
  filled = filled payload p lower;
  full = λ more. full payload p more;
}

module _ (laws : BlockLaws) (f : Found) (passed : ℕ) (next : FoundEntry) (is_next : IsNext f passed next) (blocks : List (List ℕ)) (sealed : AreEntryBlocks f.layout.id next.number next.entry blocks) where
  -- the bytes of the entry
  abbrev pub payload : List ℕ
  payload = entry_format.encode next.entry

  -- the head of each part
  abbrev head_of : ℕ → Head
  head_of p = part_head f.layout.id next.number next.entry payload p

  pub count_is : length blocks ≡ part_count (length payload)
  count_is = sealed.count ∙ sym (ap part_count (laws.so_long next.entry))

  some_blocks : 0 < length blocks
  some_blocks = let count = sealed.count in omega (arith, count)

  pub opens_so : (p : ℕ) → p < length blocks → opened (get_or blocks p []) ≡ Some (head_of p)
  opens_so p lower = laws.head (get_or blocks p []) (head_of p) (part_payload payload p) (sealed.parts p (let count = sealed.count in omega (arith, lower, count))).opens

  payload_so : (p : ℕ) → p < length blocks → payload_in (get_or blocks p []) ≡ part_payload payload p
  payload_so p lower = laws.payload (get_or blocks p []) (head_of p) (part_payload payload p) (sealed.parts p (let count = sealed.count in omega (arith, lower, count))).opens

  joined_so : payload ≡ flat_map payload_in blocks
  joined_so = pieces blocks payload payload_so (omega (arith, count_is))

  is_part : (p : ℕ) → p < length blocks → IsPart blocks p
  is_part p lower = record {
    first = head_of 0;
    head = head_of p;
    begins = opens_so 0 some_blocks;
    opens = opens_so p lower;
    continues = continues_so f.layout.id next.number next.entry payload p (omega (arith, lower, count_is));
  }

  -- The blocks of the entry are a record.
  record_so : IsRecord blocks payload
  record_so = record {
    first = head_of 0;
    parts = record { begins = opens_so 0 some_blocks; count = count_is; parts = λ p lower. is_part p (omega (arith, lower, count_is)) };
    joined = joined_so;
    digest = refl;
  }

  read_so : entry_in payload ≡ Ok next.entry
  unfolding entry_in
  read_so =
      let read : entry_format.read payload ≡ Ok (next.entry, []) =
      subst (λ (bytes : List ℕ). entry_format.read bytes ≡ Ok (next.entry, [])) (append-nil payload) (laws.newest.read.exact.only next.entry [] is_next.entry) in
      ap (λ (r : Result (EntryRecord × List ℕ) RecordFault). r >>= all_read) read

  -- ---- what is made of its blocks and of those that stood there

  module _ (one : Image) where
    -- The block stands in the image, or is one of the entry's.
    abbrev pub IsOld : FoundEntry → List (List ℕ) → ℕ → Type 0
    IsOld x parts p = (dev : ℕ) × (dev < f.layout.metadata_replicas) × (numbered f.layout (area_of one) dev (x.number + p) ≡ Some (get_or parts p []))

    abbrev pub IsOwn : List (List ℕ) → ℕ → Type 0
    IsOwn parts p = (q : ℕ) × (q < length blocks) × (get_or parts p [] ≡ get_or blocks q [])

    module _ (order : IsInOrder f one) (some : 0 < f.layout.journal) where
      module _ (area : Area) (x : FoundEntry) (parts : List (List ℕ)) (made : IsMadeOf f.layout area x parts) (each : (p : ℕ) → p < length parts → IsOld x parts p ⊎ IsOwn parts p) where
        abbrev first : Head
        first = made.first

        head_is : IsEntryHead f.layout.id x.number first
        head_is = entry_head_is f.layout.id x.number first made.is_head

        first_is : made.record_is.first ≡ first
        first_is = same_Some made.record_is.first first (sym made.record_is.parts.begins ∙ made.begins)

        many : length parts ≡ first.parts
        many = made.record_is.parts.count ∙ ap (λ (h : Head). h.parts) first_is

        -- Each part opens and continues part 0.
        record IsNextPart (p : ℕ) : Type 0 where
          pub head : Head
          pub opens : opened (get_or parts p []) ≡ Some head
          pub continues : Continues first p head

        part_at : (p : ℕ) → p < length parts → IsNextPart p
        part_at p lower =
            let count = made.record_is.parts.count in
            let part = made.record_is.parts.parts p (omega (arith, lower, count)) in
            let begins : part.first ≡ first = same_Some part.first first (sym part.begins ∙ made.begins) in
            record { head = part.head; opens = part.opens; continues = subst (λ (h : Head). Continues h p part.head) begins part.continues }

        all_or_one : (count : ℕ) → count ≤ length parts → ((p : ℕ) → p < count → IsOld x parts p) ⊎ ((p : ℕ) × (p < length parts) × IsOwn parts p)
        all_or_one zero few = inl (λ p low. absurd (omega (arith, low)))
        all_or_one (suc count) few = ⊎_elim
            (λ (old : (p : ℕ) → p < count → IsOld x parts p). ⊎_elim
            (λ (here : IsOld x parts count). inl (λ p low. ⊎_elim (λ (less : p < count). old p less) (λ (more : count ≤ p). subst (IsOld x parts) (let e : count ≡ p = omega (arith, low, more) in e) here) (cases_lt p count)))
            (λ (own : IsOwn parts count). inr (count, omega (arith, few), own))
            (each count (omega (arith, few))))
            (λ own. inr own)
            (all_or_one count (omega (arith, few)))

        -- All parts stood there: so it is made of what stood there.
        made_of_old : ((p : ℕ) → p < length parts → IsOld x parts p) → PassesNone f x
        made_of_old old = order.others x parts (record {
          first = made.first;
          payload = made.payload;
          begins = made.begins;
          is_head = made.is_head;
          session = made.session;
          sequence = made.sequence;
          end = made.end;
          stand = old;
          record_is = made.record_is;
          read = made.read;
        })

        -- Under the entry's number and with its bytes it is the entry.
        is_next_by : x.number ≡ next.number → made.payload ≡ payload → x ≡ next
        is_next_by number same =
            let entries : x.entry ≡ next.entry = ok_is x.entry next.entry (sym made.read ∙ ap entry_in same ∙ read_so) in
            let as_many = (laws.made_sealed f.layout area x parts made).count in
            let ends_there = made.end in
            let ends_here = is_next.end in
            let ends : x.end ≡ next.end = omega (arith, number, ends_there, ends_here, as_many, ap parts_of entries) in
            λ i. record { number = number i; end = ends i; entry = entries i }

        module _ (p : ℕ) (lower : p < length parts) (own : IsOwn parts p) where
          head_here : (part_at p lower).head ≡ head_of own.0
          head_here = same_Some (part_at p lower).head (head_of own.0) (sym (part_at p lower).opens ∙ ap opened own.2 ∙ opens_so own.0 own.1)

          number_is : x.number ≡ next.number
          number_is =
              let part = part_at p lower in
              let at_part : p ≡ own.0 = sym part.continues.part ∙ ap (λ (h : Head). h.part) head_here in
              let at_number : first.number + p ≡ next.number + own.0 = sym part.continues.number ∙ ap (λ (h : Head). h.number) head_here in
              let named = head_is.number_is in
              omega (arith, at_part, at_number, named)

          whole_is : first.whole ≡ sha256 payload
          whole_is = let part = part_at p lower in sym part.continues.record_is.whole ∙ ap (λ (h : Head). h.whole) head_here

          owner_is : first.owner ≡ f.session
          owner_is = let part = part_at p lower in sym part.continues.record_is.owner ∙ ap (λ (h : Head). h.owner) head_here ∙ is_next.session

          as_many_parts : length parts ≡ length blocks
          as_many_parts = let part = part_at p lower in many ∙ sym part.continues.record_is.parts ∙ ap (λ (h : Head). h.parts) head_here ∙ sym count_is

          -- Where no two records have one digest, it has the entry's bytes.
          same_by_digest : HasNoEqualDigestWith f.layout (area_of one) blocks → made.payload ≡ payload
          same_by_digest apart = apart parts blocks made.payload payload (sha256 payload) all_there all_own (made.record_is, made.record_is.digest ∙ ap (λ (h : Head). h.whole) first_is ∙ whole_is) (record_so, refl)
            where
              contained : (q : ℕ) (bytes : List ℕ) → q < length blocks → bytes ≡ get_or blocks q [] → Contains blocks bytes
              contained q bytes low same = (q, low, get_or_default blocks q bytes [] low ∙ sym same)

              all_there : All (StandsOrIsOf f.layout (area_of one) blocks) parts
              all_there = All-from_get_or (StandsOrIsOf f.layout (area_of one) blocks) parts [] (λ q low. ⊎_elim
                  (λ (old : IsOld x parts q). inl (record { dev = old.0; place = (x.number + q) % f.layout.journal; mirror = old.1; within = omega (arith, some); stands = old.2 }))
                  (λ (mine : IsOwn parts q). inr (contained mine.0 (get_or parts q []) mine.1 mine.2))
                  (each q low))

              all_own : All (StandsOrIsOf f.layout (area_of one) blocks) blocks
              all_own = All-from_get_or (StandsOrIsOf f.layout (area_of one) blocks) blocks [] (λ q low. inr (contained q (get_or blocks q []) low refl))

          -- Where no block of the session that stands there has such a number, all parts are the entry's.
          same_by_number : AreNumberedBelow f.layout f.session f.last.end (area_of one) → made.payload ≡ payload
          same_by_number below = made.record_is.joined ∙ ap (flat_map payload_in) (same_lists parts blocks as_many_parts (λ q d low. same_part q d low (own_part q low))) ∙ sym joined_so
            where
              own_part : (q : ℕ) → q < length parts → IsOwn parts q
              own_part q low = ⊎_elim
                  (λ (old : IsOld x parts q).
                  let part = part_at q low in
                  let record_of = part.continues.record_is in
                  let less = below old.0 ((x.number + q) % f.layout.journal) (get_or parts q []) part.head old.1 (omega (arith, some)) old.2 part.opens (record_of.kind ∙ head_is.kind) (record_of.id ∙ head_is.id_is) (record_of.owner ∙ owner_is) in
                  let at = part.continues.number in
                  let named = head_is.number_is in
                  let ends = is_next.number in
                  absurd (omega (arith, less, at, named, ends, number_is)))
                  (λ (mine : IsOwn parts q). mine)
                  (each q low)

              same_part : (q : ℕ) (d : List ℕ) → q < length parts → IsOwn parts q → get_or parts q d ≡ get_or blocks q d
              same_part q d low mine =
                  let part = part_at q low in
                  let head : part.head ≡ head_of mine.0 = same_Some part.head (head_of mine.0) (sym part.opens ∙ ap opened mine.2 ∙ opens_so mine.0 mine.1) in
                  let at_part : mine.0 ≡ q = sym (ap (λ (h : Head). h.part) head) ∙ part.continues.part in
                  get_or_default parts q d [] low ∙ mine.2 ∙ ap (λ n. get_or blocks n []) at_part ∙ get_or_default blocks q [] d (omega (arith, low, as_many_parts))

        -- So it passes none that was found, or it is the entry.
        pub old_or_next : IsToldApart f (area_of one) blocks → PassesNone f x ⊎ (x ≡ next)
        old_or_next told = ⊎_elim
            (λ (old : (p : ℕ) → p < length parts → IsOld x parts p). inl (made_of_old old))
            (λ (own : (p : ℕ) × (p < length parts) × IsOwn parts p). inr (is_next_by (number_is own.0 own.1 own.2) (⊎_elim
            (λ (below : AreNumberedBelow f.layout f.session f.last.end (area_of one)). same_by_number own.0 own.1 own.2 below)
            (λ (apart : HasNoEqualDigestWith f.layout (area_of one) blocks). same_by_digest own.0 own.1 own.2 apart)
            told)))
            (all_or_one (length parts) (omega arith))

      -- What is made of held blocks passes none, or is the next entry.
      pub held_or_next : IsToldApart f (area_of one) blocks → (disks : List Disk) → HoldOldOrNext f.layout one next blocks disks → (other : Image) → NonePassesBut f next disks other
      held_or_next told disks hold other dev x parts is held = old_or_next (area_of other) x parts held.made each told
        where
          each : (p : ℕ) → p < length parts → IsOld x parts p ⊎ IsOwn parts p
          each p lower =
              let count = held.made.record_is.parts.count in
              let part = held.made.record_is.parts.parts p (omega (arith, lower, count)) in
              let there = held.held p lower in
              ⊎_elim
              (λ old. inl (there.0, there.1, old))
              (λ own. inr (own.part, own.within, own.bytes_are))
              (hold there.0 ((x.number + p) % f.layout.journal) (get_or parts p []) there.1 (omega (arith, some)) (ap is_some part.opens) there.2)
