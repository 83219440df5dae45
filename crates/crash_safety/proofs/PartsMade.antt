-- An entry whose parts stand on some metadata devices, each on any of them, is made of them.
use Rattle.std.proofs.Common.{◌≡◌, ⊎_elim, ℕ, zero, suc, ◌+◌, ◌%◌, ◌^◌, ◌<◌, ◌≤◌, Bool, true, false, cond, List, [], length, get_or, Option, Some, None, refl, sym, ap, subst, ◌∙◌, arith}
use Rattle.std.proofs.lemmas.Bool.{cases_lt, eq-eqb, eqb-true}
use Rattle.std.specs.Prelude.{◌==◌}
use Rattle.key_codec.specs.Exact.{IsExactBut}
use Rattle.record_codec.specs.declared.entries.EntryRecord.{EntryRecord}
use Rattle.record_codec.specs.declared.fault.RecordFault.TheVariants.{Short}
use Rattle.record_codec.specs.Entries.{IsEntry, entry_format, entry_length_of}
use Rattle.journal_ring.specs.Entries.{IsMadeOf, IsWholeOn}
use Rattle.journal_ring.specs.EntryBlocks.{AreEntryBlocks, ArePartBlocks, part_count, parts_of, ring_block}
use Rattle.journal_ring.specs.MadeOf.{made_of}
use Rattle.journal_ring.specs.Parts.{Area, numbered}
use Rattle.journal_ring.specs.declared.found.FoundEntry.{FoundEntry}
use Rattle.journal_ring.proofs.Written.{SealedOpen, stands_whole}
use Rattle.vol_types.specs.declared.layout.Layout.{Layout}
use Rattle.mirror_laws.proofs.DegradedJournal.{EntryLaws}

-- What is said of blocks and entries: sealed blocks open, the format of entries is exact, how long an entry is, and that its parts have
-- places of their own.
pub record PartLaws : Type 0 where
  pub entries : EntryLaws
  pub opens : SealedOpen
  pub exact : IsExactBut Short IsEntry entry_format
  pub so_long : (entry : EntryRecord) → length (entry_format.encode entry) ≡ entry_length_of entry.roots entry.updates
  pub own_places : (journal number p q : ℕ) → 256 ≤ journal → p < 64 → q < 64 → ring_block journal (number + p) ≡ ring_block journal (number + q) → p ≡ q

-- ---- an area in which the parts stand alone

-- what stands at a place where the first so many blocks lie from a number on
abbrev laid : ℕ → ℕ → List (List ℕ) → ℕ → ℕ → Option (List ℕ)
laid journal number blocks zero place = None
laid journal number blocks (suc p) place = cond ((number + p) % journal == place) (Some (get_or blocks p [])) (laid journal number blocks p place)

module _ (laws : PartLaws) (journal number : ℕ) (blocks : List (List ℕ)) (long : 256 ≤ journal) where
  laid_at : (count : ℕ) → count ≤ 64 → (p : ℕ) → p < count → laid journal number blocks count ((number + p) % journal) ≡ Some (get_or blocks p [])
  laid_at zero few p low = absurd (omega (arith, low))
  laid_at (suc count) few p low = by ((number + count) % journal == (number + p) % journal) refl (λ less. laid_at count (omega (arith, few)) p less)
    where
      is_last : (number + count) % journal ≡ (number + p) % journal → count ≡ p
      is_last same = laws.own_places journal number count p long (omega (arith, few)) (omega (arith, low, few)) (ap (λ n. 16 + n) same)

      by : (test : Bool) → ((number + count) % journal == (number + p) % journal) ≡ test → (p < count → laid journal number blocks count ((number + p) % journal) ≡ Some (get_or blocks p [])) → laid journal number blocks (suc count) ((number + p) % journal) ≡ Some (get_or blocks p [])
      by true is before =
          ap (λ b. cond b (Some (get_or blocks count [])) (laid journal number blocks count ((number + p) % journal))) is
          ∙ ap (λ n. Some (get_or blocks n [])) (is_last (eqb-true ((number + count) % journal) ((number + p) % journal) is))
      by false is before = ⊎_elim
          (λ (less : p < count). ap (λ b. cond b (Some (get_or blocks count [])) (laid journal number blocks count ((number + p) % journal))) is ∙ before less)
          (λ (last : count ≤ p).
          let same : count ≡ p = omega (arith, low, last) in
          absurd (let no : true ≡ false = sym (eq-eqb ((number + count) % journal) ((number + p) % journal) (ap (λ n. (number + n) % journal) same)) ∙ is in cc))
          (cases_lt p count)

-- ---- the entry

module _ (laws : PartLaws) (layout : Layout) (next : FoundEntry) (blocks : List (List ℕ)) (sealed : AreEntryBlocks layout.id next.number next.entry blocks) (is : IsEntry next.entry) (few : parts_of next.entry ≤ 64)
    (end : next.end ≡ next.number + parts_of next.entry) (fits : next.end < 2 ^ 64) (long : 256 ≤ layout.journal) (mirrored : 0 < layout.metadata_replicas) where
  abbrev area : Area
  area dev place = laid layout.journal next.number blocks (length blocks) place

  count_is : part_count (length (entry_format.encode next.entry)) ≡ parts_of next.entry
  count_is = ap part_count (laws.so_long next.entry)

  whole : IsWholeOn layout area 0 next
  whole = record {
    mirror = mirrored;
    whole =
        stands_whole laws.opens layout area next.number next.entry (entry_format.encode next.entry) blocks
        (subst (λ n. ArePartBlocks layout.id next.number next.entry (entry_format.encode next.entry) blocks n) (sym count_is) sealed.parts)
        (λ dev p within low. laid_at laws layout.journal next.number blocks long (length blocks) (let count = sealed.count in omega (arith, few, count)) p (let count = sealed.count in omega (arith, low, count, count_is)))
        0 mirrored laws.exact is refl (omega (arith, count_is)) (omega (arith, fits, end, count_is))
        ∙ (λ i. Some (record { number = next.number; end = (let e : next.number + part_count (length (entry_format.encode next.entry)) ≡ next.end = omega (arith, end, count_is) in e) i; entry = next.entry }));
  }

  -- Where each part stands on some metadata device, the entry is made of them.
  pub parts_made : (there : Area) → ((p : ℕ) → p < length blocks → (dev : ℕ) × (dev < layout.metadata_replicas) × (numbered layout there dev (next.number + p) ≡ Some (get_or blocks p []))) → IsMadeOf layout there next blocks
  parts_made there stand =
      let m = made_of layout area 0 next whole in
      let same : m.0 ≡ blocks = laws.entries.one layout.id next.number next.entry m.0 blocks (laws.entries.sealed layout area next m.0 m.1) sealed in
      let made : IsMadeOf layout area next blocks = subst (λ (bs : List (List ℕ)). IsMadeOf layout area next bs) same m.1 in
      record {
        first = made.first;
        payload = made.payload;
        begins = made.begins;
        is_head = made.is_head;
        session = made.session;
        sequence = made.sequence;
        end = made.end;
        stand = stand;
        record_is = made.record_is;
        read = made.read;
      }
