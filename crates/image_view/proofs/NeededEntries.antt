-- The needed entries of what was found have one sequence after the other, from the oldest needed one up to the newest one's.
use Rattle.std.proofs.Common.{◌≡◌, ℕ, zero, suc, ◌+◌, ◌-◌, ◌<◌, ◌≤◌, ⊎_elim, List, [], ◌∷◌, ◌++◌, length, map, get_or, Option, Some, None, Result, Ok, Err, refl, sym, ap, subst, ◌∙◌, arith}
use Rattle.std.proofs.lemmas.Bool.{cases_lt}
use Rattle.std.proofs.lemmas.List.{get_or_append_left, get_or_push, length_push}
use Rattle.std.proofs.lemmas.List.Elements.{All-append, All-from_get_or, All-head, All-nil, All-tail}
use Rattle.std.proofs.lemmas.Option.{same_Some}
use Rattle.std.specs.List.{flat_map}
use Rattle.std.specs.Prelude.{All}
use Rattle.dev_model.specs.Disk.{Image}
use Rattle.geometry.specs.LayoutFacts.{HasPlaces, has_places}
use Rattle.geometry.specs.SuperLaws.{layout_fits}
use Rattle.journal_ring.specs.Counting.{Counts, counting, entries_from, with_one}
use Rattle.journal_ring.specs.Entries.{IsMadeOf, IsWhole}
use Rattle.journal_ring.specs.Leading.{AreFrom}
use Rattle.journal_ring.specs.MadeOf.{made_of}
use Rattle.journal_ring.specs.Parts.{Area, area_of}
use Rattle.journal_ring.specs.declared.found.FoundEntry.{FoundEntry}
use Rattle.key_codec.specs.Combined.{bind_ok, ok_is}
use Rattle.key_codec.specs.Exact.{IsExactBut}
use Rattle.record_codec.specs.declared.entries.EntryRecord.{EntryRecord}
use Rattle.record_codec.specs.declared.fault.RecordFault.TheVariants.{Short}
use Rattle.record_codec.specs.Entries.{IsEntry, entry_format, entry_in}
use Rattle.record_codec.specs.Sets.{all_read}
use Rattle.sealed_block.specs.declared.heads.Head.{Head}
use Rattle.sealed_block.specs.Blocks.{AreBytes, Opens}
use Rattle.sealed_block.specs.Opening.{opened, payload_in}
use Rattle.vol_types.specs.declared.layout.Layout.{Layout}
use Rattle.image_view.proofs.CrashNewest.{AreWhole}
use Rattle.image_view.specs.BaseLaws.{found-layout, found-newest}
use Rattle.image_view.specs.Found.{Found, found}

-- What is said of the journal and of blocks: the entry that counts for a sequence has it, needed entries are whole, what opens is sealed,
-- and the format of entries is exact.
pub record ReadLaws : Type 0 where
  pub counts : (layout : Layout) (area : Area) (sequence : ℕ) (found : FoundEntry) → 0 < layout.journal → counting layout area sequence ≡ Some found → (found.entry.sequence ≡ sequence) × (dev : ℕ) × Counts layout area dev found
  pub are_whole : AreWhole
  pub sealed : (block : List ℕ) (h : Head) → opened block ≡ Some h → Opens block h (payload_in block)
  pub exact : IsExactBut Short IsEntry entry_format

-- ---- an entry that was read is in range

-- What is read to its end was read with nothing behind it.
all_read_is : (x : EntryRecord) (rest : List ℕ) (entry : EntryRecord) → all_read (x, rest) ≡ Ok entry → x ≡ entry
all_read_is x [] entry is = ok_is x entry is
all_read_is x (b ∷ rest) entry is = absurd cc

is_entry : IsExactBut Short IsEntry entry_format → (payload : List ℕ) (entry : EntryRecord) → AreBytes payload → entry_in payload ≡ Ok entry → IsEntry entry
unfolding entry_in
is_entry exact payload entry bytes is =
    let read = bind_ok (entry_format.read payload) all_read entry is in
    subst IsEntry (all_read_is read.0.0 read.0.1 entry read.2) (exact.found payload read.0.0 read.0.1 bytes read.1).0

all_bytes : (blocks : List (List ℕ)) → All (λ (b : List ℕ). AreBytes (payload_in b)) blocks → AreBytes (flat_map payload_in blocks)
all_bytes [] each = All-nil (λ b. b < 256)
all_bytes (b ∷ blocks) each =
    All-append (λ x. x < 256) (payload_in b) (flat_map payload_in blocks) (All-head (λ (c : List ℕ). AreBytes (payload_in c)) b blocks each) (all_bytes blocks (All-tail (λ (c : List ℕ). AreBytes (payload_in c)) b blocks each))

made_in_range : ReadLaws → (layout : Layout) (area : Area) (entry : FoundEntry) (blocks : List (List ℕ)) → IsMadeOf layout area entry blocks → IsEntry entry.entry
made_in_range laws layout area entry blocks made =
    let each : All (λ (b : List ℕ). AreBytes (payload_in b)) blocks = All-from_get_or (λ (b : List ℕ). AreBytes (payload_in b)) blocks [] (λ p lower.
    let part = made.record_is.parts.parts p (let count = made.record_is.parts.count in omega (arith, lower, count)) in
    (laws.sealed (get_or blocks p []) part.head part.opens).bytes) in
    is_entry laws.exact made.payload entry.entry (subst AreBytes (sym made.record_is.joined) (all_bytes blocks each)) made.read

-- ---- the sequences

-- Entries of one sequence after the other, from this one on.
abbrev pub HaveSequences : ℕ → List FoundEntry → Type 0
HaveSequences start entries = (k : ℕ) (d : FoundEntry) → k < length entries → (get_or entries k d).entry.sequence ≡ start + k

sequences_push : (start : ℕ) (entries : List FoundEntry) (one : FoundEntry) → HaveSequences start entries → one.entry.sequence ≡ start + length entries → HaveSequences start (entries ++ one ∷ [])
sequences_push start entries one are is k d lower = ⊎_elim
    (λ (earlier : k < length entries). ap (λ (x : FoundEntry). x.entry.sequence) (get_or_append_left entries (one ∷ []) d k earlier) ∙ are k d earlier)
    (λ (here : length entries ≤ k).
    let same : length entries ≡ k = omega (arith, here, lower, length_push entries one) in
    ap (λ (x : FoundEntry). x.entry.sequence) (get_or_push entries one d k same) ∙ is ∙ ap (λ n. start + n) same)
    (cases_lt k (length entries))

pub are_from : (sequence : ℕ) (entries : List FoundEntry) → HaveSequences sequence entries → AreFrom sequence entries
are_from sequence [] are = tt
are_from sequence (x ∷ entries) are = (
  are 0 x (omega arith) ∙ (let e : sequence + 0 ≡ sequence = omega arith in e),
  are_from (suc sequence) entries (λ k d lower. are (suc k) d (omega (arith, lower)) ∙ (let e : sequence + suc k ≡ suc sequence + k = omega arith in e)),
)

-- entries that came before, and one more
record IsOneMore (r : Result (List FoundEntry) ℕ) (next : Option FoundEntry) (entries : List FoundEntry) : Type 0 where
  pub before : List FoundEntry
  pub one : FoundEntry
  pub is : r ≡ Ok before
  pub there : next ≡ Some one
  pub are : entries ≡ before ++ one ∷ []

one_more : (r : Result (List FoundEntry) ℕ) (sequence : ℕ) (next : Option FoundEntry) (entries : List FoundEntry) → with_one r sequence next ≡ Ok entries → IsOneMore r next entries
one_more (Err missing) sequence next entries is = absurd cc
one_more (Ok before) sequence None entries is = absurd cc
one_more (Ok before) sequence (Some next) entries is = record { before = before; one = next; is = refl; there = refl; are = sym (ok_is (before ++ next ∷ []) entries is) }

counted : ReadLaws → (layout : Layout) (area : Area) → 0 < layout.journal → (sequence count : ℕ) (entries : List FoundEntry) → entries_from (counting layout area) sequence count ≡ Ok entries → HaveSequences sequence entries × (length entries ≡ count)
counted laws layout area some sequence zero entries is =
    let none : length entries ≡ 0 = ap (λ (xs : List FoundEntry). length xs) (sym (ok_is [] entries is)) in (λ k d lower. absurd (omega (arith, lower, none)), none)
counted laws layout area some sequence (suc count) entries is =
    let more = one_more (entries_from (counting layout area) sequence count) (sequence + count) (counting layout area (sequence + count)) entries is in
    let rest = counted laws layout area some sequence count more.before more.is in
    let named : more.one.entry.sequence ≡ sequence + count = (laws.counts layout area (sequence + count) more.one some more.there).0 in
    let long : length entries ≡ length more.before + 1 = ap (λ (xs : List FoundEntry). length xs) more.are ∙ length_push more.before more.one in
    let before : length more.before ≡ count = rest.1 in (
      subst (HaveSequences sequence) (sym more.are) (sequences_push sequence more.before more.one rest.0 (named ∙ ap (λ n. sequence + n) (sym before))),
      omega (arith, long, before),
    )

-- What was found: the newest entry is the last of the needed ones, their sequences follow each other, and there are as many.
pub record AreNeeded (f : Found) : Type 0 where
  pub before : List FoundEntry
  pub are : f.needed ≡ before ++ f.last ∷ []
  pub sequences : HaveSequences f.last.entry.oldest f.needed
  pub count : length f.needed ≡ f.last.entry.sequence - f.last.entry.oldest + 1
  pub oldest : f.last.entry.oldest ≤ f.last.entry.sequence

module _ (laws : ReadLaws) (one : Image) (f : Found) (is : found one ≡ Ok f) where
  pub places_of : HasPlaces (map (λ blocks. length blocks) one) f.layout
  places_of = has_places (map (λ blocks. length blocks) one) f.layout (layout_fits one f.layout (found-layout one f is))

  pub some_places : 0 < f.layout.journal
  some_places = let least = places_of.least in omega (arith, least)

  pub needed_whole : All (IsWhole f.layout (area_of one)) f.needed
  needed_whole = let new = found-newest one f is in laws.are_whole f.layout (area_of one) f.last f.needed some_places new.last new.needed

  pub are_needed : AreNeeded f
  are_needed =
      let new = found-newest one f is in
      let more = one_more (entries_from (counting f.layout (area_of one)) f.last.entry.oldest (f.last.entry.sequence - f.last.entry.oldest)) f.last.entry.sequence (Some f.last) f.needed new.needed in
      let last_is : f.last ≡ more.one = same_Some f.last more.one more.there in
      let are : f.needed ≡ more.before ++ f.last ∷ [] = more.are ∙ ap (λ (x : FoundEntry). more.before ++ x ∷ []) (sym last_is) in
      let rest = counted laws f.layout (area_of one) some_places f.last.entry.oldest (f.last.entry.sequence - f.last.entry.oldest) more.before more.is in
      let long : length f.needed ≡ length more.before + 1 = ap (λ (xs : List FoundEntry). length xs) are ∙ length_push more.before f.last in
      let before : length more.before ≡ f.last.entry.sequence - f.last.entry.oldest = rest.1 in
      let at_last : IsWhole f.layout (area_of one) f.last = subst (IsWhole f.layout (area_of one)) (ap (λ (xs : List FoundEntry). get_or xs (length more.before) f.last) are ∙ get_or_push more.before f.last f.last (length more.before) refl)
      (needed_whole (length more.before) f.last (omega (arith, long))) in
      let made = made_of f.layout (area_of one) at_last.0 f.last at_last.1 in
      let oldest : f.last.entry.oldest ≤ f.last.entry.sequence = (made_in_range laws f.layout (area_of one) f.last made.0 made.1).in_range.oldest in
      record {
        before = more.before;
        are = are;
        sequences = subst (HaveSequences f.last.entry.oldest) (sym are) (sequences_push f.last.entry.oldest more.before f.last rest.0 (omega (arith, before, oldest)));
        count = omega (arith, long, before);
        oldest = oldest;
      }
