-- An entry that leads those of its sequence counts, the greatest one that does is the newest, and those that lead from its oldest
-- sequence on are the needed ones.
use Rattle.std.proofs.Common.{◌≡◌, ℕ, zero, suc, ◌+◌, ◌-◌, ◌%◌, ◌<◌, ◌≤◌, inl, inr, ⊎_elim, true, false, List, [], ◌∷◌, ◌++◌, length, Option, Some, None, Result, Ok, Err, refl, ap, ◌∙◌, sym, subst, arith}
use Rattle.std.proofs.lemmas.Bool.{cases_lt}
use Rattle.std.proofs.lemmas.List.Elements.{All-head, All-nil, All-pop, All-push, All-tail}
use Rattle.std.proofs.lemmas.Nat.{mod_below}
use Rattle.std.proofs.lemmas.Option.{option_and_then_some, same_Some}
use Rattle.std.specs.Option.{IsSome}
use Rattle.std.specs.Prelude.{All, ⊤, option_and_then, option_map}
use Rattle.geometry.specs.Sessions.{greater}
use Rattle.key_codec.specs.Combined.{ok_is}
use Rattle.vol_types.specs.declared.layout.Layout.{Layout}
use Rattle.journal_ring.specs.declared.found.FoundEntry.{FoundEntry}
use Rattle.journal_ring.specs.Parts.{Area}
use Rattle.journal_ring.specs.Entries.{IsWhole}
use Rattle.journal_ring.specs.Counting.{Counts, counting, entries_from, entry_at, greatest_below, greatest_on, needed_by, newest, with_one}
use Rattle.journal_ring.specs.Leading.{AreFrom, IsBehind, IsGreatest, Leads}
use Rattle.journal_ring.proofs.Best.{at_its_place, counting_counts, found_there, some_counts}

-- at least this number, if there is one
abbrev AtLeast : Option ℕ → ℕ → Type 0
AtLeast None n = ⊥
AtLeast (Some m) n = n ≤ m

-- at most this number, if there is one
abbrev AtMost : Option ℕ → ℕ → Type 0
AtMost None n = ⊤
AtMost (Some m) n = m ≤ n

greater_first : (one other : Option ℕ) (n : ℕ) → AtLeast one n → AtLeast (greater one other) n
greater_first None other n is = absurd is
greater_first (Some a) None n is = is
greater_first (Some a) (Some b) n is = omega (arith, is)

greater_second : (one other : Option ℕ) (n : ℕ) → AtLeast other n → AtLeast (greater one other) n
greater_second None other n is = is
greater_second (Some a) None n is = absurd is
greater_second (Some a) (Some b) n is = omega (arith, is)

greater_most : (one other : Option ℕ) (n : ℕ) → AtMost one n → AtMost other n → AtMost (greater one other) n
greater_most None other n first second = second
greater_most (Some a) None n first second = first
greater_most (Some a) (Some b) n first second = omega (arith, first, second)

both_ways : (one : Option ℕ) (n : ℕ) → AtLeast one n → AtMost one n → one ≡ Some n
both_ways None n least most = absurd least
both_ways (Some m) n least most = ap (λ k. Some k) (let e : m ≡ n = omega (arith, least, most) in e)

-- entries that came before, and the next one
record IsNext (r : Result (List FoundEntry) ℕ) (next_is : Option FoundEntry) (entries : List FoundEntry) : Type 0 where
  pub before : List FoundEntry
  pub next : FoundEntry
  pub is : r ≡ Ok before
  pub there : next_is ≡ Some next
  pub are : entries ≡ before ++ next ∷ []

-- Entries with one more are those before it and it.
with_one_ok : (r : Result (List FoundEntry) ℕ) (sequence : ℕ) (next : Option FoundEntry) (entries : List FoundEntry) → with_one r sequence next ≡ Ok entries → IsNext r next entries
with_one_ok (Err missing) sequence next entries is = absurd cc
with_one_ok (Ok before) sequence None entries is = absurd cc
with_one_ok (Ok before) sequence (Some next) entries is = record { before = before; next = next; is = refl; there = refl; are = sym (ok_is (before ++ next ∷ []) entries is) }

-- Entries from a sequence on are that of the sequence, and those from the next one on.
first_too : (entry_of : ℕ → Option FoundEntry) (sequence count : ℕ) (first : FoundEntry) (entries : List FoundEntry) → entry_of sequence ≡ Some first → entries_from entry_of (suc sequence) count ≡ Ok entries → entries_from entry_of sequence (suc count) ≡ Ok (first ∷ entries)
first_too entry_of sequence zero first entries there is =
    let here : sequence + 0 ≡ sequence = omega arith in
    ap (λ s. with_one (Ok []) s (entry_of s)) here ∙ ap (with_one (Ok []) sequence) there ∙ ap (λ es. Ok (first ∷ es)) (ok_is [] entries is)
first_too entry_of sequence (suc count) first entries there is =
    let parts = with_one_ok (entries_from entry_of (suc sequence) count) (suc sequence + count) (entry_of (suc sequence + count)) entries is in
    let same : sequence + suc count ≡ suc sequence + count = omega arith in
    ap (λ s. with_one (entries_from entry_of sequence (suc count)) s (entry_of s)) same
    ∙ ap (λ r. with_one r (suc sequence + count) (entry_of (suc sequence + count))) (first_too entry_of sequence count first parts.before there parts.is)
    ∙ ap (with_one (Ok (first ∷ parts.before)) (suc sequence + count)) parts.there
    ∙ ap (λ es. Ok (first ∷ es)) (sym parts.are)

module _ (layout : Layout) (area : Area) where
  -- The greatest sequence on a device is at least what was before, and that of each entry at a place.
  on_keeps : (dev : ℕ) (before : Option ℕ) (place n : ℕ) → AtLeast before n → AtLeast (greatest_on layout area dev before place) n
  on_keeps dev before zero n is = is
  on_keeps dev before (suc place) n is = greater_first (greatest_on layout area dev before place) (option_map (λ (f : FoundEntry). f.entry.sequence) (entry_at layout area dev place)) n (on_keeps dev before place n is)

  on_has : (dev : ℕ) (before : Option ℕ) (place at : ℕ) (found : FoundEntry) → at < place → entry_at layout area dev at ≡ Some found → AtLeast (greatest_on layout area dev before place) found.entry.sequence
  on_has dev before zero at found lower is = absurd (omega (arith, lower))
  on_has dev before (suc place) at found lower is = ⊎_elim
      (λ (earlier : at < place). greater_first (greatest_on layout area dev before place) (option_map (λ (f : FoundEntry). f.entry.sequence) (entry_at layout area dev place)) found.entry.sequence (on_has dev before place at found earlier is))
      (λ (no_less : place ≤ at).
      let here : at ≡ place = omega (arith, lower, no_less) in
      let there : entry_at layout area dev place ≡ Some found = subst (λ p. entry_at layout area dev p ≡ Some found) here is in
      greater_second (greatest_on layout area dev before place) (option_map (λ (f : FoundEntry). f.entry.sequence) (entry_at layout area dev place)) found.entry.sequence
      (subst (λ (o : Option FoundEntry). AtLeast (option_map (λ (f : FoundEntry). f.entry.sequence) o) found.entry.sequence) (sym there) (omega arith)))
      (cases_lt at place)

  below_has : (count dev at : ℕ) (found : FoundEntry) → dev < count → at < layout.journal → entry_at layout area dev at ≡ Some found → AtLeast (greatest_below layout area count) found.entry.sequence
  below_has zero dev at found lower within is = absurd (omega (arith, lower))
  below_has (suc count) dev at found lower within is = ⊎_elim
      (λ (earlier : dev < count). on_keeps count (greatest_below layout area count) layout.journal found.entry.sequence (below_has count dev at found earlier within is))
      (λ (no_less : count ≤ dev).
      let here : dev ≡ count = omega (arith, lower, no_less) in
      on_has count (greatest_below layout area count) layout.journal at found within (subst (λ d. entry_at layout area d at ≡ Some found) here is))
      (cases_lt dev count)

  module _ (sequence : ℕ) (all : IsGreatest layout area sequence) where
    at_most : (dev place : ℕ) → dev < layout.metadata_replicas → (found : Option FoundEntry) → entry_at layout area dev place ≡ found → AtMost (option_map (λ (f : FoundEntry). f.entry.sequence) found) sequence
    at_most dev place mirror None is = tt
    at_most dev place mirror (Some found) is = all dev found (found_there layout area sequence dev place found mirror is).0

    -- It is at most the sequence that no whole entry passes.
    on_most : (dev : ℕ) → dev < layout.metadata_replicas → (before : Option ℕ) (place : ℕ) → AtMost before sequence → AtMost (greatest_on layout area dev before place) sequence
    on_most dev mirror before zero is = is
    on_most dev mirror before (suc place) is =
        greater_most (greatest_on layout area dev before place) (option_map (λ (f : FoundEntry). f.entry.sequence) (entry_at layout area dev place)) sequence (on_most dev mirror before place is) (at_most dev place mirror (entry_at layout area dev place) refl)

    below_most : (count : ℕ) → count ≤ layout.metadata_replicas → AtMost (greatest_below layout area count) sequence
    below_most zero within = tt
    below_most (suc count) within = on_most count (omega (arith, within)) (greatest_below layout area count) layout.journal (below_most count (omega (arith, within)))

  module _ (some : 0 < layout.journal) where
    -- An entry that leads counts.
    pub leading_counts : (one : FoundEntry) → Leads layout area one → counting layout area one.entry.sequence ≡ Some one
    leading_counts one leads = by (counting layout area one.entry.sequence) refl (some_counts layout area one.entry.sequence some leads.whole.0 one leads.whole.1 refl)
      where
        same_one : (x : FoundEntry) (dev : ℕ) → Counts layout area dev x → x.entry.sequence ≡ one.entry.sequence → IsBehind x one → x ≡ one
        same_one x dev counts named (inl same) = same
        same_one x dev counts named (inr (inl session)) = absurd (counts.first leads.whole.0 one leads.whole.1 (sym named) (inl session))
        same_one x dev counts named (inr (inr number)) = absurd (counts.first leads.whole.0 one leads.whole.1 (sym named) (inr (inl (sym number.0, number.1))))

        by : (o : Option FoundEntry) → counting layout area one.entry.sequence ≡ o → IsSome o → counting layout area one.entry.sequence ≡ Some one
        by None is there = absurd (let e : false ≡ true = there in cc)
        by (Some x) is there =
            let counts = counting_counts layout area one.entry.sequence some x is in
            is ∙ ap (λ (y : FoundEntry). Some y) (same_one x counts.1 counts.2 counts.0 (leads.others counts.1 x counts.2.whole counts.0))

    -- The greatest one that leads is the newest.
    pub leading_is_newest : (last : FoundEntry) → Leads layout area last → IsGreatest layout area last.entry.sequence → newest layout area ≡ Some last
    unfolding newest
    leading_is_newest last leads greatest =
        let place = last.number % layout.journal in
        let least = below_has layout.metadata_replicas leads.whole.0 place last leads.whole.1.mirror (mod_below last.number layout.journal some) (at_its_place layout area last.entry.sequence leads.whole.0 last leads.whole.1) in
        let most = below_most last.entry.sequence greatest layout.metadata_replicas (omega arith) in
        ap (option_and_then (counting layout area)) (both_ways (greatest_below layout area layout.metadata_replicas) last.entry.sequence least most)
        ∙ leading_counts last leads

    -- The one that counts for the greatest sequence for which one does is the newest.
    pub greatest_counting_is_newest : (sequence : ℕ) (last : FoundEntry) → counting layout area sequence ≡ Some last → ((other : ℕ) → IsSome (counting layout area other) → other ≤ sequence) → newest layout area ≡ Some last
    unfolding newest
    greatest_counting_is_newest sequence last is greatest =
        let counts = counting_counts layout area sequence some last is in
        let whole = counts.2.whole in
        let place = last.number % layout.journal in
        let all : IsGreatest layout area sequence = λ dev other there. greatest other.entry.sequence (some_counts layout area other.entry.sequence some dev other there refl) in
        let at : AtLeast (greatest_below layout area layout.metadata_replicas) last.entry.sequence = below_has layout.metadata_replicas counts.1 place last whole.mirror (mod_below last.number layout.journal some) (at_its_place layout area last.entry.sequence counts.1 last whole) in
        let least : AtLeast (greatest_below layout area layout.metadata_replicas) sequence = subst (λ n. AtLeast (greatest_below layout area layout.metadata_replicas) n) counts.0 at in
        let most = below_most sequence all layout.metadata_replicas (omega arith) in
        ap (option_and_then (counting layout area)) (both_ways (greatest_below layout area layout.metadata_replicas) sequence least most) ∙ is

    -- So do entries that lead, each at its sequence.
    counted_from : (sequence : ℕ) (entries : List FoundEntry) → AreFrom sequence entries → All (Leads layout area) entries → entries_from (counting layout area) sequence (length entries) ≡ Ok entries
    counted_from sequence [] are lead = refl
    counted_from sequence (one ∷ entries) are lead =
        let counts = leading_counts one (All-head (Leads layout area) one entries lead) in
        first_too (counting layout area) sequence (length entries) one entries (subst (λ s. counting layout area s ≡ Some one) are.0 counts) (counted_from (suc sequence) entries are.1 (All-tail (Leads layout area) one entries lead))

    -- The entries that lead from the newest one's oldest sequence on, and it, are the needed ones.
    pub leading_are_needed : (last : FoundEntry) (entries : List FoundEntry) → AreFrom last.entry.oldest entries → length entries ≡ last.entry.sequence - last.entry.oldest → All (Leads layout area) entries → needed_by layout area last ≡ Ok (entries ++ last ∷ [])
    leading_are_needed last entries are count lead =
        ap (λ r. with_one r last.entry.sequence (Some last)) (subst (λ n. entries_from (counting layout area) last.entry.oldest n ≡ Ok entries) count (counted_from last.entry.oldest entries are lead))

-- Needed entries of one area that lead in another are needed there too.
module _ (layout : Layout) (one other : Area) (some : 0 < layout.journal) where
  again_from : (sequence count : ℕ) (entries : List FoundEntry) → entries_from (counting layout one) sequence count ≡ Ok entries → All (Leads layout other) entries → entries_from (counting layout other) sequence count ≡ Ok entries
  again_from sequence zero entries is lead = is
  again_from sequence (suc count) entries is lead =
      let parts = with_one_ok (entries_from (counting layout one) sequence count) (sequence + count) (counting layout one (sequence + count)) entries is in
      let leads = All-pop (Leads layout other) entries parts.before (Some parts.next) parts.are lead in
      let named : parts.next.entry.sequence ≡ sequence + count = (counting_counts layout one (sequence + count) some parts.next parts.there).0 in
      let counts : counting layout other (sequence + count) ≡ Some parts.next = subst (λ s. counting layout other s ≡ Some parts.next) named (leading_counts layout other some parts.next leads.1) in
      ap (λ r. with_one r (sequence + count) (counting layout other (sequence + count))) (again_from sequence count parts.before parts.is leads.0)
      ∙ ap (with_one (Ok parts.before) (sequence + count)) counts
      ∙ ap (λ es. Ok es) (sym parts.are)

  pub leading_again : (last : FoundEntry) (needed : List FoundEntry) → newest layout one ≡ Some last → needed_by layout one last ≡ Ok needed → All (Leads layout other) needed → IsGreatest layout other last.entry.sequence → (newest layout other ≡ Some last) × (needed_by layout other last ≡ Ok needed)
  leading_again last needed new is lead greatest =
      let parts = with_one_ok (entries_from (counting layout one) last.entry.oldest (last.entry.sequence - last.entry.oldest)) last.entry.sequence (Some last) needed is in
      let leads = All-pop (Leads layout other) needed parts.before (Some parts.next) parts.are lead in
      let last_leads : Leads layout other last = subst (Leads layout other) (sym (same_Some last parts.next parts.there)) leads.1 in (
        leading_is_newest layout other some last last_leads greatest,
        ap (λ r. with_one r last.entry.sequence (Some last)) (again_from last.entry.oldest (last.entry.sequence - last.entry.oldest) parts.before parts.is leads.0)
            ∙ ap (λ (x : FoundEntry). Ok (parts.before ++ x ∷ [])) (same_Some last parts.next parts.there)
            ∙ ap (λ es. Ok es) (sym parts.are),
      )

-- The needed entries are whole.
module _ (layout : Layout) (area : Area) (some : 0 < layout.journal) where
  whole_there : (sequence : ℕ) (found : FoundEntry) → counting layout area sequence ≡ Some found → IsWhole layout area found
  whole_there sequence found is = let counts = counting_counts layout area sequence some found is in (counts.1, counts.2.whole)

  whole_from : (sequence count : ℕ) (entries : List FoundEntry) → entries_from (counting layout area) sequence count ≡ Ok entries → All (IsWhole layout area) entries
  whole_from sequence zero entries is = subst (All (IsWhole layout area)) (ok_is [] entries is) (All-nil (IsWhole layout area))
  whole_from sequence (suc count) entries is =
      let parts = with_one_ok (entries_from (counting layout area) sequence count) (sequence + count) (counting layout area (sequence + count)) entries is in
      subst (All (IsWhole layout area)) (sym parts.are) (All-push (IsWhole layout area) parts.before parts.next (whole_from sequence count parts.before parts.is) (whole_there (sequence + count) parts.next parts.there))

  newest_is_whole : (last : FoundEntry) → newest layout area ≡ Some last → IsWhole layout area last
  unfolding newest
  newest_is_whole last is = option_and_then_some (counting layout area) (greatest_below layout area layout.metadata_replicas) last is (λ (sequence : ℕ) at counts. whole_there sequence last counts)

  pub needed_are_whole : (last : FoundEntry) (needed : List FoundEntry) → newest layout area ≡ Some last → needed_by layout area last ≡ Ok needed → All (IsWhole layout area) needed
  needed_are_whole last needed new is =
      let parts = with_one_ok (entries_from (counting layout area) last.entry.oldest (last.entry.sequence - last.entry.oldest)) last.entry.sequence (Some last) needed is in
      let last_whole : IsWhole layout area parts.next = subst (IsWhole layout area) (same_Some last parts.next parts.there) (newest_is_whole last new) in
      subst (All (IsWhole layout area)) (sym parts.are) (All-push (IsWhole layout area) parts.before parts.next (whole_from last.entry.oldest (last.entry.sequence - last.entry.oldest) parts.before parts.is) last_whole)
