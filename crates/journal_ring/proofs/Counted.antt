-- What the reader takes out of its map of the entries that count: the newest one, and the ones that it needs.
use Rattle.std.proofs.Common.{◌≡◌, ℕ, zero, suc, ◌+◌, ◌-◌, ◌<◌, ◌≤◌, ⊎_elim, Bool, true, false, cond, List, [], ◌∷◌, ◌++◌, length, Option, Some, None, Ok, Err, refl, ap, ◌∙◌, sym, subst, arith}
use Rattle.std.proofs.lemmas.Bool.{cases_lt, eqb-true, false≢true, lt-ltb}
use Rattle.std.proofs.lemmas.Bool.Decides.{nat_tests}
use Rattle.std.specs.BTreeMap.{is_at}
use Rattle.std.specs.Option.{IsSome}
use Rattle.std.specs.Ordering.{is_lt, nat_cmp}
use Rattle.std.specs.declared.cmp.Ordering.TheVariants.{Equal, Greater, Less}
use Rattle.vol_types.specs.Maps.{value_at}
use Rattle.std.specs.Prelude.{option_and_then, ◌==◌}
use Rattle.vol_types.specs.declared.layout.Layout.{Layout}
use Rattle.journal_ring.specs.declared.found.FoundEntry.{FoundEntry}
use Rattle.journal_ring.specs.declared.journal.Journal.TheVariants.{NoEntry}
use Rattle.journal_ring.specs.Parts.{Area}
use Rattle.journal_ring.specs.Counting.{counting, entries_from, greatest_below, journal_by, journal_in, newest, read_as, with_one}
use Rattle.journal_ring.specs.Reading.{journal_up_to}
use Rattle.journal_ring.proofs.Best.{counting_counts}
use Rattle.journal_ring.proofs.Newest.{greatest_counting_is_newest}

-- Whether a key is the one asked for.
same_key : (key q : ℕ) → is_at (nat_cmp key) q ≡ (key == q)
same_key key q = grind (arith, nat_tests)

-- Another key isn't,
pub key_apart : (key q : ℕ) → (key ≡ q → ⊥) → is_at (nat_cmp key) q ≡ false
key_apart key q differs = same_key key q ∙ apart (key == q) refl
  where
    apart : (b : Bool) → (key == q) ≡ b → b ≡ false
    apart true is = absurd (differs (eqb-true key q is))
    apart false is = refl

-- and a key that the order doesn't find below another is no less.
pub no_greater : (key q : ℕ) → is_lt (nat_cmp key q) ≡ false → q ≤ key
no_greater key q not_less = ⊎_elim
    (λ (less : key < q). absurd (false≢true (sym not_less ∙ ap (λ b. is_lt (cond b Less (cond (key == q) Equal Greater))) (lt-ltb key q less))))
    (λ (le : q ≤ key). le)
    (cases_lt key q)

-- Where there are no entries, none is found.
pub empty_has_none : (entries : List (ℕ × FoundEntry)) → (0 < length entries → false ≡ true) → (q : ℕ) → value_at nat_cmp q entries ≡ None
empty_has_none [] empty q = refl
empty_has_none (e ∷ es) empty q = absurd (false≢true (empty (omega arith)))

-- The next needed entry is there,
pub needed_more : (entry_of : ℕ → Option FoundEntry) (sequence count : ℕ) (entries : List FoundEntry) (next : FoundEntry) → entries_from entry_of sequence count ≡ Ok entries → entry_of (sequence + count) ≡ Some next → entries_from entry_of sequence (suc count) ≡ Ok (entries ++ next ∷ [])
needed_more entry_of sequence count entries next before is = ap (λ r. with_one r (sequence + count) (entry_of (sequence + count))) before ∙ ap (with_one (Ok entries) (sequence + count)) is

-- or it is missing, and stays the first that is.
pub needed_missing : (entry_of : ℕ → Option FoundEntry) (sequence count total : ℕ) (entries : List FoundEntry) → count < total → entries_from entry_of sequence count ≡ Ok entries → entry_of (sequence + count) ≡ None → entries_from entry_of sequence total ≡ Err (sequence + count)
needed_missing entry_of sequence count zero entries within before none = absurd (omega (arith, within))
needed_missing entry_of sequence count (suc total) entries within before none = ⊎_elim
    (λ (lower : count < total). ap (λ r. with_one r (sequence + total) (entry_of (sequence + total))) (needed_missing entry_of sequence count total entries lower before none))
    (λ (past : total ≤ count).
    let same : total ≡ count = omega (arith, within, past) in
    subst (λ n. with_one (entries_from entry_of sequence n) (sequence + n) (entry_of (sequence + n)) ≡ Err (sequence + count)) (sym same)
    (ap (λ r. with_one r (sequence + count) (entry_of (sequence + count))) before ∙ ap (with_one (Ok entries) (sequence + count)) none))
    (cases_lt count total)

-- Entries are the same where they are for each sequence among theirs.
same_from : (entry_of other_of : ℕ → Option FoundEntry) (sequence count : ℕ) → ((q : ℕ) → q < sequence + count → entry_of q ≡ other_of q) → entries_from entry_of sequence count ≡ entries_from other_of sequence count
same_from entry_of other_of sequence zero same = refl
same_from entry_of other_of sequence (suc count) same =
    ap (λ r. with_one r (sequence + count) (entry_of (sequence + count))) (same_from entry_of other_of sequence count (λ q lower. same q (omega (arith, lower))))
    ∙ ap (with_one (entries_from other_of sequence count) (sequence + count)) (same (sequence + count) (omega arith))

module _ (layout : Layout) (area : Area) (entry_of : ℕ → Option FoundEntry) (are : (q : ℕ) → entry_of q ≡ counting layout area q) where
  -- Where no entry counts, the journal has none.
  pub none_counts : ((q : ℕ) → entry_of q ≡ None) → NoEntry ≡ journal_in layout area
  unfolding newest
  none_counts none = sym (ap (journal_by layout area) (no_newest (greatest_below layout area layout.metadata_replicas)))
    where
      no_newest : (greatest : Option ℕ) → option_and_then (counting layout area) greatest ≡ None
      no_newest None = refl
      no_newest (Some sequence) = sym (are sequence) ∙ none sequence

  -- The one of the greatest sequence is the newest, and the ones before it are taken from the others.
  pub last_counts : 0 < layout.journal → (sequence : ℕ) (last : FoundEntry) (others : ℕ → Option FoundEntry) → entry_of sequence ≡ Some last → ((q : ℕ) → IsSome (entry_of q) → q ≤ sequence)
      → ((q : ℕ) → others q ≡ cond (is_at (nat_cmp sequence) q) None (entry_of q)) → journal_up_to others last ≡ journal_in layout area
  last_counts some sequence last others is greatest rest =
      let here : counting layout area sequence ≡ Some last = sym (are sequence) ∙ is in
      let named : last.entry.sequence ≡ sequence = (counting_counts layout area sequence some last here).0 in
      let new : newest layout area ≡ Some last = greatest_counting_is_newest layout area some sequence last here (λ q there. greatest q (subst (λ (o : Option FoundEntry). IsSome o) (sym (are q)) there)) in
      ap (λ r. read_as (with_one r last.entry.sequence (Some last))) (up_to last.entry.oldest named)
      ∙ sym (ap (journal_by layout area) new)
    where
      before : (q : ℕ) → q < sequence → others q ≡ counting layout area q
      before q lower = rest q ∙ ap (λ b. cond {A = Option FoundEntry} b None (entry_of q)) (key_apart sequence q (λ same. omega (arith, same, lower))) ∙ are q

      up_to : (oldest : ℕ) → last.entry.sequence ≡ sequence → entries_from others oldest (last.entry.sequence - oldest) ≡ entries_from (counting layout area) oldest (last.entry.sequence - oldest)
      up_to oldest named = ⊎_elim
          (λ (some : oldest < last.entry.sequence). same_from others (counting layout area) oldest (last.entry.sequence - oldest) (λ q lower. before q (omega (arith, lower, named, some))))
          (λ (none : last.entry.sequence ≤ oldest).
          subst (λ n. entries_from others oldest n ≡ entries_from (counting layout area) oldest n) (let e : 0 ≡ last.entry.sequence - oldest = omega (arith, none) in e) refl)
          (cases_lt oldest last.entry.sequence)
