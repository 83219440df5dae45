-- The entry that counts by device and place is the one that counts for its sequence.
use Rattle.std.proofs.Common.{◌≡◌, ℕ, zero, suc, ◌%◌, ◌<◌, ◌≤◌, ◌⊎◌, inl, inr, ⊎_elim, Bool, true, false, cond, ◌&&◌, ◌||◌, Option, Some, None, refl, ap, ◌∙◌, sym, subst, arith}
use Rattle.std.proofs.lemmas.Bool.{and_parts, cases_lt, eq-eqb, eqb-true, false≢true, lt-ltb, ltb-true}
use Rattle.std.proofs.lemmas.Nat.{mod_below}
use Rattle.std.proofs.lemmas.Option.{none-some, same_Some, option_and_then_some}
use Rattle.std.specs.Cmp.Derive.{both_true}
use Rattle.std.specs.Option.{IsSome}
use Rattle.std.specs.Prelude.{option_and_then, ◌==◌, nat_lt}
use Rattle.sealed_block.specs.declared.heads.Head.{Head}
use Rattle.sealed_block.specs.Opening.{opened}
use Rattle.vol_types.specs.declared.layout.Layout.{Layout}
use Rattle.journal_ring.specs.declared.found.FoundEntry.{FoundEntry}
use Rattle.journal_ring.specs.Parts.{Area}
use Rattle.journal_ring.specs.Entries.{IsWholeOn, entry_on}
use Rattle.journal_ring.specs.Counting.{Counts, CountsBefore, counting, counting_below, counting_on, counting_then, entry_at, is_later}
use Rattle.journal_ring.specs.EntryLaws.{begins, entry_head_is, number_found}

-- Counting before is no matter of an entry with itself.
before_itself : (dev : ℕ) (one : FoundEntry) → CountsBefore dev one dev one → ⊥
before_itself dev one (inl session) = omega (arith, session)
before_itself dev one (inr (inl number)) = omega (arith, number.1)
before_itself dev one (inr (inr device)) = omega (arith, device.2)

-- Two of which neither counts before the other are of one session, number and device.
alike : (dev other : ℕ) (one another : FoundEntry) → (CountsBefore dev one other another → ⊥) → (CountsBefore other another dev one → ⊥)
    → (one.entry.session ≡ another.entry.session) × (one.number ≡ another.number) × (dev ≡ other)
alike dev other one another not_first not_second =
    let sessions : one.entry.session ≡ another.entry.session = same_number one.entry.session another.entry.session (λ less. not_second (inl less)) (λ less. not_first (inl less)) in
    let numbers : one.number ≡ another.number = same_number one.number another.number (λ less. not_second (inr (inl (sym sessions, less)))) (λ less. not_first (inr (inl (sessions, less)))) in
    let devices : dev ≡ other = same_number dev other (λ less. not_first (inr (inr (sessions, numbers, less)))) (λ less. not_second (inr (inr (sym sessions, sym numbers, less)))) in
    (sessions, numbers, devices)
  where
    same_number : (m n : ℕ) → (m < n → ⊥) → (n < m → ⊥) → m ≡ n
    same_number m n not_less not_more = ⊎_elim (λ (less : m < n). absurd (not_less less)) (λ (no_less : n ≤ m). ⊎_elim (λ (more : n < m). absurd (not_more more)) (λ (no_more : m ≤ n). omega (arith, no_less, no_more)) (cases_lt n m)) (cases_lt m n)

-- One entry counts for a sequence, and no more.
pub one_counts : (layout : Layout) (area : Area) (dev other : ℕ) (found another : FoundEntry) → Counts layout area dev found → Counts layout area other another → found.entry.sequence ≡ another.entry.sequence → (dev ≡ other) × (found ≡ another)
one_counts layout area dev other found another first second same =
    let are = alike dev other found another (λ before. second.first dev found first.whole same before) (λ before. first.first other another second.whole (sym same) before) in
    let here : entry_on layout area other another.number ≡ Some found = subst (λ d. entry_on layout area d another.number ≡ Some found) are.2 (subst (λ n. entry_on layout area dev n ≡ Some found) are.1 first.whole.whole) in
    (are.2, same_Some found another (sym here ∙ second.whole.whole))

-- what the test on two entries says
or_cases : (a b : Bool) → (a || b) ≡ true → (a ≡ true) ⊎ (b ≡ true)
or_cases true b is = inl refl
or_cases false b is = inr is

later_is : (other one : FoundEntry) → is_later other one ≡ true → (one.entry.session < other.entry.session) ⊎ ((one.entry.session ≡ other.entry.session) × (one.number < other.number))
later_is other one is = ⊎_elim
    (λ session. inl (ltb-true one.entry.session other.entry.session session))
    (λ number. let parts = and_parts _ _ number in inr (eqb-true one.entry.session other.entry.session parts.0, ltb-true one.number other.number parts.1))
    (or_cases (nat_lt one.entry.session other.entry.session) (one.entry.session == other.entry.session && nat_lt one.number other.number) is)

or_first : (a b : Bool) → a ≡ true → (a || b) ≡ true
or_first true b is = refl
or_first false b is = absurd (false≢true is)

or_second : (a b : Bool) → b ≡ true → (a || b) ≡ true
or_second true b is = refl
or_second false b is = is

-- An entry of the same or a higher device that counts before another one passes the test.
is_later_by : (dev : ℕ) (other : FoundEntry) (lower : ℕ) (one : FoundEntry) → lower ≤ dev → CountsBefore dev other lower one → is_later other one ≡ true
is_later_by dev other lower one le (inl session) = or_first _ _ (lt-ltb one.entry.session other.entry.session session)
is_later_by dev other lower one le (inr (inl number)) = or_second _ _ (both_true (eq-eqb one.entry.session other.entry.session (sym number.0)) (lt-ltb one.number other.number number.1))
is_later_by dev other lower one le (inr (inr device)) = absurd (omega (arith, le, device.2))

-- What counts before a later entry counts before the earlier one.
before_earlier : (d : ℕ) (f : FoundEntry) (dev : ℕ) (other : FoundEntry) (lower : ℕ) (one : FoundEntry) → is_later other one ≡ true → CountsBefore d f dev other → CountsBefore d f lower one
before_earlier d f dev other lower one later before = ⊎_elim
    (λ (more : one.entry.session < other.entry.session). inl (no_less before more))
    (λ (number : (one.entry.session ≡ other.entry.session) × (one.number < other.number)). by_number before number.0 number.1)
    (later_is other one later)
  where
    no_less : CountsBefore d f dev other → one.entry.session < other.entry.session → one.entry.session < f.entry.session
    no_less (inl session) more = omega (arith, session, more)
    no_less (inr (inl number)) more = omega (arith, number.0, more)
    no_less (inr (inr device)) more = omega (arith, device.0, more)

    by_number : CountsBefore d f dev other → one.entry.session ≡ other.entry.session → one.number < other.number → CountsBefore d f lower one
    by_number (inl session) same more = inl (omega (arith, session, same))
    by_number (inr (inl number)) same more = inr (inl (number.0 ∙ sym same, omega (arith, number.1, more)))
    by_number (inr (inr device)) same more = inr (inl (device.0 ∙ sym same, omega (arith, device.1, more)))

module _ (layout : Layout) (area : Area) (sequence : ℕ) where
  -- None of those that were seen counts before this one.
  record IsFirstOf (Seen : ℕ → FoundEntry → Type 0) (one : FoundEntry) : Type 0 where
    pub dev : ℕ
    pub whole : IsWholeOn layout area dev one
    pub seen : Seen dev one
    pub named : one.entry.sequence ≡ sequence
    pub first : (d : ℕ) (f : FoundEntry) → IsWholeOn layout area d f → Seen d f → f.entry.sequence ≡ sequence → CountsBefore d f dev one → ⊥

  -- the best of those that were seen, or none of them has the sequence
  abbrev IsBest : (ℕ → FoundEntry → Type 0) → Option FoundEntry → Type 0
  IsBest Seen None = (d : ℕ) (f : FoundEntry) → IsWholeOn layout area d f → Seen d f → f.entry.sequence ≡ sequence → ⊥
  IsBest Seen (Some one) = IsFirstOf Seen one

  -- seen before this place of this device
  abbrev SeenAt : ℕ → ℕ → ℕ → FoundEntry → Type 0
  SeenAt dev place d f = (d < dev) ⊎ ((d ≡ dev) × (f.number % layout.journal < place))

  best_same : (Seen Other : ℕ → FoundEntry → Type 0) (best : Option FoundEntry) → ((d : ℕ) (f : FoundEntry) → IsWholeOn layout area d f → Seen d f → Other d f) → ((d : ℕ) (f : FoundEntry) → IsWholeOn layout area d f → Other d f → Seen d f) → IsBest Seen best → IsBest Other best
  best_same Seen Other None there back is = λ d f whole other named. is d f whole (back d f whole other) named
  best_same Seen Other (Some one) there back is = record {
    dev = is.dev;
    whole = is.whole;
    seen = there is.dev one is.whole is.seen;
    named = is.named;
    first = λ d f whole other named before. is.first d f whole (back d f whole other) named before;
  }

  -- A whole entry is found at its place,
  pub at_its_place : (dev : ℕ) (f : FoundEntry) → IsWholeOn layout area dev f → entry_at layout area dev (f.number % layout.journal) ≡ Some f
  at_its_place dev f is =
      let b = begins layout area dev f.number f is.whole in
      let number : b.head.number ≡ f.number = (entry_head_is layout.id f.number b.head b.is).number_is in
      let place = f.number % layout.journal in
      ap (λ o. option_and_then (λ (head : Head). cond {A = Option FoundEntry} (head.number % layout.journal == place) (entry_on layout area dev head.number) None) (option_and_then opened o)) b.stands
      ∙ ap (option_and_then (λ (head : Head). cond {A = Option FoundEntry} (head.number % layout.journal == place) (entry_on layout area dev head.number) None)) b.opens
      ∙ ap (λ n. cond {A = Option FoundEntry} (n % layout.journal == place) (entry_on layout area dev n) None) number
      ∙ ap (λ t. cond {A = Option FoundEntry} t (entry_on layout area dev f.number) None) (eq-eqb (f.number % layout.journal) place refl)
      ∙ is.whole

  -- and what is found at a place is whole and lies there.
  pub found_there : (dev place : ℕ) (f : FoundEntry) → dev < layout.metadata_replicas → entry_at layout area dev place ≡ Some f → IsWholeOn layout area dev f × (f.number % layout.journal ≡ place)
  found_there dev place f mirror is =
      option_and_then_some (λ (head : Head). cond {A = Option FoundEntry} (head.number % layout.journal == place) (entry_on layout area dev head.number) None) (option_and_then opened (area dev place)) f is (λ (head : Head) at found.
      let parts = cond_is (head.number % layout.journal == place) (entry_on layout area dev head.number) f found in
      let number : f.number ≡ head.number = number_found layout area dev head.number f parts.1 in (
        record { mirror = mirror; whole = subst (λ n. entry_on layout area dev n ≡ Some f) (sym number) parts.1 },
        ap (λ n. n % layout.journal) number ∙ eqb-true (head.number % layout.journal) place parts.0,
      ))
    where
      cond_is : (test : Bool) (o : Option FoundEntry) (y : FoundEntry) → cond {A = Option FoundEntry} test o None ≡ Some y → (test ≡ true) × (o ≡ Some y)
      cond_is true o y is = (refl, is)
      cond_is false o y is = absurd (none-some y is)

  module _ (dev place : ℕ) (mirror : dev < layout.metadata_replicas) where
    -- What is seen after a place more was seen before, or stands at that place.
    seen_more : (d : ℕ) (f : FoundEntry) → IsWholeOn layout area d f → SeenAt dev (suc place) d f → SeenAt dev place d f ⊎ ((d ≡ dev) × (entry_at layout area dev place ≡ Some f))
    seen_more d f whole (inl lower) = inl (inl lower)
    seen_more d f whole (inr here) = ⊎_elim
        (λ (before : f.number % layout.journal < place). inl (inr (here.0, before)))
        (λ (no_less : place ≤ f.number % layout.journal).
        let same : f.number % layout.journal ≡ place = omega (arith, no_less, here.1) in
        inr (here.0, subst (λ p. entry_at layout area dev p ≡ Some f) same (at_its_place dev f (subst (λ n. IsWholeOn layout area n f) here.0 whole))))
        (cases_lt (f.number % layout.journal) place)

    seen_still : (d : ℕ) (f : FoundEntry) → SeenAt dev place d f → SeenAt dev (suc place) d f
    seen_still d f (inl lower) = inl lower
    seen_still d f (inr here) = inr (here.0, omega (arith, here.1))

    -- The entry at the place has another sequence, or there is none: what was best stays so.
    passed_over : (best : Option FoundEntry) → ((f : FoundEntry) → entry_at layout area dev place ≡ Some f → f.entry.sequence ≡ sequence → ⊥) → IsBest (SeenAt dev place) best → IsBest (SeenAt dev (suc place)) best
    passed_over None none is = λ d f whole seen named. ⊎_elim (λ (before : SeenAt dev place d f). is d f whole before named) (λ (here : (d ≡ dev) × (entry_at layout area dev place ≡ Some f)). none f here.1 named) (seen_more d f whole seen)
    passed_over (Some one) none is = record {
      dev = is.dev;
      whole = is.whole;
      seen = seen_still is.dev one is.seen;
      named = is.named;
      first = λ d f whole seen named before. ⊎_elim (λ (earlier : SeenAt dev place d f). is.first d f whole earlier named before) (λ (here : (d ≡ dev) × (entry_at layout area dev place ≡ Some f)). none f here.1 named) (seen_more d f whole seen);
    }

    module _ (other : FoundEntry) (at : entry_at layout area dev place ≡ Some other) where
      it_is : (f : FoundEntry) → entry_at layout area dev place ≡ Some f → f ≡ other
      it_is f here = same_Some f other (sym here ∙ at)

      -- The entry at the place becomes the best,
      taken : other.entry.sequence ≡ sequence → ((d : ℕ) (f : FoundEntry) → IsWholeOn layout area d f → SeenAt dev place d f → f.entry.sequence ≡ sequence → CountsBefore d f dev other → ⊥) → IsFirstOf (SeenAt dev (suc place)) other
      taken named none_before =
          let there = found_there dev place other mirror at in
          record {
            dev = dev;
            whole = there.0;
            seen = inr (refl, omega (arith, there.1));
            named = named;
            first = λ d f whole seen f_named before. ⊎_elim
                (λ (earlier : SeenAt dev place d f). none_before d f whole earlier f_named before)
                (λ (here : (d ≡ dev) × (entry_at layout area dev place ≡ Some f)).
                before_itself dev other (subst (λ n. CountsBefore n other dev other) here.0 (subst (λ (g : FoundEntry). CountsBefore d g dev other) (it_is f here.1) before)))
                (seen_more d f whole seen);
          }

      -- or another one stays it.
      kept : (one : FoundEntry) → (other.entry.sequence ≡ sequence → is_later other one ≡ true → ⊥) → IsFirstOf (SeenAt dev place) one → IsFirstOf (SeenAt dev (suc place)) one
      kept one not_later is = record {
        dev = is.dev;
        whole = is.whole;
        seen = seen_still is.dev one is.seen;
        named = is.named;
        first = λ d f whole seen named before. ⊎_elim
            (λ (earlier : SeenAt dev place d f). is.first d f whole earlier named before)
            (λ (here : (d ≡ dev) × (entry_at layout area dev place ≡ Some f)).
            let same = it_is f here.1 in
            not_later (sym (ap (λ (g : FoundEntry). g.entry.sequence) same) ∙ named)
            (subst (λ (g : FoundEntry). is_later g one ≡ true) same (is_later_by d f is.dev one (lower_or_same is.dev d is.seen here.0) before)))
            (seen_more d f whole seen);
      }
        where
          lower_or_same : (m n : ℕ) → SeenAt dev place m one → n ≡ dev → m ≤ n
          lower_or_same m n (inl lower) same = omega (arith, lower, same)
          lower_or_same m n (inr here) same = omega (arith, here.0, same)

      first_one : (test : Bool) → (other.entry.sequence == sequence) ≡ test → IsBest (SeenAt dev place) None → IsBest (SeenAt dev (suc place)) (cond {A = Option FoundEntry} test (Some other) None)
      first_one true is none = taken (eqb-true other.entry.sequence sequence is) (λ d f whole seen named before. none d f whole seen named)
      first_one false is none = passed_over None (λ f here named. false≢true (sym is ∙ eq-eqb other.entry.sequence sequence (sym (ap (λ (g : FoundEntry). g.entry.sequence) (it_is f here)) ∙ named))) none

      next_one : (one : FoundEntry) (test : Bool) → (other.entry.sequence == sequence && is_later other one) ≡ test → IsFirstOf (SeenAt dev place) one → IsBest (SeenAt dev (suc place)) (cond {A = Option FoundEntry} test (Some other) (Some one))
      next_one one true is best =
          let parts = and_parts _ _ is in
          taken (eqb-true other.entry.sequence sequence parts.0) (λ d f whole seen named before. best.first d f whole seen named (before_earlier d f dev other best.dev one parts.1 before))
      next_one one false is best = kept one (λ named later. false≢true (sym is ∙ both_true (eq-eqb other.entry.sequence sequence named) later)) best

    -- One place more.
    best_then : (before at : Option FoundEntry) → entry_at layout area dev place ≡ at → IsBest (SeenAt dev place) before → IsBest (SeenAt dev (suc place)) (counting_then sequence before at)
    best_then before None at is = passed_over before (λ f here named. none-some f (sym at ∙ here)) is
    best_then None (Some other) at is = first_one other at (other.entry.sequence == sequence) refl is
    best_then (Some one) (Some other) at is = next_one other at one (other.entry.sequence == sequence && is_later other one) refl is

  -- All places of a device.
  best_on : (dev : ℕ) → dev < layout.metadata_replicas → (before : Option FoundEntry) → IsBest (SeenAt dev 0) before → (place : ℕ) → IsBest (SeenAt dev place) (counting_on layout area sequence dev before place)
  best_on dev mirror before is zero = is
  best_on dev mirror before is (suc place) = best_then dev place mirror (counting_on layout area sequence dev before place) (entry_at layout area dev place) refl (best_on dev mirror before is place)

  module _ (some : 0 < layout.journal) where
    -- All devices.
    best_below : (dev : ℕ) → dev ≤ layout.metadata_replicas → IsBest (SeenAt dev 0) (counting_below layout area sequence dev)
    best_below zero within = λ d f whole seen named. none_seen d f seen
      where
        none_seen : (d : ℕ) (f : FoundEntry) → SeenAt 0 0 d f → ⊥
        none_seen d f (inl lower) = omega (arith, lower)
        none_seen d f (inr here) = omega (arith, here.1)
    best_below (suc dev) within =
        best_same (SeenAt dev layout.journal) (SeenAt (suc dev) 0) (counting_below layout area sequence (suc dev))
        (λ d f whole seen. next_device d f seen) (λ d f whole seen. last_place d f seen)
        (best_on dev (omega (arith, within)) (counting_below layout area sequence dev) (best_below dev (omega (arith, within))) layout.journal)
      where
        next_device : (d : ℕ) (f : FoundEntry) → SeenAt dev layout.journal d f → SeenAt (suc dev) 0 d f
        next_device d f (inl lower) = inl (omega (arith, lower))
        next_device d f (inr here) = inl (omega (arith, here.0))

        last_place : (d : ℕ) (f : FoundEntry) → SeenAt (suc dev) 0 d f → SeenAt dev layout.journal d f
        last_place d f (inl lower) = ⊎_elim (λ (below : d < dev). inl below) (λ (no_less : dev ≤ d). inr (let e : d ≡ dev = omega (arith, lower, no_less) in e, mod_below f.number layout.journal some)) (cases_lt d dev)
        last_place d f (inr here) = absurd (omega (arith, here.1))

    all_seen : (d : ℕ) (f : FoundEntry) → IsWholeOn layout area d f → SeenAt layout.metadata_replicas 0 d f
    all_seen d f whole = inl whole.mirror

    best_of_all : (best : Option FoundEntry) → IsBest (SeenAt layout.metadata_replicas 0) best → (found : FoundEntry) → best ≡ Some found → (found.entry.sequence ≡ sequence) × (dev : ℕ) × Counts layout area dev found
    best_of_all None is found same = absurd (none-some found same)
    best_of_all (Some one) is found same =
        let e : one ≡ found = same_Some one found same in
        subst (λ (g : FoundEntry). (g.entry.sequence ≡ sequence) × (dev : ℕ) × Counts layout area dev g) e
        (is.named, is.dev, record { whole = is.whole; first = λ d f whole named before. is.first d f whole (all_seen d f whole) (named ∙ is.named) before })

    none_of_all : (best : Option FoundEntry) → IsBest (SeenAt layout.metadata_replicas 0) best → (d : ℕ) (f : FoundEntry) → IsWholeOn layout area d f → f.entry.sequence ≡ sequence → IsSome best
    none_of_all None is d f whole named = absurd (is d f whole (all_seen d f whole) named)
    none_of_all (Some one) is d f whole named = refl

    -- What counts by device and place counts,
    pub counting_counts : (found : FoundEntry) → counting layout area sequence ≡ Some found → (found.entry.sequence ≡ sequence) × (dev : ℕ) × Counts layout area dev found
    unfolding counting
    counting_counts found is = best_of_all (counting_below layout area sequence layout.metadata_replicas) (best_below layout.metadata_replicas (omega arith)) found is

    -- and one does where an entry is whole.
    pub some_counts : (d : ℕ) (f : FoundEntry) → IsWholeOn layout area d f → f.entry.sequence ≡ sequence → IsSome (counting layout area sequence)
    unfolding counting
    some_counts d f whole named = none_of_all (counting_below layout area sequence layout.metadata_replicas) (best_below layout.metadata_replicas (omega arith)) d f whole named
