use Rattle.std.proofs.Common.{◌≡◌, ◌+◌, ◌-◌, ◌++◌, ◌∷◌, [], ◌∙◌, ℕ, suc, List, Option, None, Some, Ok, cond, ap, sym, arith}
use Rattle.std.specs.Ordering.{nat_cmp}
use Rattle.vol_types.specs.Maps.{value_at}
use Rattle.journal_ring.specs.declared.found.FoundEntry.{FoundEntry}
use Rattle.journal_ring.specs.declared.journal.Journal.TheVariants.{Missing, Needed}
use Rattle.journal_ring.specs.Counting.{entries_from, read_as, with_one}
use Rattle.journal_ring.proofs.Counted.{key_apart, needed_missing, needed_more}
use Rattle.journal_ring.proofs.counting.needed_entries.Goals as goal

pub returns-in-None : goal.returns-in-None
returns-in-None c =
    let entry_of : ℕ → Option FoundEntry = λ q. value_at nat_cmp q c.args.below.entries in
    let last = c.args.last in
    let oldest = last.entry.oldest in
    let n = c.loop-sequence.sequence-counter in
    let so_far = c.loop-sequence.invariant in
    let here : n ≡ oldest + (n - oldest) = omega (arith, so_far.begun) in
    let none : entry_of n ≡ None = sym (so_far.left n (omega arith)) ∙ sym c.in-None.ensures.value in
    let missing = needed_missing entry_of oldest (n - oldest) (last.entry.sequence - oldest) c.loop-sequence.needed (omega (arith, so_far.begun, c.loop-sequence-test.true)) so_far.so_far (ap entry_of (sym here) ∙ none) in
    ap Missing here ∙ sym (ap (λ r. read_as (with_one r last.entry.sequence (Some last))) missing)

pub loop-sequence-preserved : goal.loop-sequence-preserved
loop-sequence-preserved c =
    let entry_of : ℕ → Option FoundEntry = λ q. value_at nat_cmp q c.args.below.entries in
    let oldest = c.args.last.entry.oldest in
    let n = c.loop-sequence.sequence-counter in
    let so_far = c.loop-sequence.invariant in
    let entry = c.in-Some.entry in
    let there : entry_of (oldest + (n - oldest)) ≡ Some entry = ap entry_of (let e : oldest + (n - oldest) ≡ n = omega (arith, so_far.begun) in e) ∙ sym (so_far.left n (omega arith)) ∙ sym c.in-Some.ensures.value in
    let pushed : c.push.new.self ≡ c.loop-sequence.needed ++ entry ∷ [] = c.in_ok-push-in-Some.ensures.ok in
    record {
      within = omega (arith, so_far.begun, c.loop-sequence-test.true);
      begun = omega (arith, so_far.begun);
      so_far = ap (entries_from entry_of oldest) (let e : n + 1 - oldest ≡ suc (n - oldest) = omega (arith, so_far.begun) in e)
          ∙ needed_more entry_of oldest (n - oldest) c.loop-sequence.needed entry so_far.so_far there
          ∙ ap (λ (es : List FoundEntry). Ok es) (sym pushed);
      left = λ q past.
          c.remove.ensures.updates.0 q
          ∙ ap (λ b. cond {A = Option FoundEntry} b None (value_at nat_cmp q c.loop-sequence.below.entries)) (key_apart n q (λ same. omega (arith, same, past)))
          ∙ so_far.left q (omega (arith, past));
    }

pub returns : goal.returns
returns c =
    let entry_of : ℕ → Option FoundEntry = λ q. value_at nat_cmp q c.args.below.entries in
    let last = c.args.last in
    let oldest = last.entry.oldest in
    let so_far = c.loop-sequence.invariant in
    let end : last.entry.sequence - oldest ≡ c.loop-sequence.sequence-counter - oldest = omega (arith, so_far.begun, so_far.within, c.loop-sequence-test.false) in
    let pushed : c.push-2.new.self ≡ c.loop-sequence.needed ++ last ∷ [] = c.in_ok-push.ensures.ok in
    ap (λ (es : List FoundEntry). Needed es) pushed
    ∙ sym (ap (λ n. read_as (with_one (entries_from entry_of oldest n) last.entry.sequence (Some last))) end ∙ ap (λ r. read_as (with_one r last.entry.sequence (Some last))) so_far.so_far)
