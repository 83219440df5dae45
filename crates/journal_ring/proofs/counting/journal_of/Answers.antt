use Rattle.std.proofs.Common.{◌≡◌, ℕ, IfOk, Option, subst}
use Rattle.std.specs.Ordering.{nat_cmp}
use Rattle.vol_types.specs.Maps.{value_at}
use Rattle.journal_ring.specs.declared.found.FoundEntry.{FoundEntry}
use Rattle.journal_ring.specs.declared.journal.Journal.{Journal}
use Rattle.journal_ring.specs.Counting.{journal_in}
use Rattle.journal_ring.specs.Parts.{area_in}
use Rattle.journal_ring.specs.Reading.{journal_up_to}
use Rattle.journal_ring.proofs.Counted.{empty_has_none, last_counts, no_greater, none_counts}
use Rattle.journal_ring.proofs.counting.journal_of.Goals as goal

pub returns-in-None : goal.returns-in-None
returns-in-None c =
    let entries = c.in_ok-entries.entries.entries in
    none_counts c.args.layout.now (area_in c.args.areas.now) (λ q. value_at nat_cmp q entries) c.in_ok-entries.ensures (empty_has_none entries c.in-None.ensures.variant.1)

pub returns-in-Some : goal.returns-in-Some
returns-in-Some c =
    let layout = c.args.layout.now in
    let area = area_in c.args.areas.now in
    let entry_of : ℕ → Option FoundEntry = λ q. value_at nat_cmp q c.in_ok-entries.entries.entries in
    let others : ℕ → Option FoundEntry = λ q. value_at nat_cmp q c.pop_last.new.self.entries in
    let popped = c.in-Some.ensures in
    let key = c.in-Some.field-0-0 in
    let is : journal_up_to others c.in-Some.last ≡ journal_in layout area =
    last_counts layout area entry_of c.in_ok-entries.ensures c.requires key c.in-Some.last others popped.value (λ q there. no_greater key q (popped.greatest q there)) (λ q. popped.updates.0 q) in
    subst (λ (j : Journal). IfOk c.needed_entries.result (λ journal. journal ≡ j)) is c.needed_entries.ensures
