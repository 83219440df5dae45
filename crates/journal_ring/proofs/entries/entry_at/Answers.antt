use Rattle.std.proofs.Common.{◌≡◌, ◌%◌, ◌∙◌, IfOk, Option, Some, ap, subst, sym, arith}
use Rattle.std.proofs.lemmas.Bool.{eqb-true}
use Rattle.dev_model.specs.Disk.{block_at}
use Rattle.sealed_block.specs.Opening.{opened}
use Rattle.journal_ring.specs.declared.found.FoundEntry.{FoundEntry}
use Rattle.journal_ring.specs.Counting.{entry_at}
use Rattle.journal_ring.specs.Entries.{begun_by}
use Rattle.journal_ring.specs.Parts.{area_in}
use Rattle.journal_ring.proofs.Loops.{begun_there}
use Rattle.journal_ring.proofs.entries.entry_at.Goals as goal

pub returns : goal.returns
returns c =
    let layout = c.args.layout.now in
    let area = area_in c.args.areas.now in
    let head = c.in-Some-unseal.head in
    let block = c.in-Some.block.now in
    let stands : block_at c.args.areas.now c.args.dev c.args.place ≡ Some block = ap (block_at c.args.areas.now c.args.dev) (let e : c.args.place ≡ c.from.result = omega (arith, c.from.ensures) in e) ∙ sym c.in-Some.ensures in
    let opens : opened block ≡ Some head = ap opened (sym c.as_slice.ensures) ∙ sym c.in-Some-unseal.ensures.head in
    let same : head.number % layout.journal ≡ c.args.place = eqb-true (head.number % layout.journal) c.args.place (cc (c.lies_at.ensures, c.if-not-lies_at.ensures, c.if-not-lies_at.false)) in
    let begins : begun_by layout area c.args.dev head.number head ≡ entry_at layout area c.args.dev c.args.place = begun_there layout area c.args.dev c.args.place block head stands opens same in
    subst (λ (o : Option FoundEntry). IfOk c.begun_by.result (λ found. found ≡ o)) begins c.begun_by.ensures
