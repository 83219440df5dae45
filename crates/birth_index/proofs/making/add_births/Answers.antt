use Rattle.std.proofs.Common.{ap, sym, take, ◌∙◌}
use Rattle.std.specs.Prelude.{None, ◌≡◌}
use Rattle.std.specs.Ordering.{nat_cmp}
use Rattle.std.proofs.lemmas.List.Elements.{All-take}
use Rattle.birth_index.specs.Exchanges.{without_births}
use Rattle.birth_index.specs.declared.name.Exchange.{Exchange}
use Rattle.birth_index.proofs.Putting.{births_back, fresh_more}
use Rattle.vol_types.specs.Maps.{value_at, with_value}
use Rattle.birth_index.proofs.making.add_births.Goals as goal

pub returns-in-Err-clause-err : goal.returns-in-Err-clause-err
returns-in-Err-clause-err c =
    let put = take c.loop-place.place c.args.changes.now in
    c.remove_births.ensures
    ∙ ap (without_births put) (c.in-Err.ensures.err ∙ c.loop-place.invariant)
    ∙ births_back put c.args.names.now.entries c.len.ensures.ordered (All-take (λ (change : Exchange). value_at nat_cmp change.pointer.birth c.args.names.now.entries ≡ None) c.loop-place.place c.args.changes.now c.requires)

pub loop-place-preserved : goal.loop-place-preserved
loop-place-preserved c =
    let change = c.index-changes-place.result in
    c.in_default.ensures.ok
    ∙ ap (with_value nat_cmp change.pointer.birth change.name) c.loop-place.invariant
    ∙ sym (fresh_more c.args.changes.now c.loop-place.place change c.args.names.now.entries c.loop-place-test.true c.index-changes-place.is)
