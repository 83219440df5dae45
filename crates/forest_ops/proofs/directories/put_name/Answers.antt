use Rattle.std.proofs.Common.{sym, ap, ◌∙◌, nat_cmp}
use Rattle.std.specs.Map.{set_value}
use Rattle.std.specs.BTreeMap.{is_at}
use Rattle.std.proofs.lemmas.Map.Steps.{set_value_same}
use Rattle.std.proofs.lemmas.Result.{on_ok_weaker, on_err_weaker}
use Rattle.plain_forest.specs.Maps.{name_cmp, with_value}
use Rattle.forest_ops.specs.Tallies.{counted}
use Rattle.forest_ops.specs.Names.{links_of}
use Rattle.forest_ops.proofs.MapLemmas.{set_value-changed_at, changed_at-none}
use Rattle.forest_ops.proofs.Counting.{links_changed}
use Rattle.forest_ops.proofs.directories.put_name.Goals as goal

pub returns-in-Some-clause-ok : goal.returns-in-Some-clause-ok
returns-in-Some-clause-ok c =
    let place = c.args.place.now in
    let old = c.args.tables.now.entries in
    on_ok_weaker c.insert_counted.result (λ done.
    (c.get_mut.follows.holds c.insert_counted.new.names).0 ∙ ap (set_value (is_at (nat_cmp place.directory)) old) done
    ∙ set_value-changed_at nat_cmp place.directory (with_value name_cmp place.name.now place.number) old c.in-Some.names.now (sym c.in-Some.ensures.value)) c.insert_counted.ensures.ok

pub returns-in-Some-clause-err : goal.returns-in-Some-clause-err
returns-in-Some-clause-err c =
    let place = c.args.place.now in
    let old = c.args.tables.now.entries in
    on_err_weaker c.insert_counted.result (λ same.
    (c.get_mut.follows.holds c.insert_counted.new.names).0 ∙ ap (set_value (is_at (nat_cmp place.directory)) old) same
    ∙ set_value_same (is_at (nat_cmp place.directory)) old c.in-Some.names.now (sym c.in-Some.ensures.value)) c.insert_counted.ensures.err

pub returns-in-Some-clause-counted : goal.returns-in-Some-clause-counted
returns-in-Some-clause-counted c = λ was number.
    let old = c.args.tables.now.entries in
    links_changed c.args.place.now.directory c.in-Some.names.now old (sym c.in-Some.ensures.value) number c.insert_counted.new.names (counted number c.args.links.now) (counted number c.insert_counted.new.links) (c.insert_counted.ensures.counted number) (was number)
    ∙ sym (ap (links_of number) (c.get_mut.follows.holds c.insert_counted.new.names).0)

pub returns-in-None-clause-ok : goal.returns-in-None-clause-ok
returns-in-None-clause-ok c =
    let place = c.args.place.now in
    ap (λ m. m.entries) c.get_mut.follows.holds-at-none
    ∙ sym (changed_at-none nat_cmp place.directory (with_value name_cmp place.name.now place.number) c.args.tables.now.entries (sym c.in-None.ensures.value))
