use Rattle.std.proofs.Common.{◌≤◌, sym, ap, subst, ◌∙◌, nat_cmp}
use Rattle.std.specs.Map.{set_value}
use Rattle.std.specs.BTreeMap.{is_at}
use Rattle.vol_types.specs.Maps.{without}
use Rattle.plain_forest.specs.Maps.{name_cmp}
use Rattle.forest_ops.specs.Tallies.{counted}
use Rattle.forest_ops.specs.Names.{links_in, links_of}
use Rattle.forest_ops.proofs.MapLemmas.{set_value-changed_at, changed_at-none}
use Rattle.forest_ops.proofs.Counting.{links_changed, links_within}
use Rattle.forest_ops.proofs.directories.take_name.Goals as goal

pub returns-in-Some-clause-rest : goal.returns-in-Some-clause-rest
returns-in-Some-clause-rest c =
    let place = c.args.place.now in
    let old = c.args.tables.now.entries in
    (c.get_mut.follows.holds c.remove_counted.new.names).0 ∙ ap (set_value (is_at (nat_cmp place.directory)) old) c.remove_counted.ensures.rest
    ∙ set_value-changed_at nat_cmp place.directory (without name_cmp place.name.now) old c.in-Some.names.now (sym c.in-Some.ensures.value)

pub returns-in-Some-clause-counted : goal.returns-in-Some-clause-counted
returns-in-Some-clause-counted c = λ was number.
    let old = c.args.tables.now.entries in
    let there = sym c.in-Some.ensures.value in
    let within = subst (λ n. links_in number c.in-Some.names.now ≤ n) (sym (was number)) (links_within c.args.place.now.directory c.in-Some.names.now old there number) in
    links_changed c.args.place.now.directory c.in-Some.names.now old there number c.remove_counted.new.names (counted number c.args.links.now) (counted number c.remove_counted.new.links) (c.remove_counted.ensures.counted number within) (was number)
    ∙ sym (ap (links_of number) (c.get_mut.follows.holds c.remove_counted.new.names).0)

pub returns-in-None-clause-rest : goal.returns-in-None-clause-rest
returns-in-None-clause-rest c =
    let place = c.args.place.now in
    ap (λ m. m.entries) c.get_mut.follows.holds-at-none
    ∙ sym (changed_at-none nat_cmp place.directory (without name_cmp place.name.now) c.args.tables.now.entries (sym c.in-None.ensures.value))
