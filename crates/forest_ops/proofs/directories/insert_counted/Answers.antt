use Rattle.std.proofs.Common.{◌≡◌, ap, rules, arith}
use Rattle.plain_forest.specs.Maps.{name_cmp, with_value}
use Rattle.forest_ops.specs.Names.{links_in}
use Rattle.forest_ops.proofs.Counting.{links_more}
use Rattle.forest_ops.proofs.directories.insert_counted.Goals as goal

pub returns-clause-counted : goal.returns-clause-counted
returns-clause-counted c = λ other.
    let place = c.args.place.now in
    let added : c.insert.new.self ≡ with_value name_cmp place.name.now place.number c.args.names.now = search rules in
    omega (arith, c.in_ok-add.ensures.ok other, ap (links_in other) added, links_more place.name.now place.number c.args.names.now other c.requires)
