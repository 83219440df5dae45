use Rattle.std.proofs.Common.{◌+◌, sym, ap, ◌∙◌, arith}
use Rattle.plain_forest.specs.Maps.{name_cmp}
use Rattle.forest_ops.specs.Tallies.{counted}
use Rattle.forest_ops.specs.Names.{links_in}
use Rattle.forest_ops.proofs.Sums.{without-none}
use Rattle.forest_ops.proofs.Counting.{links_less}
use Rattle.forest_ops.proofs.directories.remove_counted.Goals as goal

pub returns-in-Some-clause-counted : goal.returns-in-Some-clause-counted
returns-in-Some-clause-counted c = λ other within.
    let place = c.args.place.now in
    omega (arith, within, c.take.ensures other, ap (links_in other) c.in-Some.ensures.rest, links_less place.name.now c.in-Some.number c.args.names.now other (sym c.in-Some.ensures.number))

pub returns-in-None-clause-counted : goal.returns-in-None-clause-counted
returns-in-None-clause-counted c = λ other within.
    let place = c.args.place.now in
    let same = c.in-None.ensures.rest ∙ without-none name_cmp place.name.now c.args.names.now (sym c.in-None.ensures.number) in
    ap (λ names. counted other c.args.links.now + links_in other names) (sym same)
