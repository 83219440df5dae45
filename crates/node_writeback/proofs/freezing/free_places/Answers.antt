-- There is a metadata device, and so a place.
use Rattle.std.proofs.Common.{◌<◌, List, length, subst, sym}
use Rattle.vol_types.specs.declared.pointers.Place.{Place}
use Rattle.node_writeback.proofs.Sets.{some_places}
use Rattle.node_writeback.proofs.freezing.free_places.Goals as goal

pub returns-in-Ok-clause-some : goal.returns-in-Ok-clause-some
returns-in-Ok-clause-some c = subst (λ (places : List Place). 0 < length places) (sym c.in-Ok.ensures.ok) (some_places c.args.layout.now c.args.pool.now c.requires.layout c.requires.mirrors)
