use Rattle.std.proofs.Common.{◌≡◌, subst, sym}
use Rattle.std.specs.Prelude.{All, None}
use Rattle.std.specs.Ordering.{nat_cmp}
use Rattle.birth_index.specs.Births.{Index}
use Rattle.birth_index.specs.declared.name.Exchange.{Exchange}
use Rattle.vol_types.specs.Maps.{value_at}
use Rattle.birth_index.proofs.index.BirthIndex.add_fresh.Goals as goal

pub add_births-requires : goal.add_births-requires
add_births-requires c = subst (λ (index : Index). All (λ (change : Exchange). value_at nat_cmp change.pointer.birth index ≡ None) c.args.changes.now) (sym c.self.view_is) c.requires
