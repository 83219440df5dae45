use Rattle.std.proofs.Common.{subst, sym}
use Rattle.std.specs.Prelude.{All}
use Rattle.birth_index.specs.Births.{Index, IsFreeIn}
use Rattle.birth_index.specs.declared.name.Named.{Named}
use Rattle.birth_index.proofs.index.BirthIndex.take_room.Goals as goal

pub add_all-requires-clause-free : goal.add_all-requires-clause-free
add_all-requires-clause-free c = subst (λ (index : Index). All (λ (new : Named). IsFreeIn index c.args.gone new.birth) c.args.news.now) (sym c.self.view_is) c.requires.free
