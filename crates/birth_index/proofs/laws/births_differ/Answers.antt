use Rattle.birth_index.specs.Births.{birth_of}
use Rattle.birth_index.specs.FindLaws.{Finds-once, free_in}
use Rattle.birth_index.proofs.laws.births_differ.Goals as goal

pub returns : goal.returns
returns c = record {
  once = λ index nodes one other birth is. Finds-once index (birth_of nodes) one other birth is;
  free = λ index nodes name gone birth is has free. free_in index (birth_of nodes) name is gone has birth free;
}
