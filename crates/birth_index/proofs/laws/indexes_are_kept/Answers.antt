use Rattle.birth_index.specs.ChangeLaws.{index-divided, index-grown, index-renamed}
use Rattle.birth_index.proofs.laws.indexes_are_kept.Goals as goal

pub returns : goal.returns
returns c = record {
  replaced = λ index nodes name gone fresh is there has free. index-renamed index nodes name gone is there has fresh free;
  divided = λ index nodes name gone at first second is there has new one other apart. index-divided index nodes name gone is there has at first second new one other apart;
  grown = λ index nodes name gone at first second root is there has new one other apart free from_first from_second top. index-grown index nodes name gone is there has at first second new one other apart root free from_first from_second top;
}
