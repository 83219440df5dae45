use Rattle.interior.proofs.Halves.{others-replaced, rewrite-away, rewrite-within}
use Rattle.interior.proofs.laws.contents_stay.Goals as goal

pub returns : goal.returns
returns c = record {
  parent = λ levels level greatest parent fresh btree tree covers. rewrite-within levels level greatest parent fresh btree tree covers;
  away = λ levels level greatest parent q fresh btree tree fits covers ends apart. rewrite-away levels level greatest parent fresh btree tree covers q fits ends apart;
  others = others-replaced;
}
