use Rattle.interior.proofs.Halves.{both-away, both-within, first_half, others-divided, second_half}
use Rattle.interior.proofs.laws.contents_are_divided.Goals as goal

pub returns : goal.returns
returns c = record {
  parent = λ levels level greatest at parent first second btree tree fits covers before outer. both-within levels level greatest at first second tree fits covers before btree parent outer;
  away = λ levels level greatest at parent q first second btree tree fits covers before outer ends apart. both-away levels level greatest at first second tree fits covers before btree parent q outer ends apart;
  first = λ levels level greatest at first second. first_half levels level greatest at first second;
  second = λ levels level greatest at first second. second_half levels level greatest at first second;
  others = λ levels level other greatest at q first second tree fits covers before. others-divided levels level greatest at first second tree fits covers before other q;
}
