use Rattle.id_steps.proofs.Records.{drawn_places, record_follows, split_follows}
use Rattle.id_steps.proofs.ids.records_follow_updates.Goals as goal

pub returns : goal.returns
returns c = record {
  put = λ keys id snap is drawn. record_follows keys id snap is (drawn_places keys drawn);
  split = λ keys id next leaf is drawn. split_follows keys id next leaf is (drawn_places keys drawn);
}
