use Rattle.btree_laws.proofs.Births.{births_differ}
use Rattle.btree_laws.proofs.Exchanged.{exchanged_stands, others_stay, same_keys}
use Rattle.btree_laws.proofs.Images.{stand_still}
use Rattle.btree_laws.proofs.Kept.{changed, stands_still}
use Rattle.btree_laws.proofs.Rewritten.{keys_stay, rewritten_stands}
use Rattle.btree_laws.proofs.exchanges.standing_btrees_change_by_exchanges.Goals as goal

pub returns : goal.returns
returns c = record {
  stays = stands_still;
  stay = stand_still;
  changed = λ one other btree root fresh old new before after stands tree top each. changed one other btree root old new before after stands tree fresh top each;
  exchanged = exchanged_stands;
  others = λ one other btree root fresh old new before after first last stands again exchange stay. others_stay one other btree root fresh old new before after stands again first last exchange stay;
  same = same_keys;
  rewritten = λ one other btree root old new before after from pos fresh stands within fits rewritten stay news same. (
    rewritten_stands one other btree root old new before after from pos fresh stands within fits rewritten stay news,
    keys_stay one other btree root old new before after from pos fresh stands within fits rewritten stay news same,
  );
  births = births_differ;
}
