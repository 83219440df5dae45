use Rattle.id_steps.proofs.Growing.{no_keys}
use Rattle.id_steps.proofs.Origins.{none_shows_nothing}
use Rattle.id_steps.proofs.Records.{all_above_counter, fresh_is_none}
use Rattle.id_steps.proofs.fresh.fresh_ids_have_no_keys.Goals as goal

pub returns : goal.returns
returns c = record {
  above = all_above_counter;
  none = fresh_is_none;
  keyless = λ keys id drawn apart le. no_keys keys id apart (fresh_is_none keys id drawn le);
  nothing = λ keys id drawn le. none_shows_nothing keys id (fresh_is_none keys id drawn le);
}
