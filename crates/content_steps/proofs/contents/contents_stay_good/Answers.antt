use Rattle.content_steps.proofs.Ends.{cut_stays_good, extents_stay_good, greater_stays_good, put_stays_good, size_stays_good}
use Rattle.content_steps.proofs.contents.contents_stay_good.Goals as goal

pub returns : goal.returns
returns c = record {
  put = put_stays_good;
  extents = extents_stay_good;
  cut = cut_stays_good;
  sized = size_stays_good;
  greater = greater_stays_good;
}
