use Rattle.vol_types.specs.MapLaws.{value_at-with_value, value_at-without, value_at-append, IsMap-put_at, IsMap-parts, IsMap-append, same_maps}
use Rattle.vol_types.proofs.laws.maps_are_functions.Goals as goal

pub returns : goal.returns
returns g c = record {
  put = value_at-with_value g.met.K.Ord.total;
  removed = value_at-without g.met.K.Ord.total;
  joined = value_at-append _;
  put_stays = IsMap-put_at g.met.K.Ord.total;
  parts = IsMap-parts _;
  whole = IsMap-append _;
  same = same_maps g.met.K.Ord.total;
}
