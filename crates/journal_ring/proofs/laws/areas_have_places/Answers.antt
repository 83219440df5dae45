use Rattle.geometry.specs.LayoutFacts.{has_places, journal_place}
use Rattle.journal_ring.proofs.laws.areas_have_places.Goals as goal

pub returns : goal.returns
returns c sizes layout is = record {
  mirrors_there = (has_places sizes layout is).mirrors;
  places = λ dev place within lower. journal_place sizes layout dev place is within lower;
}
