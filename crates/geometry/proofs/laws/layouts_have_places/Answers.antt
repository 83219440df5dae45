use Rattle.geometry.specs.LayoutFacts.{has_places, block_is_place, area_is_place, journal_place}
use Rattle.geometry.proofs.laws.layouts_have_places.Goals as goal

pub returns : goal.returns
returns c = record { places = has_places; block = block_is_place; area = area_is_place; journal = journal_place }
