use Rattle.key_meaning.specs.NumberLaws.{no_name_to_unused, unused_from_counter, unused_shows_nowhere}
use Rattle.key_meaning.proofs.numbers.numbers_are_drawn_upwards.Goals as goal

pub returns : goal.returns
returns c = record { unused = unused_from_counter; nowhere = unused_shows_nowhere; no_name = no_name_to_unused }
