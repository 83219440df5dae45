use Rattle.key_meaning.specs.CounterLaws.{counter_keeps_drawn, counter_leaves_unused, counter_shows_same, drawn_now, drawn_still}
use Rattle.key_meaning.proofs.numbers.counters_are_raised.Goals as goal

pub returns : goal.returns
returns c = record { shows = counter_shows_same; unused = counter_leaves_unused; still = drawn_still; now = drawn_now; drawn = counter_keeps_drawn }
