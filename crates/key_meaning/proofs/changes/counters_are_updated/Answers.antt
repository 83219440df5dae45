use Rattle.key_meaning.specs.UpdateLaws.{counter_in-other, counter_in-put, forest_in-client, forest_in-ids}
use Rattle.key_meaning.proofs.changes.counters_are_updated.Goals as goal

pub returns : goal.returns
returns c = record { other = counter_in-other; put = counter_in-put; client = forest_in-client; ids = forest_in-ids }
