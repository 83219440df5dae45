use Rattle.key_meaning.specs.UpdateLaws.{links_in-put, links_in-removed, names_update, number_in-slot}
use Rattle.key_meaning.proofs.changes.names_are_updated.Goals as goal

pub returns : goal.returns
returns c = record { only = names_update; put = links_in-put; removed = links_in-removed; slot = number_in-slot }
