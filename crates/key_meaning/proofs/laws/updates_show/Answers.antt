use Rattle.key_meaning.specs.VisibleLaws.{snaps_of-with_update, visible-elsewhere, visible-other, visible-put, visible-removed}
use Rattle.key_meaning.proofs.laws.updates_show.Goals as goal

pub returns : goal.returns
returns c = record { snaps = snaps_of-with_update; put = visible-put; removed = visible-removed; other = visible-other; elsewhere = visible-elsewhere }
