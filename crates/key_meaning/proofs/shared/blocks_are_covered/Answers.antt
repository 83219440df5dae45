use Rattle.key_meaning.specs.CoverLaws.{cover_in-step, own_cover-found, own_cover-is}
use Rattle.key_meaning.proofs.shared.blocks_are_covered.Goals as goal

pub returns : goal.returns
returns c = record { found = own_cover-found; only = own_cover-is; step = cover_in-step }
