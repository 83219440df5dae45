use Rattle.std.proofs.Common.{refl}
use Rattle.lock_table.proofs.Kept.{kept_released}
use Rattle.lock_table.proofs.holding.release_kept.Goals as goal

pub returns-clause-kept : goal.returns-clause-kept
returns-clause-kept c =
    kept_released c.args.sequence.now c.release_noted.new.sequence c.args.nodes.now.entries c.release_noted.new.nodes.entries c.args.holdings.now.items _ c.args.count c.args.actor c.release_noted.new.holding
    c.requires.kept refl c.release_noted.ensures.in_use c.release_noted.ensures.releases c.release_noted.ensures.holding
