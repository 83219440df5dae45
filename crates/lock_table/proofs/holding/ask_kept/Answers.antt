use Rattle.std.proofs.Common.{refl}
use Rattle.lock_table.proofs.Kept.{kept_either}
use Rattle.lock_table.proofs.holding.ask_kept.Goals as goal

pub returns-clause-kept : goal.returns-clause-kept
returns-clause-kept c =
    kept_either c.args.sequence c.args.nodes.now.entries c.ask_noted.new.nodes.entries c.args.holdings.now.items _ c.args.count c.args.actor c.args.name.now c.args.mode c.ask_noted.result c.ask_noted.new.holding
    c.requires.actor c.requires.kept refl c.ask_noted.ensures.in_use c.ask_noted.ensures.ok c.ask_noted.ensures.err c.ask_noted.ensures.holding
