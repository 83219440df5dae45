use Rattle.dev_model.proofs.LeftBlocks.{torn_if_ok}
use Rattle.dev_model.proofs.disk.block_left.Goals as goal

pub returns-in-Torn-clause-sound : goal.returns-in-Torn-clause-sound
returns-in-Torn-clause-sound c = torn_if_ok c.spliced.result c.args.new.now c.args.old.now c.requires.new c.requires.old c.spliced.ensures
