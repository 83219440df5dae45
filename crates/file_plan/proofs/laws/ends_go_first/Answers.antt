use Rattle.file_plan.proofs.Ending.{end_adds_nothing, end_fresh, end_reaches}
use Rattle.file_plan.proofs.laws.ends_go_first.Goals as goal

pub returns-clause-fresh : goal.returns-clause-fresh
returns-clause-fresh c = end_fresh

pub returns-clause-reach : goal.returns-clause-reach
returns-clause-reach c = end_reaches

pub returns-clause-bytes : goal.returns-clause-bytes
returns-clause-bytes c = λ keys read id number size first new_size end extents before after written there bytes behind fresh. end_adds_nothing keys read id number size first end extents before after written there bytes behind fresh new_size
