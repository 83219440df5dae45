use Rattle.std.proofs.Common.{◌∙◌}
use Rattle.vol_info.proofs.FoundBtrees.{levels_found, no_levels}
use Rattle.vol_info.proofs.btrees.levels_of.Goals as goal

pub returns-in-Some : goal.returns-in-Some
returns-in-Some c = c.as_slice.ensures ∙ levels_found c.args.found.now c.args.btree c.from.result c.in-Some.found.now (c.from.ensures ∙ c.code.ensures) c.in-Some.ensures

pub returns-in-None : goal.returns-in-None
returns-in-None c = no_levels c.args.found.now c.args.btree c.from.result (c.from.ensures ∙ c.code.ensures) c.in-None.ensures
