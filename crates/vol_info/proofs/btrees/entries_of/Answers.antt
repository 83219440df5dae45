use Rattle.std.proofs.Common.{◌∙◌}
use Rattle.vol_info.proofs.FoundBtrees.{entries_found, no_entries}
use Rattle.vol_info.proofs.btrees.entries_of.Goals as goal

pub returns-in-Some : goal.returns-in-Some
returns-in-Some c = c.as_slice.ensures ∙ entries_found c.args.found.now c.args.btree c.from.result c.in-Some.found.now (c.from.ensures ∙ c.code.ensures) c.in-Some.ensures

pub returns-in-None : goal.returns-in-None
returns-in-None c = no_entries c.args.found.now c.args.btree c.from.result (c.from.ensures ∙ c.code.ensures) c.in-None.ensures
