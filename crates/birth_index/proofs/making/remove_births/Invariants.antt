use Rattle.std.proofs.Common.{◌≡◌, drop}
use Rattle.birth_index.specs.Exchanges.{without_births}
use Rattle.birth_index.proofs.making.remove_births.Given as goal

abbrev pub invariant-loop-change : goal.invariant-loop-change
invariant-loop-change l = without_births (drop l.change-index l.changes) l.names.entries ≡ without_births l.changes l.fn.names.entries
