use Rattle.std.specs.List.{AllByRecursion}
use Rattle.replay.specs.Volumes.{IsFoundBtree}
use Rattle.replay.proofs.Made.{each_found}
use Rattle.replay.proofs.Making.{handed_on}
use Rattle.replay.proofs.btrees.key_map.Goals as goal

pub returns-in_err-keys-clause-err : goal.returns-in_err-keys-clause-err
returns-in_err-keys-clause-err c same are =
    handed_on c.from_residual.result c.in_err-keys.field-0.0 (¬ AllByRecursion IsFoundBtree c.args.btrees) c.from_residual.ensures.1 c.in_err-keys.ensures.err same (each_found c.args.btrees are)
