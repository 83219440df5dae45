use Rattle.std.proofs.Common.{rules, ◌≡◌, length}
use Rattle.turn_cell.proofs.Passing.{starts}
use Rattle.turn_cell.proofs.cell.TurnCell.new.Goals as goal

pub new-requires : goal.new-requires
new-requires g c =
    let same : c.of.result.value ≡ c.args.machine = search rules in
    let count : c.length.result ≡ length (g.M.Machine.trace c.of.result.value) = search rules in
    starts g.M.Machine.actors g.M.Machine.trace g.M.Machine.mine _ _ _ _ c.requires.0 c.requires.1 count (search rules)
