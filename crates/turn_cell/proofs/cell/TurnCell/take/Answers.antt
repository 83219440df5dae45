use Rattle.std.proofs.Common.{rules, IsSome, sym, subst}
use Rattle.turn_cell.proofs.Turns.{takes_turn, some_of}
use Rattle.turn_cell.proofs.cell.TurnCell.take.Goals as goal

pub compare_exchange-requires : goal.compare_exchange-requires
compare_exchange-requires g c =
    let live = some_of c.loop.seat.me.0.mine (subst (λ m. IsSome m.0.mine) (sym c.loop.invariant.2) c.requires.live) in
    (search rules, search rules, takes_turn g.M.Machine.actors g.M.Machine.trace g.M.Machine.mine _ _ _ _ live.0 live.1)
