use Rattle.std.proofs.Common.{rules}
use Rattle.turn_cell.proofs.Turns.{counts_trace, is_counted, frees_turn}
use Rattle.turn_cell.proofs.cell.TurnCell.put.Goals as goal

pub store-requires : goal.store-requires
store-requires g c = (
  search rules,
  search rules,
  counts_trace g.M.Machine.actors g.M.Machine.trace g.M.Machine.mine _ _ c.args.seat.now.me.0 _ c.args.machine _ _ c.requires.slot c.exchange-nothing.ensures.3 c.requires.live.1 c.requires.live.0 c.length-length.ensures c.requires.turn,
)

pub store-requires-2 : goal.store-requires-2
store-requires-2 g c = (
  search rules,
  search rules,
  frees_turn g.M.Machine.actors g.M.Machine.trace g.M.Machine.mine _ _ c.args.seat.now.me.0 c.args.machine _
      (is_counted g.M.Machine.actors g.M.Machine.trace g.M.Machine.mine c.args.machine c.args.seat.now.me.0 _ _ _ c.requires.slot c.exchange-nothing.ensures.3 c.store.ensures.2),
)
