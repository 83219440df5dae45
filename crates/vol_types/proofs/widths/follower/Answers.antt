use Rattle.std.proofs.Common.{sym, ap, ◌∙◌}
use Rattle.vol_types.specs.FollowerLaws.{has_follower, not_greatest}
use Rattle.vol_types.specs.Positions.{next_pos}
use Rattle.vol_types.proofs.widths.follower.Goals as goal

pub unreachable-requires : goal.unreachable-requires
unreachable-requires c =
    has_follower c.args.pos.now c.wide-pos.ensures.fits (not_greatest c.args.pos.now c.args.later.now c.wide-pos.ensures.fits c.wide.ensures.fits c.requires)
    (ap next_pos (sym c.wide-pos.ensures.same) ∙ sym c.next.ensures ∙ c.in-None.is)
