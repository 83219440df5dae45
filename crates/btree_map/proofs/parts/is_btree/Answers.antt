use Rattle.btree_map.proofs.parts.is_btree.Goals as goal

pub returns : goal.returns
returns c = (
  λ may. record { keys = c.see_both.ensures.keys; nodes = c.see_both.ensures.nodes; leaves = c.do_meet.ensures.0 c.if-not-do_meet.false; stand = c.may_stand.ensures.0 may },
  λ is. c.may_stand.ensures.1 is.stand,
)
