use Rattle.std.proofs.Common.{sym, ◌∙◌}
use Rattle.tree_keys.proofs.Looks.{last_leaf, no_leaf_before}
use Rattle.tree_keys.proofs.leaves.end_before.Goals as goal

pub returns-in-None : goal.returns-in-None
returns-in-None c = no_leaf_before c.args.pos.now c.args.leaves.now.entries (sym (c.range.ensures.between tt) ∙ (c.in-None.ensures.steps).0)

pub returns-in-Some : goal.returns-in-Some
returns-in-Some c = last_leaf c.args.pos.now c.args.leaves.now.entries c.next_back.new.self (c.in-Some.end.now, c.in-Some.field-0-1.now) (sym (c.range.ensures.between tt) ∙ c.in-Some.ensures.steps)
