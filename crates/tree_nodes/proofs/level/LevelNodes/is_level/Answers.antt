use Rattle.std.proofs.Common.{sym, ◌∙◌}
use Rattle.tree_nodes.proofs.level.LevelNodes.is_level.Goals as goal

pub returns : goal.returns
returns c =
    rw (← c.self.view_is) (
      λ yes. record { row = c.self.invariant; ends = sym c.ends_at.ensures ∙ c.if-not-ends_at.false; each = c.are_nodes_of.ensures.0 yes },
      λ is. c.are_nodes_of.ensures.1 is.each,
    )
