use Rattle.std.proofs.Common.{sym, ◌∙◌}
use Rattle.std.proofs.lemmas.Bool.{true≢false}
use Rattle.tree_nodes.proofs.Looks.{read_nested}
use Rattle.tree_nodes.proofs.shape.are_nested.Goals as goal

pub returns-then-not-is_nested_in : goal.returns-then-not-is_nested_in
returns-then-not-is_nested_in c = (
  λ no. absurd (true≢false (sym no)),
  λ nested. sym c.if-not-is_nested_in.true ∙ c.is_nested_in.ensures.1 (read_nested c.args.levels.now c.loop-level.level c.index-levels-level.result c.index-levels-level-in-loop-level.result c.loop-level.auto.level c.loop-level-test.true c.index-levels-level.is c.index-levels-level-in-loop-level.is nested),
)
