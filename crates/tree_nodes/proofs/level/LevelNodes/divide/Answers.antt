use Rattle.std.proofs.Common.{sym, subst}
use Rattle.tree_nodes.specs.Levels.{EndsAt}
use Rattle.tree_nodes.specs.RowLaws.{ends-stay, value-later}
use Rattle.tree_nodes.proofs.level.LevelNodes.divide.Goals as goal

pub replace-requires : goal.replace-requires
replace-requires c =
    subst (λ nodes. EndsAt nodes c.args.greatest.now) (sym c.in_ok-put.ensures.ok) (ends-stay c.args.at.now c.args.greatest.now c.args.first c.args.self.now c.requires.there)

pub returns-clause-before : goal.returns-clause-before
returns-clause-before c = rw (← value-later c.args.at.now c.args.greatest.now c.args.first c.args.self.now c.requires.before, ← c.in_ok-put.ensures.ok) c.replace.ensures.before
