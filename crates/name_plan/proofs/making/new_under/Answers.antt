-- With a number the new inode gets it, and without one it is refused.
use Rattle.std.proofs.Common.{◌∙◌, ap, sym}
use Rattle.name_plan.specs.New.{inode_drawn, spent_out}
use Rattle.path_plan.specs.LookLaws.{carried, gave_before}
use Rattle.name_plan.proofs.making.new_under.Goals as goal

pub returns-in-Drawn-clause-made : goal.returns-in-Drawn-clause-made
returns-in-Drawn-clause-made g c = carried c.numbered.result _ _
    (λ result holds keys seen.
    let a = c.args in
    let before = gave_before keys (g.V.View.made c.next_number.new.view) (g.V.View.made c.numbered.new.view) c.numbered.ensures.looks seen.gives in
    holds keys seen ∙ ap (inode_drawn a.kind keys a.id a.directory a.name.now) (sym c.in-Drawn.is ∙ c.in_ok-number.ensures.draw keys before))
    c.numbered.ensures.made

pub returns-in_ok-step-in-Spent-clause-made : goal.returns-in_ok-step-in-Spent-clause-made
returns-in_ok-step-in-Spent-clause-made g c = λ keys seen.
    let a = c.args in
    let before = gave_before keys (g.V.View.made c.next_number.new.view) (g.V.View.made c.add.new.view) c.in_ok-step-in-Spent.ensures.looks seen.gives in
    c.spent.ensures ∙ ap spent_out (c.in_ok-step-in-Spent.ensures.step keys seen)
    ∙ ap (inode_drawn a.kind keys a.id a.directory a.name.now) (sym c.in-Spent.is ∙ c.in_ok-number.ensures.draw keys before)
