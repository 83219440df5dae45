use Rattle.std.proofs.Common.{◌≡◌, ◌∙◌, ◌-◌, List, ap, subst, IfOk}
use Rattle.extent_ops.specs.Stretches.{outside}
use Rattle.extent_ops.specs.declared.stretches.Stretch.{Stretch}
use Rattle.extent_ops.proofs.Outside.{outside-drop}
use Rattle.extent_ops.proofs.cutting.parts_left.Goals as goal

-- What was skipped takes nothing from what is left.
pub returns : goal.returns
returns c = λ rise. subst (λ (all : List Stretch). IfOk c.outside.result (λ parts. parts ≡ all))
    (ap (outside c.saturating_sub-first.result c.args.end) c.split_at.ensures.back
    ∙ outside-drop c.saturating_sub-first.result c.args.end c.place_behind.result 0 c.args.stretches.now rise (c.place_behind.ensures.before rise)
    ∙ ap (λ first. outside first c.args.end c.args.stretches.now) (c.saturating_sub-first.ensures ∙ ap (λ n. c.args.end - n) c.blocks_of.ensures))
    c.outside.ensures
