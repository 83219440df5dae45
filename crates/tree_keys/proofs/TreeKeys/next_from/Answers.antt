use Rattle.std.proofs.Common.{◌∙◌, ap}
use Rattle.std.specs.Map.Iter.{deref_pair}
use Rattle.std.specs.Prelude.{slice_get}
use Rattle.tree_keys.proofs.Looks.{first_taken, from-range}
use Rattle.vol_types.specs.declared.positions.Pos.{Pos}
use Rattle.vol_types.specs.declared.values.Value.{Value}
use Rattle.tree_keys.proofs.TreeKeys.next_from.Goals as goal

pub returns : goal.returns
returns c =
    rw (← c.self.view_is)
    (first_taken (deref_pair {K = Pos} {X = Value}) c.range.result _ c.next.result c.next.ensures.steps ∙ ap (λ es. slice_get es 0) (c.range.ensures.between tt ∙ from-range c.args.pos.now c.self.inside.keys.entries))
