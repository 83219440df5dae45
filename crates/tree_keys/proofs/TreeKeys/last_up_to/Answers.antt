use Rattle.std.proofs.Common.{◌∙◌, ap}
use Rattle.std.specs.Map.Iter.{deref_pair}
use Rattle.node_mem.specs.Nodes.{last_of}
use Rattle.node_mem.specs.RangeLaws.{up_to-range}
use Rattle.vol_types.specs.LastLaws.{last_taken}
use Rattle.vol_types.specs.declared.positions.Pos.{Pos}
use Rattle.vol_types.specs.declared.values.Value.{Value}
use Rattle.tree_keys.proofs.TreeKeys.last_up_to.Goals as goal

pub returns : goal.returns
returns c =
    rw (← c.self.view_is)
    (last_taken (deref_pair {K = Pos} {X = Value}) c.range.result _ c.next_back.result c.next_back.ensures.steps ∙ ap last_of (c.range.ensures.between tt ∙ up_to-range c.args.pos.now c.self.inside.keys.entries))
