use Rattle.std.specs.Map.Iter.{deref}
use Rattle.std.proofs.lemmas.Map.Iter.{rest_more}
use Rattle.vol_types.specs.PositionLaws.{pos_total}
use Rattle.vol_types.specs.declared.positions.Pos.{Pos}
use Rattle.vol_types.specs.CopyLaws.{copy_key_more}
use Rattle.node_mem.proofs.positions.positions_of.Goals as goal

pub loop-pos-preserved : goal.loop-pos-preserved
loop-pos-preserved c =
    copy_key_more pos_total c.in-Some.pos.now c.next.new.self c.loop-pos.positions.keys c.insert.new.self.keys c.loop-pos.pos-iterator _ c.loop-pos.invariant (rest_more (deref {X = Pos}) _ _ _ _ c.in-Some.is c.next.ensures.steps) c.keys-pos-items.ensures.ordered c.in_ok-insert.ensures.keys
