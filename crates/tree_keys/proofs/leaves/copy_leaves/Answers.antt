use Rattle.std.proofs.Common.{ℕ}
use Rattle.std.specs.Map.Iter.{deref_pair}
use Rattle.std.proofs.lemmas.Map.Iter.{rest_more}
use Rattle.vol_types.specs.CopyLaws.{copy_more}
use Rattle.vol_types.specs.PositionLaws.{pos_total}
use Rattle.vol_types.specs.declared.positions.Pos.{Pos}
use Rattle.tree_keys.proofs.leaves.copy_leaves.Goals as goal

pub loop-end-preserved : goal.loop-end-preserved
loop-end-preserved c =
    copy_more pos_total c.in-Some.end.now c.in-Some.bytes.now c.next.new.self c.loop-end.copy.entries c.insert.new.self.entries c.loop-end.end-iterator c.args.leaves.now.entries c.loop-end.invariant
    (rest_more (deref_pair {K = Pos} {X = ℕ}) _ _ _ _ c.in-Some.is c.next.ensures.steps) c.iter-end-items.ensures.ordered c.in_ok-insert.ensures.entries
