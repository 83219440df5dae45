use Rattle.std.proofs.Common.{sym, ◌∙◌}
use Rattle.std.specs.Map.Iter.{deref_pair}
use Rattle.std.proofs.lemmas.Bool.{false≢true}
use Rattle.std.proofs.lemmas.Map.Iter.{rest_more}
use Rattle.btree_map.proofs.Meeting.{meeting_ends, meeting_more}
use Rattle.vol_types.specs.declared.pointers.NodePtr.{NodePtr}
use Rattle.vol_types.specs.declared.positions.Pos.{Pos}
use Rattle.btree_map.proofs.parts.have_same_ends.Goals as goal

pub returns-then-not-is_end : goal.returns-then-not-is_end
returns-then-not-is_end c = (
  λ yes. absurd (false≢true yes),
  λ whole. absurd (meeting_ends c.args.keys.now.ends c.loop-greatest.ends c.next-in-loop-greatest.new.self c.args.leaves.now c.loop-greatest.greatest-iterator c.loop-greatest.invariant c.next.new.self c.in-Some.greatest.now c.in-Some.field-0-1.now
      (rest_more (deref_pair {K = Pos} {X = NodePtr}) _ _ _ _ c.in-Some.is c.next.ensures.steps) c.next-in-loop-greatest.result c.next-in-loop-greatest.ensures.steps
      (λ same. false≢true (sym c.if-not-is_end.true ∙ c.is_end.ensures.1 same)) whole),
)

pub loop-greatest-preserved : goal.loop-greatest-preserved
loop-greatest-preserved c =
    meeting_more c.args.keys.now.ends c.loop-greatest.ends c.next-in-loop-greatest.new.self c.args.leaves.now c.loop-greatest.greatest-iterator c.loop-greatest.invariant c.next.new.self c.in-Some.greatest.now c.in-Some.field-0-1.now
    (rest_more (deref_pair {K = Pos} {X = NodePtr}) _ _ _ _ c.in-Some.is c.next.ensures.steps) c.next-in-loop-greatest.result c.next-in-loop-greatest.ensures.steps (c.is_end.ensures.0 c.if-not-is_end.false)
