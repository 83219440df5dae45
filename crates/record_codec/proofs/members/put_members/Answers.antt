use Rattle.std.proofs.Common.{arith, subst}
use Rattle.std.proofs.lemmas.Grind.{common_steps}
use Rattle.std.proofs.lemmas.List.Elements.{All-more}
use Rattle.key_codec.specs.Appending.{appending}
use Rattle.record_codec.proofs.members.put_members.Goals as goal

pub loop-member-preserved : goal.loop-member-preserved
loop-member-preserved g c = record {
  written = grind (arith, common_steps, appending);
  width = All-more g.T.Written.Fits c.args.members.now c.loop-member.member-index c.member-item.result c.loop-member-test.true c.loop-member.invariant.width (subst (λ member. g.T.Written.Fits member) c.member-item.is c.in_ok-put.ensures.width);
}
