use Rattle.std.proofs.Common.{arith}
use Rattle.std.proofs.lemmas.Grind.{common_steps}
use Rattle.key_codec.specs.Appending.{appending}
use Rattle.record_codec.proofs.SetLaws.{set_encoded}
use Rattle.record_codec.proofs.sets.put_set.Goals as goal

pub returns-clause-ok : goal.returns-clause-ok
returns-clause-ok c = grind (arith, common_steps, appending, set_encoded c.args.set.now)
