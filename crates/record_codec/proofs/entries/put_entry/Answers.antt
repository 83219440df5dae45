use Rattle.std.proofs.Common.{arith}
use Rattle.std.proofs.lemmas.Grind.{common_steps}
use Rattle.key_codec.specs.Appending.{appending}
use Rattle.record_codec.proofs.EntryLaws.{entry_encoded}
use Rattle.record_codec.proofs.entries.put_entry.Goals as goal

pub returns-clause-ok : goal.returns-clause-ok
returns-clause-ok c = grind (arith, common_steps, appending, entry_encoded c.args.entry.now)
