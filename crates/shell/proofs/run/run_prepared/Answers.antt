use Rattle.std.proofs.Common.{inl}
use Rattle.shell.proofs.run.run_prepared.Goals as goal

pub returns-in-Ok-clause-ran : goal.returns-in-Ok-clause-ran
returns-in-Ok-clause-ran g c = inl c.run_opened.ensures.ran
