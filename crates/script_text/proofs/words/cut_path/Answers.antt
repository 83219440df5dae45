use Rattle.std.proofs.Common.{subst}
use Rattle.std.specs.Prelude.{option_copied}
use Rattle.script_text.specs.Lines.{IsCut}
use Rattle.script_text.proofs.Behind.{if_none}
use Rattle.script_text.proofs.PathCuts.{no_slash}
use Rattle.script_text.proofs.words.cut_path.Goals as goal

pub returns-in_err-names-clause-none : goal.returns-in_err-names-clause-none
returns-in_err-names-clause-none c =
    if_none c.from_residual-in_err-names.result c.from_residual-in_err-names.ensures
    (no_slash c.args.word.now c.cut_at.result.0.now c.in_ok-rest.field-0.now
    (subst (λ rest. IsCut 58 c.args.word.now c.cut_at.result.0.now (option_copied rest)) c.in_ok-rest.was c.cut_at.ensures) c.in_err-names.ensures.none)
