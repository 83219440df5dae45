use Rattle.std.proofs.Common.{ap, ◌∙◌, ◌∷◌}
use Rattle.std.specs.Prelude.{option_copied}
use Rattle.script_text.specs.Lines.{words_in}
use Rattle.script_text.proofs.Behind.{if_none, one_more, words_cut}
use Rattle.script_text.proofs.arguments.three.Goals as goal

pub returns-in_err-second-clause-none : goal.returns-in_err-second-clause-none
returns-in_err-second-clause-none c =
    if_none c.from_residual-in_err-second.result c.from_residual-in_err-second.ensures
    (one_more (words_in (option_copied c.args.words)) c.cut_at.result.0.now (words_in (option_copied c.cut_at.result.1)) 2
    (words_cut c.args.words c.in_ok-words.field-0 c.cut_at.result.0.now (option_copied c.cut_at.result.1) c.in_ok-words.was c.cut_at.ensures) c.in_err-second.ensures.none)

pub returns-clause-found : goal.returns-clause-found
returns-clause-found c =
    words_cut c.args.words c.in_ok-words.field-0 c.cut_at.result.0.now (option_copied c.cut_at.result.1) c.in_ok-words.was c.cut_at.ensures
    ∙ ap (λ more. c.cut_at.result.0.now ∷ more) c.in_ok-second.ensures.found
