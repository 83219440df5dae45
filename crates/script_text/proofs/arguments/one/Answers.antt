use Rattle.std.proofs.Common.{ap, ◌∙◌, ◌∷◌}
use Rattle.std.specs.Prelude.{option_copied}
use Rattle.script_text.specs.Lines.{words_in}
use Rattle.script_text.proofs.Behind.{one_more, some_words, words_cut}
use Rattle.script_text.proofs.arguments.one.Goals as goal

pub returns-in-None-clause-found : goal.returns-in-None-clause-found
returns-in-None-clause-found c =
    words_cut c.args.words c.in_ok-words.field-0 c.cut_at.result.0.now (option_copied c.cut_at.result.1) c.in_ok-words.was c.cut_at.ensures
    ∙ ap (λ more. c.cut_at.result.0.now ∷ words_in (option_copied more)) c.in-None.is

pub returns-in-Some-clause-none : goal.returns-in-Some-clause-none
returns-in-Some-clause-none c =
    one_more (words_in (option_copied c.args.words)) c.cut_at.result.0.now (words_in (option_copied c.cut_at.result.1)) 0
    (words_cut c.args.words c.in_ok-words.field-0 c.cut_at.result.0.now (option_copied c.cut_at.result.1) c.in_ok-words.was c.cut_at.ensures)
    (some_words (option_copied c.cut_at.result.1) c.in-Some.field-0.now (ap (λ more. option_copied more) c.in-Some.is))
