use Rattle.std.proofs.Common.{◌∷◌, subst, sym, ap, ◌∙◌}
use Rattle.std.specs.Prelude.{option_copied}
use Rattle.script_text.specs.Lines.{IsCut, lines_of}
use Rattle.script_text.proofs.TextCuts.{cut_lines, last_line}
use Rattle.script_text.proofs.cuts.cut_line.Goals as goal

pub returns-in-Some-clause-lines : goal.returns-in-Some-clause-lines
returns-in-Some-clause-lines c =
    cut_lines c.args.text.now c.cut_at.result.0.now c.in-Some.rest.now (subst (λ rest. IsCut 10 c.args.text.now c.cut_at.result.0.now (option_copied rest)) c.in-Some.is c.cut_at.ensures)

pub returns-in-None-clause-lines : goal.returns-in-None-clause-lines
returns-in-None-clause-lines c =
    last_line c.args.text.now c.cut_at.result.0.now c.requires (subst (λ rest. IsCut 10 c.args.text.now c.cut_at.result.0.now (option_copied rest)) c.in-None.is c.cut_at.ensures)
    ∙ ap (λ rest. c.cut_at.result.0.now ∷ lines_of rest) (sym c.as_slice.ensures)
