use Rattle.std.proofs.Common.{sym, subst, [], ◌∷◌}
use Rattle.std.specs.Prelude.{option_copied}
use Rattle.script_text.specs.Faults.{IsFaultBehind}
use Rattle.script_text.specs.Lines.{words_in}
use Rattle.script_text.specs.declared.reading.LineFault.TheVariants.{BadArgs}
use Rattle.script_text.proofs.Behind.{never_none}
use Rattle.script_text.proofs.arguments.read_none.Goals as goal

pub returns-in-Some-clause-err : goal.returns-in-Some-clause-err
returns-in-Some-clause-err c = subst (λ words. IsFaultBehind ([] ∷ []) (words_in (option_copied words)) BadArgs) (sym c.in-Some.is) (never_none c.in-Some.field-0.now)
