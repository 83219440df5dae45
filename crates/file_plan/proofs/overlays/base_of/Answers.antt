use Rattle.std.proofs.Common.{◌∙◌, ap, []}
use Rattle.std.specs.Prelude.{unwrap_or}
use Rattle.file_plan.proofs.overlays.base_of.Goals as goal

pub returns-clause-shown : goal.returns-clause-shown
returns-clause-shown g c = λ keys read seen holds range left. c.bytes_or_none.ensures ∙ ap (λ o. unwrap_or o []) (c.in_ok-shown.ensures.bytes keys read seen holds range)
