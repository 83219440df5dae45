use Rattle.std.proofs.Common.{◌≡◌, ◌++◌, ap, ◌∙◌, append_assoc}
use Rattle.std.specs.Prelude.{string_bytes}
use Rattle.std.proofs.lemmas.Result.{on_ok_weaker}
use Rattle.vol_info.specs.Lines.{ids_line}
use Rattle.vol_info.proofs.text.add_ids.Goals as goal

pub returns : goal.returns
unfolding ids_line
returns c =
    let line : string_bytes c.in_ok-line.line ≡ ids_line c.args.facts.now = c.in_ok-line.ensures.ok ∙ simp append_assoc in
    on_ok_weaker c.add_line.result (λ added. added ∙ ap (λ more. c.args.text.now ++ more) line) c.add_line.ensures
