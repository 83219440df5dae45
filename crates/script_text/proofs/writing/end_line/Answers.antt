use Rattle.std.proofs.Common.{◌≡◌, ◌++◌, ap, ◌∙◌, append_assoc}
use Rattle.std.specs.Prelude.{string_bytes}
use Rattle.std.proofs.lemmas.Result.{on_ok_weaker}
use Rattle.script_text.specs.Replies.{end_line_of}
use Rattle.script_text.proofs.writing.end_line.Goals as goal

pub returns-clause-ok : goal.returns-clause-ok
unfolding end_line_of
returns-clause-ok c =
    let line : string_bytes c.in_ok-text.text ≡ end_line_of c.args.commits c.args.synced = c.in_ok-text.ensures.ok ∙ simp append_assoc in
    on_ok_weaker c.extend_from_slice.result (λ added. added ∙ ap (λ more. c.args.into.now ++ more) (c.as_bytes.ensures.value ∙ line)) c.extend_from_slice.ensures.ok
