use Rattle.std.proofs.Common.{◌≡◌, ◌++◌, ◌∙◌, subst}
use Rattle.std.specs.Prelude.{decimal}
use Rattle.std.proofs.lemmas.Result.{on_err_weaker}
use Rattle.text_io.specs.Streams.{GivesPrefix}
use Rattle.shell.proofs.EarlyEnds.{given_then}
use Rattle.shell.proofs.Preparing.{handed_on_err}
use Rattle.shell.proofs.Printing.{prefix_then, prefix_longer}
use Rattle.shell.proofs.early_end.give_number.Goals as goal

pub returns-in_err-give_all-2-clause-failed : goal.returns-in_err-give_all-2-clause-failed
returns-in_err-give_all-2-clause-failed g c tells =
    let K = g.K.Sink in
    let held = K.held c.args.sink.now in
    let mid = K.held c.give_all.new.sink in
    let new = K.held c.give_all-2.new.sink in
    let before = c.args.before.now in
    let digits = decimal c.args.number in
    let same : c.as_bytes.result.now ≡ digits = c.as_bytes.ensures.value ∙ c.format.ensures.text in
    let given : GivesPrefix digits mid new = subst (λ list. GivesPrefix list mid new) same (c.in_err-give_all-2.ensures.failed tells) in
    handed_on_err c.from_residual-in_err-give_all-2.result
    (prefix_longer (before ++ digits) c.args.after.now held new (prefix_then before digits held mid new (c.in_ok-give_all.ensures.ok tells) given))

pub returns-clause-failed : goal.returns-clause-failed
returns-clause-failed g c tells =
    let K = g.K.Sink in
    let held = K.held c.args.sink.now in
    let mid = K.held c.give_all-2.new.sink in
    let before = c.args.before.now in
    let digits = decimal c.args.number in
    let same : c.as_bytes.result.now ≡ digits = c.as_bytes.ensures.value ∙ c.format.ensures.text in
    let whole : mid ≡ held ++ (before ++ digits) =
    given_then held before digits c.as_bytes.result.now (K.held c.give_all.new.sink) mid (c.in_ok-give_all.ensures.ok tells) same (c.in_ok-give_all-2.ensures.ok tells) in
    on_err_weaker c.give_all-3.result (prefix_then (before ++ digits) c.args.after.now held mid (K.held c.give_all-3.new.sink) whole) (c.give_all-3.ensures.failed tells)
