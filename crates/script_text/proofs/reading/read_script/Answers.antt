use Rattle.std.proofs.Common.{◌≡◌, ◌+◌, ◌∙◌, false, true, sym, subst}
use Rattle.std.proofs.lemmas.Result.{err_from_is_err_and}
use Rattle.script_text.specs.Lines.{is_skipped}
use Rattle.script_text.proofs.OneScript.{IsReadTo, read_no_further, read_on, skip_on}
use Rattle.script_text.proofs.reading.read_script.Goals as goal

pub loop-rest-preserved-in_ok-push : goal.loop-rest-preserved-in_ok-push
loop-rest-preserved-in_ok-push c =
    let says : is_skipped c.cut_line.result.0.now ≡ false = sym c.is_line_skipped.ensures ∙ c.if-not-is_line_skipped.true in
    subst (IsReadTo c.args.text.now c.cut_line.result.1.now (c.loop-rest.number + 1)) (sym c.in_ok-push.ensures.ok)
    (read_on c.args.text.now c.loop-rest.rest.now c.loop-rest.number c.loop-rest.script c.loop-rest.invariant c.cut_line.result.0.now c.cut_line.result.1.now c.in_ok-read_line.field-0
    c.cut_line.ensures.lines c.cut_line.ensures.shorter says c.in_ok-read_line.ensures.ok)

pub loop-rest-preserved : goal.loop-rest-preserved
loop-rest-preserved c =
    let skipped : is_skipped c.cut_line.result.0.now ≡ true = sym c.is_line_skipped.ensures ∙ c.if-not-is_line_skipped.false in
    skip_on c.args.text.now c.loop-rest.rest.now c.loop-rest.number c.loop-rest.script c.loop-rest.invariant c.cut_line.result.0.now c.cut_line.result.1.now
    c.cut_line.ensures.lines c.cut_line.ensures.shorter skipped

pub returns-in_err-read_line-clause-err : goal.returns-in_err-read_line-clause-err
returns-in_err-read_line-clause-err c =
    let says : is_skipped c.cut_line.result.0.now ≡ false = sym c.is_line_skipped.ensures ∙ c.if-not-is_line_skipped.true in
    let p = err_from_is_err_and c.from_residual.result c.from_residual.ensures.1 in
    rw (p.1, p.2)
    (read_no_further c.args.text.now c.loop-rest.rest.now c.loop-rest.number c.loop-rest.script c.loop-rest.invariant c.cut_line.result.0.now c.cut_line.result.1.now
    c.in_err-read_line.field-0.0 c.cut_line.ensures.lines says c.in_err-read_line.ensures.err)
