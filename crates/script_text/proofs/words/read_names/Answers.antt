use Rattle.std.proofs.Common.{sym, subst}
use Rattle.std.proofs.lemmas.Result.{err_from_is_err_and}
use Rattle.std.specs.Prelude.{option_copied}
use Rattle.script_text.specs.Lines.{IsCut}
use Rattle.script_text.specs.Words.{SaysNames}
use Rattle.script_text.proofs.NameReading.{AreNamesTo, cut_shorter, names_begin, names_end, names_fault, names_go_on, some_left}
use Rattle.script_text.proofs.words.read_names.Goals as goal

pub loop-names-init : goal.loop-names-init
loop-names-init c = subst (AreNamesTo c.args.text.now c.args.text.now) (sym c.new-names.ensures) (names_begin c.args.text.now (some_left c.args.text.now c.is_empty.result c.is_empty.ensures c.if-is_empty.false))

pub returns-in_err-read_name-clause-err : goal.returns-in_err-read_name-clause-err
returns-in_err-read_name-clause-err c =
    let p = err_from_is_err_and c.from_residual.result c.from_residual.ensures.1 in
    rw (p.1, p.2)
    (names_fault c.args.text.now c.loop-names.rest.now c.loop-names.names c.loop-names.invariant c.cut_at.result.0.now (option_copied c.cut_at.result.1) c.cut_at.ensures
    c.in_err-read_name.field-0.0 c.in_err-read_name.ensures.err)

pub loop-names-preserved : goal.loop-names-preserved
loop-names-preserved c =
    let cut : IsCut 47 c.loop-names.rest.now c.cut_at.result.0.now (option_copied c.cut_at.result.1) = c.cut_at.ensures in
    subst (AreNamesTo c.args.text.now c.in-Some.later.now) (sym c.in_ok-push.ensures.ok)
    (names_go_on c.args.text.now c.loop-names.rest.now c.loop-names.names c.loop-names.invariant c.cut_at.result.0.now c.in-Some.later.now c.in_ok-read_name.field-0
    (subst (λ later. IsCut 47 c.loop-names.rest.now c.cut_at.result.0.now (option_copied later)) c.in-Some.is cut) c.in_ok-read_name.ensures.ok)

pub loop-names-smaller : goal.loop-names-smaller
loop-names-smaller c =
    cut_shorter 47 c.loop-names.rest.now c.cut_at.result.0.now c.in-Some.later.now
    (subst (λ later. IsCut 47 c.loop-names.rest.now c.cut_at.result.0.now (option_copied later)) c.in-Some.is c.cut_at.ensures)

pub returns-in-None-clause-ok : goal.returns-in-None-clause-ok
returns-in-None-clause-ok c =
    subst (SaysNames c.args.text.now) (sym c.in_ok-push.ensures.ok)
    (names_end c.args.text.now c.loop-names.rest.now c.loop-names.names c.loop-names.invariant c.cut_at.result.0.now c.in_ok-read_name.field-0
    (subst (λ later. IsCut 47 c.loop-names.rest.now c.cut_at.result.0.now (option_copied later)) c.in-None.is c.cut_at.ensures) c.in_ok-read_name.ensures.ok)
