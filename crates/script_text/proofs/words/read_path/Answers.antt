use Rattle.std.proofs.lemmas.Result.{err_from_is_err_and}
use Rattle.script_text.proofs.LineReading.{path_fault, sub_fault}
use Rattle.script_text.proofs.words.read_path.Goals as goal

pub returns-in_err-sub-in-Some-clause-err : goal.returns-in_err-sub-in-Some-clause-err
returns-in_err-sub-in-Some-clause-err c =
    let p = err_from_is_err_and c.from_residual.result c.from_residual.ensures.1 in
    rw (p.1, p.2) (sub_fault c.args.word.now c.in-Some.sub.now c.in-Some.names.now c.in-Some.ensures.found c.in_err-sub-in-Some.field-0.0 c.in_err-sub-in-Some.ensures.err)

pub returns-in_err-names-in-Some-clause-err : goal.returns-in_err-names-in-Some-clause-err
returns-in_err-names-in-Some-clause-err c =
    let p = err_from_is_err_and c.from_residual-in_err-names-in-Some.result c.from_residual-in_err-names-in-Some.ensures.1 in
    rw (p.1, p.2) (path_fault c.args.word.now c.in-Some.sub.now c.in-Some.names.now c.in-Some.ensures.found c.in_err-names-in-Some.field-0.0 c.in_err-names-in-Some.ensures.err)
