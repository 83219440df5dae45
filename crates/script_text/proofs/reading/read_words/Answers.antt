use Rattle.std.proofs.Common.{subst}
use Rattle.std.proofs.lemmas.Result.{err_from_is_err_and}
use Rattle.std.specs.Prelude.{option_copied}
use Rattle.script_text.specs.Grammar.{IsFor}
use Rattle.script_text.specs.Lines.{words_in, words_of}
use Rattle.script_text.proofs.LineReading.{a_verb, no_verb, words_fault, words_say}
use Rattle.script_text.proofs.reading.read_words.Goals as goal

pub returns-in_err-op-in-Some-of_word-clause-err : goal.returns-in_err-op-in-Some-of_word-clause-err
returns-in_err-op-in-Some-of_word-clause-err c =
    let rest : IsFor (words_of c.args.text.now) c.in_ok-client.client (words_of c.in-Some.rest.now) =
    subst (λ rest. IsFor (words_of c.args.text.now) c.in_ok-client.client (words_in (option_copied rest))) c.in-Some.is c.in_ok-client.ensures.ok in
    let has = a_verb c.args.text.now c.in_ok-client.client c.in-Some.rest.now c.cut_at.result.0.now (option_copied c.cut_at.result.1) rest c.cut_at.ensures
    c.in-Some-of_word.verb c.in-Some-of_word.ensures.found c.in-Some-of_word.ensures.supported in
    let p = err_from_is_err_and c.from_residual-in_err-op-in-Some-of_word.result c.from_residual-in_err-op-in-Some-of_word.ensures.1 in
    rw (p.1, p.2)
    (words_fault c.args.text.now c.in_ok-client.client c.in-Some-of_word.verb (words_in (option_copied c.cut_at.result.1)) has
    c.in_err-op-in-Some-of_word.field-0.0 c.in_err-op-in-Some-of_word.ensures.err)

pub returns-in_ok-op-in-Some-of_word-clause-ok : goal.returns-in_ok-op-in-Some-of_word-clause-ok
returns-in_ok-op-in-Some-of_word-clause-ok c =
    let rest : IsFor (words_of c.args.text.now) c.in_ok-client.client (words_of c.in-Some.rest.now) =
    subst (λ rest. IsFor (words_of c.args.text.now) c.in_ok-client.client (words_in (option_copied rest))) c.in-Some.is c.in_ok-client.ensures.ok in
    let has = a_verb c.args.text.now c.in_ok-client.client c.in-Some.rest.now c.cut_at.result.0.now (option_copied c.cut_at.result.1) rest c.cut_at.ensures
    c.in-Some-of_word.verb c.in-Some-of_word.ensures.found c.in-Some-of_word.ensures.supported in
    words_say c.args.text.now c.in_ok-client.client c.in-Some-of_word.verb (words_in (option_copied c.cut_at.result.1)) has
    c.in_ok-op-in-Some-of_word.op c.in_ok-op-in-Some-of_word.ensures.ok

pub returns-in-None-of_word-clause-err : goal.returns-in-None-of_word-clause-err
returns-in-None-of_word-clause-err c =
    let rest : IsFor (words_of c.args.text.now) c.in_ok-client.client (words_of c.in-Some.rest.now) =
    subst (λ rest. IsFor (words_of c.args.text.now) c.in_ok-client.client (words_in (option_copied rest))) c.in-Some.is c.in_ok-client.ensures.ok in
    no_verb c.args.text.now c.in_ok-client.client c.in-Some.rest.now c.cut_at.result.0.now (option_copied c.cut_at.result.1) rest c.cut_at.ensures c.in-None-of_word.ensures.none
