use Rattle.std.proofs.Common.{refl, sym, subst}
use Rattle.script_text.proofs.NameReading.{IsNameTo, name_breaks, name_ends, name_goes_on, none_left, some_left}
use Rattle.script_text.proofs.names.read_name.Goals as goal

pub loop-rest-preserved : goal.loop-rest-preserved
loop-rest-preserved c =
    subst (IsNameTo c.args.word.now c.in-Some.later.now) (sym c.in_ok-push-in-Some.ensures.ok)
    (name_goes_on c.args.word.now c.loop-rest.rest.now c.loop-rest.name c.loop-rest.invariant c.in-Some.byte c.in-Some.later.now c.in-Some.ensures.found)

pub returns-in-None-clause-err : goal.returns-in-None-clause-err
returns-in-None-clause-err c = (name_breaks c.args.word.now c.loop-rest.rest.now c.loop-rest.name c.loop-rest.invariant (some_left c.loop-rest.rest.now c.is_empty.result c.is_empty.ensures c.loop-rest-test.true) c.in-None.ensures.none, refl)

pub returns-clause-ok : goal.returns-clause-ok
returns-clause-ok c = name_ends c.args.word.now c.loop-rest.rest.now c.loop-rest.name c.loop-rest.invariant (none_left c.loop-rest.rest.now c.is_empty.result c.is_empty.ensures c.loop-rest-test.false)
