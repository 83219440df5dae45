use Rattle.std.specs.Prelude.{option_copied}
use Rattle.script_text.proofs.PathCuts.{for_first, for_named, for_none}
use Rattle.script_text.proofs.client.read_client.Goals as goal

pub returns-in-Some-client_of-clause-ok : goal.returns-in-Some-client_of-clause-ok
returns-in-Some-client_of-clause-ok c =
    for_named c.args.line.now c.cut_at.result.0.now (option_copied c.cut_at.result.1) c.cut_at.ensures c.in-Some.number.now c.in-Some.ensures.found
    c.in-Some-client_of.client c.in-Some-client_of.ensures.found.0 c.in-Some-client_of.ensures.found.1

pub returns-in-None-client_of-clause-err : goal.returns-in-None-client_of-clause-err
returns-in-None-client_of-clause-err c =
    for_none c.args.line.now c.cut_at.result.0.now (option_copied c.cut_at.result.1) c.cut_at.ensures c.in-Some.number.now c.in-Some.ensures.found c.in-None-client_of.ensures.none

pub returns-in-None-clause-ok : goal.returns-in-None-clause-ok
returns-in-None-clause-ok c = for_first c.args.line.now c.cut_at.result.0.now (option_copied c.cut_at.result.1) c.cut_at.ensures c.in-None.ensures.none
