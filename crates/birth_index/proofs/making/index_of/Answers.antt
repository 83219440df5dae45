use Rattle.std.proofs.Common.{take, arith}
use Rattle.std.proofs.lemmas.Result.{err_from_is_err_and}
use Rattle.birth_index.specs.Births.{birth_of}
use Rattle.birth_index.proofs.Growing.{births_all, births_more, births_refused, got, tree_none}
use Rattle.birth_index.proofs.making.index_of.Goals as goal

pub loop-code-preserved : goal.loop-code-preserved
loop-code-preserved c =
    let nodes = c.args.nodes.now in
    births_more nodes c.in-Some.btree c.loop-code.code c.in-Some.ensures.found c.add_tree.new.names.entries c.in-Some-get.tree.now (got nodes c.loop-code.code c.from.result c.in-Some-get.tree.now c.from.ensures c.in-Some-get.ensures.lookup.3.0 c.in-Some-get.ensures.lookup.1)
    (c.in_ok-add_tree.ensures.ok (birth_of (take c.loop-code.code nodes)) c.loop-code.invariant (tree_none nodes c.in-Some.btree c.loop-code.code c.in-Some.ensures.found))

pub returns-in_err-add_tree-clause-err : goal.returns-in_err-add_tree-clause-err
returns-in_err-add_tree-clause-err c =
    let nodes = c.args.nodes.now in
    let p = err_from_is_err_and c.from_residual.result c.from_residual.ensures.1 in
    rw (p.1, p.2) (births_refused nodes c.in-Some.btree c.loop-code.code c.in-Some.ensures.found c.in-Some-get.tree.now c.in_err-add_tree.field-0.0 (got nodes c.loop-code.code c.from.result c.in-Some-get.tree.now c.from.ensures c.in-Some-get.ensures.lookup.3.0 c.in-Some-get.ensures.lookup.1)
    (c.in_err-add_tree.ensures.err (birth_of (take c.loop-code.code nodes)) c.loop-code.invariant (tree_none nodes c.in-Some.btree c.loop-code.code c.in-Some.ensures.found)))

pub returns-clause-ok : goal.returns-clause-ok
returns-clause-ok c = births_all c.loop-code.names.entries c.args.nodes.now c.loop-code.code (omega (arith, c.loop-code-test.false)) c.loop-code.invariant
