use Rattle.std.proofs.Common.{sym, arith}
use Rattle.std.proofs.lemmas.Result.{err_from_is_err_and}
use Rattle.birth_index.proofs.Growing.{growing_all, growing_more, growing_refused}
use Rattle.birth_index.proofs.making.add_tree.Goals as goal

pub loop-level-preserved : goal.loop-level-preserved
loop-level-preserved c =
    growing_more c.args.names.now.entries c.loop-level.names.entries c.args.btree c.args.tree.now c.loop-level.level c.loop-level.invariant c.in-Some.nodes.now (sym c.in-Some.ensures.found) c.add_level.new.names.entries c.in_ok-add_level.ensures.ok

pub returns-in_err-add_level-clause-err : goal.returns-in_err-add_level-clause-err
returns-in_err-add_level-clause-err c =
    let p = err_from_is_err_and c.from_residual.result c.from_residual.ensures.1 in
    rw (p.1, p.2) (growing_refused c.args.names.now.entries c.loop-level.names.entries c.args.btree c.args.tree.now c.loop-level.level c.loop-level.invariant c.in-Some.nodes.now (sym c.in-Some.ensures.found) c.in_err-add_level.field-0.0 c.in_err-add_level.ensures.err)

pub returns-clause-ok : goal.returns-clause-ok
returns-clause-ok c = growing_all c.args.names.now.entries c.loop-level.names.entries c.args.btree c.args.tree.now c.loop-level.level c.loop-level.invariant (omega (arith, c.loop-level-test.false, c.height-level-end.ensures.exact))
