use Rattle.std.specs.Map.Iter.{deref_pair}
use Rattle.std.proofs.lemmas.Map.Iter.{rest_more}
use Rattle.std.proofs.lemmas.Result.{err_from_is_err_and}
use Rattle.birth_index.proofs.Adding.{adding_more, adding_refused}
use Rattle.vol_types.specs.declared.pointers.NodePtr.{NodePtr}
use Rattle.vol_types.specs.declared.positions.Pos.{Pos}
use Rattle.birth_index.proofs.making.add_level.Goals as goal

pub loop-greatest-preserved : goal.loop-greatest-preserved
loop-greatest-preserved c =
    adding_more c.args.names.now.entries c.loop-greatest.names.entries c.args.btree c.args.level c.args.nodes.now c.loop-greatest.greatest-iterator c.next.new.self c.requires c.loop-greatest.invariant c.in-Some.greatest.now c.in-Some.node.now
    (rest_more (deref_pair {K = Pos} {X = NodePtr}) _ _ _ _ c.in-Some.is c.next.ensures.steps) c.add.new.names.entries c.in_ok-add.ensures.ok c.in_ok-add.ensures.new

pub returns-in_err-add-clause-err : goal.returns-in_err-add-clause-err
returns-in_err-add-clause-err c =
    let p = err_from_is_err_and c.from_residual.result c.from_residual.ensures.1 in
    rw (p.1, p.2) (adding_refused c.args.names.now.entries c.loop-greatest.names.entries c.args.btree c.args.level c.args.nodes.now c.loop-greatest.greatest-iterator c.next.new.self c.requires c.loop-greatest.invariant c.in-Some.greatest.now c.in-Some.node.now
    (rest_more (deref_pair {K = Pos} {X = NodePtr}) _ _ _ _ c.in-Some.is c.next.ensures.steps) c.in_err-add.field-0.0 c.in_err-add.ensures.err)
