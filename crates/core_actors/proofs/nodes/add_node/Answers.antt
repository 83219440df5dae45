use Rattle.std.proofs.Common.{◌≡◌, ◌++◌, ◌∙◌, Some, sym, ap, subst}
use Rattle.btree_map.specs.Trees.{levels_in}
use Rattle.tree_nodes.specs.Levels.{level_of, node_at}
use Rattle.vol_types.specs.Positions.{next_pos}
use Rattle.vol_types.specs.declared.pointers.NodePtr.{NodePtr}
use Rattle.vol_types.specs.declared.positions.Pos.{Pos}
use Rattle.core_actors.proofs.Walking.{added, fewer}
use Rattle.core_actors.proofs.nodes.add_node.Goals as goal

pub returns-clause-added : goal.returns-clause-added
returns-clause-added c =
    let nodes = level_of (levels_in c.args.map.now c.args.btree) c.args.level in
    let node : Pos × NodePtr = (c.in-Some.greatest.now, c.in-Some.node.now) in
    added c.args.pos.now nodes node c.next.result c.requires.sound.row c.wide-greatest.ensures.fits
    (subst (λ p. node_at p nodes ≡ Some node) c.wide-pos.ensures.same (sym c.in-Some.ensures.found))
    (c.next.ensures ∙ ap next_pos c.wide-greatest.ensures.same)
    c.args.places.now c.extend_from_slice.new.self (c.in_ok-extend_from_slice.ensures.ok ∙ ap (λ xs. c.args.places.now ++ xs) c.as_slice.ensures)

pub returns-clause-fewer : goal.returns-clause-fewer
returns-clause-fewer c =
    let nodes = level_of (levels_in c.args.map.now c.args.btree) c.args.level in
    let node : Pos × NodePtr = (c.in-Some.greatest.now, c.in-Some.node.now) in
    fewer c.args.pos.now nodes node c.next.result c.requires.sound.row c.wide-greatest.ensures.fits
    (subst (λ p. node_at p nodes ≡ Some node) c.wide-pos.ensures.same (sym c.in-Some.ensures.found))
    (c.next.ensures ∙ ap next_pos c.wide-greatest.ensures.same)
