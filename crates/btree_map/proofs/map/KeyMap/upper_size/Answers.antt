use Rattle.std.proofs.Common.{◌-◌, ◌<◌, length, ap, subst, sym, ◌∙◌, arith}
use Rattle.std.specs.Prelude.{All}
use Rattle.std.specs.Map.{values_of}
use Rattle.btree_map.proofs.Bearing.{kept_few, kept_values, level_found, level_missing, nodes_in_range}
use Rattle.tree_nodes.specs.Levels.{Level, Levels, children_of, least_of, level_of}
use Rattle.vol_types.specs.Positions.{is_within}
use Rattle.vol_types.specs.Ranges.{IsNode}
use Rattle.vol_types.specs.declared.pointers.NodePtr.{NodePtr}
use Rattle.vol_types.specs.declared.positions.Pos.{Pos}
use Rattle.btree_map.proofs.map.KeyMap.upper_size.Goals as goal

pub unreachable-requires : goal.unreachable-requires
unreachable-requires c =
    let name = c.args.name.now in
    level_missing c.nodes-nodes.result.now (name.level - 1) (sym c.in_default.ensures.found)
    (subst (λ (levels : Levels). name.level - 1 < length levels) (sym c.nodes-nodes.ensures) (omega (arith, c.requires.there, c.requires.above)))

pub children_size-requires-clause-few : goal.children_size-requires-clause-few
children_size-requires-clause-few c =
    let name = c.args.name.now in
    let levels = c.nodes-nodes.result.now in
    let below = c.in-Some.below.now in
    let found = level_found levels (name.level - 1) below (sym c.in-Some.ensures.found) in
    let are = c.children.ensures ∙ ap (children_of name.greatest (level_of levels name.level)) found in
    let few = kept_few (λ (child : Pos × NodePtr). is_within (least_of name.greatest (level_of levels name.level)) name.greatest child.0) below in
    omega (arith, ap (λ (es : Level). length es) are, few, c.len-count.ensures.exact, c.if-prove.false)

pub children_size-requires-clause-in_range : goal.children_size-requires-clause-in_range
children_size-requires-clause-in_range c =
    let name = c.args.name.now in
    let levels = c.nodes-nodes.result.now in
    let below = c.in-Some.below.now in
    let found = level_found levels (name.level - 1) below (sym c.in-Some.ensures.found) in
    let are = c.children.ensures ∙ ap (children_of name.greatest (level_of levels name.level)) found in
    subst (λ (es : Level). All IsNode (values_of es)) (sym are)
    (kept_values IsNode (λ (child : Pos × NodePtr). is_within (least_of name.greatest (level_of levels name.level)) name.greatest child.0) below (nodes_in_range (name.level - 1) (values_of below) c.in-Some.ensures.sound.each))
