use Rattle.std.proofs.Common.{ℕ, ◌+◌, ◌-◌, ◌<◌, [], length, sym, subst, arith}
use Rattle.std.specs.Prelude.{slice_index_or}
use Rattle.btree_map.proofs.Carried.{carried}
use Rattle.btree_map.specs.NodeLaws.{apart-divided, before-greatest, trees-changed-or, trees-divided}
use Rattle.btree_map.specs.Trees.{Trees, levels_in, with_divided}
use Rattle.tree_nodes.specs.Levels.{Covers, EndsAt, divided, level_of}
use Rattle.vol_types.specs.Btrees.{btree_code}
use Rattle.vol_types.specs.Positions.{IsBefore}
use Rattle.vol_types.specs.Widths.{PosFits}
use Rattle.vol_types.specs.declared.positions.Pos.{Pos}
use Rattle.btree_map.proofs.map.KeyMap.divide.Goals as goal

pub divide_node-requires-clause-inner : goal.divide_node-requires-clause-inner
divide_node-requires-clause-inner c =
    let old : Trees = record { keys = c.self.inside.keys.items; nodes = c.self.inside.nodes } in
    let name = c.args.name.now in
    let at = c.wide-at.result in
    let fits = subst PosFits (sym c.wide-at.ensures.same) c.wide-at.ensures.fits in
    let below : name.level + 1 < length (levels_in old name.btree) = carried (λ (trees : Trees) (p : Pos). name.level + 1 < length (levels_in trees name.btree)) c.args.self.now old c.args.at.now at c.self.view_is c.wide-at.ensures.same c.requires.below in
    let covers : Covers (level_of (levels_in old name.btree) name.level) name.greatest at = carried (λ (trees : Trees) (p : Pos). Covers (level_of (levels_in trees name.btree) name.level) name.greatest p) c.args.self.now old c.args.at.now at c.self.view_is c.wide-at.ensures.same c.requires.covered in
    let before : IsBefore at name.greatest = carried (λ (trees : Trees) (p : Pos). IsBefore p name.greatest) c.args.self.now old c.args.at.now at c.self.view_is c.wide-at.ensures.same c.requires.before in
    before-greatest old name.btree name.level name.greatest at c.self.invariant (omega (arith, below)) covers before fits

pub divide_node-requires-clause-apart : goal.divide_node-requires-clause-apart
divide_node-requires-clause-apart c leaf =
    let old : Trees = record { keys = c.self.inside.keys.items; nodes = c.self.inside.nodes } in
    let name = c.args.name.now in
    let at = c.wide-at.result in
    let fits = subst PosFits (sym c.wide-at.ensures.same) c.wide-at.ensures.fits in
    let below : name.level + 1 < length (levels_in old name.btree) = carried (λ (trees : Trees) (p : Pos). name.level + 1 < length (levels_in trees name.btree)) c.args.self.now old c.args.at.now at c.self.view_is c.wide-at.ensures.same c.requires.below in
    let covers : Covers (level_of (levels_in old name.btree) name.level) name.greatest at = carried (λ (trees : Trees) (p : Pos). Covers (level_of (levels_in trees name.btree) name.level) name.greatest p) c.args.self.now old c.args.at.now at c.self.view_is c.wide-at.ensures.same c.requires.covered in
    let before : IsBefore at name.greatest = carried (λ (trees : Trees) (p : Pos). IsBefore p name.greatest) c.args.self.now old c.args.at.now at c.self.view_is c.wide-at.ensures.same c.requires.before in
    apart-divided old name.btree name.level name.greatest at c.self.invariant (omega (arith, below)) covers before fits leaf

pub invariant_of-self : goal.invariant_of-self
invariant_of-self c =
    let old : Trees = record { keys = c.self.inside.keys.items; nodes = c.self.inside.nodes } in
    let name = c.args.name.now in
    let at = c.wide-at.result in
    let fits = subst PosFits (sym c.wide-at.ensures.same) c.wide-at.ensures.fits in
    let below : name.level + 1 < length (levels_in old name.btree) = carried (λ (trees : Trees) (p : Pos). name.level + 1 < length (levels_in trees name.btree)) c.args.self.now old c.args.at.now at c.self.view_is c.wide-at.ensures.same c.requires.below in
    let covers : Covers (level_of (levels_in old name.btree) name.level) name.greatest at = carried (λ (trees : Trees) (p : Pos). Covers (level_of (levels_in trees name.btree) name.level) name.greatest p) c.args.self.now old c.args.at.now at c.self.view_is c.wide-at.ensures.same c.requires.covered in
    let before : IsBefore at name.greatest = carried (λ (trees : Trees) (p : Pos). IsBefore p name.greatest) c.args.self.now old c.args.at.now at c.self.view_is c.wide-at.ensures.same c.requires.before in
    let child : 0 < name.level → EndsAt (level_of (levels_in old name.btree) (name.level - 1)) at = carried (λ (trees : Trees) (p : Pos). 0 < name.level → EndsAt (level_of (levels_in trees name.btree) (name.level - 1)) p) c.args.self.now old c.args.at.now at c.self.view_is c.wide-at.ensures.same c.requires.child in
    let levels = λ (n : ℕ). divided name.level name.greatest at c.args.first c.args.second (slice_index_or old.nodes n []) in
    trees-changed-or c.divide_node.result old (with_divided name.btree name.level at (levels (btree_code name.btree)) old) c.divide_node.new.keys.items c.divide_node.new.nodes c.self.invariant c.divide_node.ensures.keys c.divide_node.ensures.nodes c.divide_node.ensures.err_keys c.divide_node.ensures.err_nodes
    (trees-divided old name.btree name.level name.greatest at c.self.invariant (omega (arith, below)) covers before fits c.args.first c.args.second below child c.requires.first c.requires.second)
