use Rattle.std.proofs.Common.{ℕ, ◌-◌, ◌<◌, [], length, sym, subst}
use Rattle.std.specs.Prelude.{slice_index_or}
use Rattle.btree_map.proofs.Carried.{carried}
use Rattle.btree_map.specs.NodeLaws.{apart-rooted, trees-changed-or, trees-rooted}
use Rattle.btree_map.specs.Trees.{Trees, levels_in, with_divided, with_root}
use Rattle.tree_nodes.specs.Levels.{EndsAt, IsNodeOf, level_of}
use Rattle.vol_types.specs.Btrees.{btree_code}
use Rattle.vol_types.specs.Positions.{IsBefore, greatest_pos}
use Rattle.vol_types.specs.Widths.{PosFits}
use Rattle.vol_types.specs.declared.positions.Pos.{Pos}
use Rattle.btree_map.proofs.map.KeyMap.divide_root.Goals as goal

pub divide_top-requires-clause-apart : goal.divide_top-requires-clause-apart
divide_top-requires-clause-apart c one =
    let old : Trees = record { keys = c.self.inside.keys.items; nodes = c.self.inside.nodes } in
    let btree = c.args.btree in
    let at = c.wide-at.result in
    let before : IsBefore at greatest_pos = carried (λ (trees : Trees) (p : Pos). IsBefore p greatest_pos) c.args.self.now old c.args.at.now at c.self.view_is c.wide-at.ensures.same c.requires.before in
    apart-rooted old btree at c.self.invariant before one

pub invariant_of-self : goal.invariant_of-self
invariant_of-self c =
    let old : Trees = record { keys = c.self.inside.keys.items; nodes = c.self.inside.nodes } in
    let btree = c.args.btree in
    let at = c.wide-at.result in
    let before : IsBefore at greatest_pos = carried (λ (trees : Trees) (p : Pos). IsBefore p greatest_pos) c.args.self.now old c.args.at.now at c.self.view_is c.wide-at.ensures.same c.requires.before in
    let fits = subst PosFits (sym c.wide-at.ensures.same) c.wide-at.ensures.fits in
    let child : 1 < length (levels_in old btree) → EndsAt (level_of (levels_in old btree) (length (levels_in old btree) - 2)) at = carried (λ (trees : Trees) (p : Pos). 1 < length (levels_in trees btree) → EndsAt (level_of (levels_in trees btree) (length (levels_in trees btree) - 2)) p) c.args.self.now old c.args.at.now at c.self.view_is c.wide-at.ensures.same c.requires.child in
    let first = carried (λ (trees : Trees) (p : Pos). IsNodeOf (length (levels_in trees btree) - 1) c.args.first) c.args.self.now old c.args.at.now at c.self.view_is c.wide-at.ensures.same c.requires.first in
    let second = carried (λ (trees : Trees) (p : Pos). IsNodeOf (length (levels_in trees btree) - 1) c.args.second) c.args.self.now old c.args.at.now at c.self.view_is c.wide-at.ensures.same c.requires.second in
    let root = carried (λ (trees : Trees) (p : Pos). IsNodeOf (length (levels_in trees btree)) c.args.root) c.args.self.now old c.args.at.now at c.self.view_is c.wide-at.ensures.same c.requires.root in
    let levels = λ (n : ℕ). with_root c.args.root at c.args.first c.args.second (slice_index_or old.nodes n []) in
    trees-changed-or c.divide_top.result old (with_divided btree (length (levels_in old btree) - 1) at (levels (btree_code btree)) old) c.divide_top.new.keys.items c.divide_top.new.nodes c.self.invariant c.divide_top.ensures.keys c.divide_top.ensures.nodes c.divide_top.ensures.err_keys c.divide_top.ensures.err_nodes
    (trees-rooted old btree at c.self.invariant before c.args.first c.args.second c.args.root fits child first second root)
