use Rattle.std.proofs.Common.{sym, subst}
use Rattle.btree_map.proofs.Carried.{kept_err, kept_ok}
use Rattle.btree_map.specs.NodeLaws.{trees-changed-or, trees-with_node}
use Rattle.btree_map.specs.Trees.{Trees, levels_in, with_levels}
use Rattle.tree_nodes.specs.Levels.{EndsAt, level_of, with_node}
use Rattle.btree_map.proofs.map.KeyMap.replace.Goals as goal

pub invariant_of-self : goal.invariant_of-self
invariant_of-self c =
    let old : Trees = record { keys = c.self.inside.keys.items; nodes = c.self.inside.nodes } in
    let name = c.args.name.now in
    let there = subst (λ (trees : Trees). EndsAt (level_of (levels_in trees name.btree) name.level) name.greatest) (sym c.self.view_is) c.requires.there in
    trees-changed-or c.replace.result old (with_levels name.btree (with_node name.level name.greatest c.args.fresh (levels_in old name.btree)) old) old.keys c.replace.new.self c.self.invariant (kept_ok c.replace.result old.keys) c.replace.ensures.ok
    (kept_err c.replace.result old.keys) c.replace.ensures.err (trees-with_node old name.btree name.level name.greatest c.args.fresh c.self.invariant there c.requires.node)
