use Rattle.std.proofs.Common.{Some, None, Bool, cond, ap, sym, ◌∙◌, arith}
use Rattle.std.proofs.lemmas.Option.{none-some as none_some}
use Rattle.btree_map.proofs.Bearing.{leaf_there}
use Rattle.btree_map.specs.Trees.{cut_in, levels_in}
use Rattle.tree_keys.specs.Counts.{leaf_size}
use Rattle.tree_nodes.specs.TreeLaws.{level-there}
use Rattle.btree_map.proofs.map.KeyMap.node_size.Goals as goal

pub upper_size-requires-clause-there : goal.upper_size-requires-clause-there
upper_size-requires-clause-there c = let name = c.args.name.now in level-there (levels_in c.args.self.now name.btree) name.level name.greatest c.requires

pub unreachable-requires : goal.unreachable-requires
unreachable-requires c =
    let name = c.args.name.now in
    let trees = c.args.self.now in
    none_some (leaf_size name.greatest (cut_in trees name.btree))
    (sym c.in-None.is ∙ c.leaf_size.ensures ∙ ap (λ (b : Bool). cond b (Some (leaf_size name.greatest (cut_in trees name.btree))) None) (leaf_there trees name c.height.ensures.sound (omega (arith, c.if-name-gt0.false)) c.requires))
