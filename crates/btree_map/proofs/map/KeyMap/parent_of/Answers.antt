use Rattle.std.proofs.Common.{◌≡◌, Some, ap, subst, sym, ◌∙◌}
use Rattle.birth_index.specs.Births.{birth_of}
use Rattle.btree_map.specs.Births.{parent_birth}
use Rattle.btree_map.specs.Trees.{Trees}
use Rattle.btree_map.proofs.map.KeyMap.parent_of.Goals as goal

pub returns-in-Some-clause-each : goal.returns-in-Some-clause-each
returns-in-Some-clause-each c name has =
    let one = c.in-Some.ensures.differ name c.in-Some.name.now c.args.birth (subst (λ (trees : Trees). birth_of trees.nodes name ≡ Some c.args.birth) (sym c.self.view_is) has) c.in-Some.ensures.some in
    c.above.ensures ∙ ap (parent_birth c.args.self.now.nodes) (sym one)
