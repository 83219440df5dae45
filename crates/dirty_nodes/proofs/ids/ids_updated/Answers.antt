use Rattle.std.proofs.Common.{◌≡◌, true, sym, ◌∙◌}
use Rattle.std.specs.List.{list_all}
use Rattle.dirty_nodes.proofs.Following.{all_fit, on_success, trees_follow}
use Rattle.dirty_nodes.specs.Ids.{is_placed}
use Rattle.dirty_nodes.proofs.ids.ids_updated.Goals as goal

pub returns-clause-made : goal.returns-clause-made
returns-clause-made c ok keys is was =
    let placed : list_all is_placed c.args.updates.now ≡ true = cc in
    trees_follow c.args.updates.now keys c.args.tree.now c.apply.new.self (sym c.is_empty.ensures ∙ c.if-is_empty.false) placed (all_fit c.args.updates.now c.requires placed)
    (on_success c.apply.result (sym c.is_ok.ensures.value ∙ ok) c.apply.ensures.ok) c.apply.ensures.sound.trees is was
