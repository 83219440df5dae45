use Rattle.std.proofs.Common.{◌≡◌, List, subst}
use Rattle.std.specs.Prelude.{OnOk}
use Rattle.btree_map.proofs.Updating.{trees-after}
use Rattle.btree_map.specs.Trees.{Trees, keys_in, keys_of_cuts}
use Rattle.vol_types.specs.KeyMaps.{with_updates}
use Rattle.vol_types.specs.declared.keys.Update.{Update}
use Rattle.btree_map.proofs.map.KeyMap.apply.Goals as goal

pub invariant_of-self : goal.invariant_of-self
invariant_of-self c =
    let old : Trees = record { keys = c.self.inside.keys.items; nodes = c.self.inside.nodes } in
    let updates = c.args.updates.now in
    let after = subst (λ (us : List Update). OnOk c.apply.result (keys_of_cuts c.apply.new.keys.items ≡ with_updates us (keys_in old))) c.as_slice.ensures c.apply.ensures.keys in
    trees-after c.apply.result old c.apply.new.keys.items updates c.self.invariant c.requires c.apply.ensures.sound c.apply.ensures.leaves after c.apply.ensures.err
