use Rattle.std.proofs.Common.{List, true, false, sym, ap, ◌∙◌}
use Rattle.std.proofs.lemmas.List.{take_all}
use Rattle.btree_map.specs.Trees.{keys_in}
use Rattle.dirty_nodes.proofs.Records.{records_more, records_stand}
use Rattle.vol_types.specs.KeyMaps.{entries_of, with_updates}
use Rattle.vol_types.specs.declared.keys.Update.{Update}
use Rattle.vol_types.specs.declared.positions.Btree.TheVariants.{Snapshots}
use Rattle.dirty_nodes.proofs.ids.records_after.Goals as goal
use Rattle.dirty_nodes.proofs.ids.records_after.Goals.{then-is_of_id+in_ok-put, else-is_of_id}

pub loop-update-preserved : goal.loop-update-preserved
loop-update-preserved c = elim c.if-is_of_id.branch [
  | then-is_of_id+in_ok-put w ↦
      records_more c.args.updates.now c.loop-update.update-index c.update-item.result (keys_in c.args.map.now) c.loop-update.snaps.entries c.if-is_of_id.snaps.entries c.loop-update-test.true c.update-item.is
      c.loop-update.invariant true (sym c.is_of_id.ensures ∙ w.if-is_of_id.true) (ap (λ s. s.entries) w.snaps-is ∙ w.in_ok-put.ensures)
  | else-is_of_id w ↦
      records_more c.args.updates.now c.loop-update.update-index c.update-item.result (keys_in c.args.map.now) c.loop-update.snaps.entries c.if-is_of_id.snaps.entries c.loop-update-test.true c.update-item.is
      c.loop-update.invariant false (sym c.is_of_id.ensures ∙ w.if-is_of_id.false) (ap (λ s. s.entries) w.snaps-is)
]

pub returns-clause-stand : goal.returns-clause-stand
returns-clause-stand c =
    records_stand c.args.map.now c.args.updates.now c.loop-update.snaps.entries c.height.ensures.sound c.requires
    (c.loop-update.invariant ∙ ap (λ (us : List Update). entries_of (with_updates us (keys_in c.args.map.now)) Snapshots) (take_all c.loop-update.update-index c.args.updates.now c.loop-update-test.false))
