use Rattle.std.proofs.Common.{◌≡◌, ◌∷◌, rules}
use Rattle.btree_map.specs.Trees.{keys_in}
use Rattle.dirty_nodes.proofs.Records.{records_none}
use Rattle.vol_types.specs.CopyLaws.{copy_more}
use Rattle.vol_types.specs.KeyMaps.{entries_of}
use Rattle.vol_types.specs.PositionLaws.{pos_total}
use Rattle.vol_types.specs.declared.positions.Btree.TheVariants.{Snapshots}
use Rattle.dirty_nodes.proofs.ids.records_of.Goals as goal

pub loop-pos-init : goal.loop-pos-init
loop-pos-init c = records_none c.args.map.now c.new-snaps.result.entries c.into_iter-pos-iterator.result c.height.ensures.sound c.new-snaps.ensures.empty (cc)

pub loop-pos-preserved : goal.loop-pos-preserved
loop-pos-preserved c =
    let next : c.loop-pos.pos-iterator ≡ (c.in-Some.pos.now, c.in-Some.value.now) ∷ c.next.new.self = search rules in
    copy_more pos_total c.in-Some.pos.now c.in-Some.value.now c.next.new.self c.loop-pos.snaps.entries c.add.new.values.entries c.loop-pos.pos-iterator (entries_of (keys_in c.args.map.now) Snapshots) c.loop-pos.invariant next
    (c.height.ensures.sound.each Snapshots).keys.rises c.in_ok-add.ensures
