use Rattle.std.proofs.Common.{◌∙◌, ap, List}
use Rattle.dirty_nodes.specs.Dirty.{changed_nodes, paths_of, with_pins}
use Rattle.vol_types.specs.declared.keys.Update.{Update}
use Rattle.core_volume.proofs.Pinning.{changed-next, paths-next}
use Rattle.core_volume.proofs.opening.make_all_dirty.Goals as goal

pub loop-found-preserved : goal.loop-found-preserved
loop-found-preserved c = record {
  pins = changed-next c.args.seq c.args.map.now.nodes c.args.needed.now c.loop-found.found-index c.found-item.result c.found-item.is c.loop-found-test.true c.loop-found.dirty.pins.numbers c.make_dirty.new.dirty.pins.numbers (c.in_ok-make_dirty.ensures.pins ∙ ap (λ (us : List Update). with_pins c.args.seq (changed_nodes c.args.map.now.nodes us) c.loop-found.dirty.pins.numbers) c.as_slice.ensures) ∙ c.loop-found.invariant.pins;
  marked = c.in_ok-make_dirty.ensures.marked;
  marks = paths-next c.args.seq c.args.map.now.nodes c.args.needed.now c.loop-found.found-index c.found-item.result c.found-item.is c.loop-found-test.true c.loop-found.dirty.marks.numbers c.make_dirty.new.dirty.marks.numbers (c.in_ok-make_dirty.ensures.marks ∙ ap (λ (us : List Update). with_pins c.args.seq (paths_of c.args.map.now.nodes us) c.loop-found.dirty.marks.numbers) c.as_slice.ensures) ∙ c.loop-found.invariant.marks;
}
