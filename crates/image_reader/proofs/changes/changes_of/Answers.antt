use Rattle.std.proofs.Common.{[], ap, ◌∙◌}
use Rattle.image_view.specs.Found.{updates_of}
use Rattle.image_reader.specs.Changes.{all_noted}
use Rattle.image_reader.proofs.Making.{entry_step}
use Rattle.image_reader.proofs.changes.changes_of.Goals as goal

pub loop-found-preserved : goal.loop-found-preserved
loop-found-preserved c = record {
  so_far = entry_step c.args.btree c.args.level c.args.entries.now c.loop-found.found-index c.found-item.result c.loop-found.changes.entries c.note_all.new.changes.entries (all_noted c.args.btree c.args.level (updates_of c.args.entries.now) [])
      c.loop-found-test.true c.found-item.is (c.in_ok-note_all.ensures.ok ∙ ap (λ us. all_noted c.args.btree c.args.level us c.loop-found.changes.entries) c.as_slice-updates.ensures) c.loop-found.invariant.so_far;
  in_range = c.in_ok-note_all.ensures.in_range;
}
