use Rattle.std.proofs.Common.{◌≡◌, All, drop}
use Rattle.std.specs.Map.{values_of}
use Rattle.vol_types.specs.Ranges.{IsKeyValue}
use Rattle.image_reader.specs.Changes.{all_noted}
use Rattle.image_reader.proofs.changes.note_all.Given as goal

abbrev pub invariant-loop-update : goal.invariant-loop-update
invariant-loop-update l = record {
  so_far : all_noted l.btree l.level (drop l.update-index l.updates) l.changes.entries ≡ all_noted l.btree l.level l.updates l.fn.changes.entries;
  in_range : All IsKeyValue (values_of l.changes.entries);
}
