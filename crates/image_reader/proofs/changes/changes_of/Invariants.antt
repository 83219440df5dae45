use Rattle.std.proofs.Common.{◌≡◌, All, [], drop}
use Rattle.std.specs.Map.{values_of}
use Rattle.image_view.specs.Found.{updates_of}
use Rattle.vol_types.specs.Ranges.{IsKeyValue}
use Rattle.image_reader.specs.Changes.{all_noted}
use Rattle.image_reader.proofs.changes.changes_of.Given as goal

abbrev pub invariant-loop-found : goal.invariant-loop-found
invariant-loop-found l = record {
  so_far : all_noted l.btree l.level (updates_of (drop l.found-index l.entries)) l.changes.entries ≡ all_noted l.btree l.level (updates_of l.entries) [];
  in_range : All IsKeyValue (values_of l.changes.entries);
}
