use Rattle.std.proofs.Common.{◌≡◌, drop}
use Rattle.image_view.specs.Found.{are_mirrored}
use Rattle.image_reader.proofs.nodes.are_mirrored.Given as goal

abbrev pub invariant-loop-place : goal.invariant-loop-place
invariant-loop-place l = record {
  rest : are_mirrored l.fn.layout 0 l.fn.places ≡ are_mirrored l.fn.layout l.dev (drop l.place-index l.fn.places);
  count : l.dev ≡ l.place-index;
}
