-- So far there is a place on each device.
use Rattle.std.proofs.Common.{◌≡◌, ◌≤◌, map}
use Rattle.std.specs.List.{range_with_len}
use Rattle.vol_format.specs.Fresh.{root_place}
use Rattle.vol_format.proofs.fresh.root_of.Given as goal

abbrev pub invariant-loop-dev : goal.invariant-loop-dev
invariant-loop-dev l = record {
  places : l.places ≡ map (root_place l.fn.layout l.fn.number) (range_with_len 0 l.dev);
  few : l.dev ≤ l.fn.layout.metadata_replicas;
}
