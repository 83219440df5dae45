use Rattle.std.proofs.Common.{◌≡◌, ◌*◌, length}
use Rattle.node_store.specs.Plans.{ArePartsBefore}
use Rattle.node_store.proofs.planning.seal_parts.Given as goal

abbrev pub invariant-loop-part : goal.invariant-loop-part
invariant-loop-part l = record {
  whole : length l.parts ≡ 4096 * l.part;
  parts : ArePartsBefore l.id l.birth l.block l.sequence l.payload l.parts l.part;
}
