use Rattle.std.proofs.Common.{◌≡◌, take}
use Rattle.std.specs.List.{flat_map}
use Rattle.sealed_block.specs.Opening.{payload_in}
use Rattle.sealed_block.specs.Records.{ArePartsBelow}
use Rattle.sealed_block.proofs.records.payloads_of.Given as goal

abbrev pub invariant-loop-part : goal.invariant-loop-part
invariant-loop-part l = record {
  below : ArePartsBelow l.parts l.part;
  joined : l.joined.items ≡ flat_map payload_in (take l.part l.parts);
}
