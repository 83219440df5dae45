use Rattle.std.proofs.Common.{◌≤◌, length}
use Rattle.dev_model.specs.Memory.{mem_state}
use Rattle.journal_ring.specs.Rings.{HaveArea}
use Rattle.damage_tests.proofs.images.with_entry.Given as goal

abbrev pub invariant-loop : goal.invariant-loop
invariant-loop l = record {
  area : HaveArea (mem_state l.devices).sizes l.ring.mirrors l.ring.journal;
  within : l.ring.written ≤ length l.ring.blocks;
}
