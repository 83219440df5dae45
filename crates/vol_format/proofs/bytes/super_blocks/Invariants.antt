-- So far each block is the superblock copy of its device.
use Rattle.std.proofs.Common.{◌≡◌, ◌<◌, List, ℕ, length}
use Rattle.std.specs.Prelude.{slice_index_or}
use Rattle.vol_format.specs.Steps.{IsSuper}
use Rattle.vol_format.proofs.bytes.super_blocks.Given as goal

abbrev pub invariant-loop-dev : goal.invariant-loop-dev
invariant-loop-dev l = record {
  count : length l.supers.items ≡ l.dev;
  each : (dev : ℕ) → dev < l.dev → (other : List ℕ) → IsSuper l.fn.layout dev l.fn.block (slice_index_or l.supers.items dev other);
}
