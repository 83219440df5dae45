-- What the events that call devices do to them.
use Rattle.std.specs.Prelude.{◌≡◌, ℕ, Option, None, Some, Ok, Err}
use Rattle.dev_model.specs.Devices.{DevicesState, IsFlush}
use Rattle.journal_writer.specs.Writes.{WritesPart}
use Rattle.journal_ring.specs.Rings.{RingState}
use Rattle.node_writeback.specs.NodeWrites.{WritesNodePart}
use Rattle.node_writeback.specs.declared.node.UnfinishedNode.{UnfinishedNode}
use Rattle.core_actors.specs.declared.answer.Answer.{Answer}
use Rattle.core_actors.specs.declared.answer.Answer.TheVariants.{DeviceFault, Done}

-- The next part of the entry in flight was written, or a device failed that is named; with every other answer no device was called.
abbrev pub WritesEntry : Type 0 → RingState → Answer → DevicesState → DevicesState → Type 0
WritesEntry tells ring Done old new = WritesPart tells ring None old new
WritesEntry tells ring (DeviceFault dev) old new = WritesPart tells ring (Some dev) old new
WritesEntry tells ring other old new = new ≡ old

-- The next block of the unfinished node was written, or a device failed that is named; with every other answer no device was called.
abbrev pub WritesNode : Type 0 → Option UnfinishedNode → Answer → DevicesState → DevicesState → Type 0
WritesNode tells (Some unfinished) Done old new = WritesNodePart tells unfinished.node.blocked unfinished.written None old new
WritesNode tells (Some unfinished) (DeviceFault dev) old new = WritesNodePart tells unfinished.node.blocked unfinished.written (Some dev) old new
WritesNode tells unfinished other old new = new ≡ old

-- The device was flushed, or failed; with every other answer it wasn't called.
abbrev pub FlushesDevice : Type 0 → ℕ → Answer → DevicesState → DevicesState → Type 0
FlushesDevice tells dev Done old new = IsFlush {T = Unit {0}} {E = Unit {0}} tells dev (Ok tt) old new
FlushesDevice tells dev (DeviceFault failed) old new = IsFlush {T = Unit {0}} {E = Unit {0}} tells dev (Err tt) old new
FlushesDevice tells dev other old new = new ≡ old
