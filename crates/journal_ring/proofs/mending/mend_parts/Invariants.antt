use Rattle.std.proofs.Common.{◌≡◌, false}
use Rattle.dev_model.specs.Disk.{as_read}
use Rattle.dev_model.specs.Devices.{now}
use Rattle.dev_model.specs.Frames.{AreOnlyRead, GoOn}
use Rattle.journal_ring.specs.EntryBlocks.{HoldBlocks}
use Rattle.journal_ring.specs.Mending.{IsEntryBlock, Mends}
use Rattle.journal_ring.proofs.mending.mend_parts.Given as goal

abbrev pub invariant-loop-p : goal.invariant-loop-p
invariant-loop-p g l =
    let D = g.D.Devices in
    let first = D.state l.fn.devices in
    let here = D.state l.devices in
    let layout = l.fn.layout in
    record {
      mends : D.tells → Mends (IsEntryBlock layout.metadata_replicas layout.journal l.fn.number l.fn.blocks) first here;
      held : D.tells → HoldBlocks layout.metadata_replicas layout.journal l.fn.number l.fn.blocks l.p (as_read (now here));
      idle : l.has_written ≡ false → AreOnlyRead D.tells first here;
      goes_on : GoOn first here;
      faults : here.faults ≡ first.faults;
    }
