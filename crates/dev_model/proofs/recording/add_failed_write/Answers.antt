use Rattle.std.proofs.Common.{◌<◌, length, ap, ◌∙◌, subst, sym}
use Rattle.dev_model.specs.Disk.{Disk, IsBlock}
use Rattle.dev_model.specs.Restart.{block_left_by}
use Rattle.dev_model.proofs.DiskSteps.{block_read_or, size_at}
use Rattle.dev_model.proofs.RecordedSteps.{failed_write_added}
use Rattle.dev_model.proofs.recording.add_failed_write.Goals as goal

pub block-requires : goal.block-requires
block-requires c =
    let disk = c.index-disk.result.now in
    subst (λ (d : Disk). c.args.block < length d.blocks) (sym c.index-disk.ensures) (size_at c.args.devices.now.items c.args.dev c.args.block disk c.requires.place).1

pub returns-clause-ok : goal.returns-clause-ok
returns-clause-ok c =
    let devices = c.args.devices.now.items in
    let disk = c.index-disk.result.now in
    let place = size_at devices c.args.dev c.args.block disk c.requires.place in
    let read = block_read_or devices c.args.dev c.args.block disk c.block.result.now place.0 c.index-disk.ensures c.block.ensures.block in
    let left = c.in_ok-left.ensures.exact ∙ ap (block_left_by c.args.pick c.args.bytes.now) (c.as_slice.ensures ∙ sym read) in
    failed_write_added c.add_write-result.result devices _ c.args.steps.now.items _ c.args.dev c.args.block c.args.bytes.now c.as_slice-2.result.now _ (c.as_slice-2.ensures ∙ left) (subst IsBlock (sym c.as_slice-2.ensures) c.in_ok-left.ensures.sound) c.add_write-result.ensures.ok
