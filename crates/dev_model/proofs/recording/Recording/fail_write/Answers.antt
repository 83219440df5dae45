use Rattle.std.proofs.Common.{ap, ◌∙◌}
use Rattle.dev_model.specs.Disk.{sizes_of}
use Rattle.dev_model.proofs.SoundDisks.{sizes_of-written}
use Rattle.dev_model.proofs.RecordedSteps.{changes_failed_write, recording_failed_write, failed_write_told}
use Rattle.dev_model.proofs.recording.Recording.fail_write.Goals as goal

pub invariant_of-self : goal.invariant_of-self
invariant_of-self c =
    let r = c.args.self.now in
    let new = c.add_failed_write.new in
    let is = recording_failed_write r.start.items r.devices.items new.devices.items r.steps.items new.steps.items (record { replays = r.replays; are_disks = r.are_disks; count = r.count }) c.add_failed_write.result c.args.dev c.args.block c.args.from.now _ c.add_failed_write.ensures.ok c.add_failed_write.ensures.err in
    record { replays = is.replays; are_disks = is.are_disks; count = is.count }

pub returns-in-Ok-clause-disks : goal.returns-in-Ok-clause-disks
returns-in-Ok-clause-disks c =
    changes_failed_write _ _ c.args.self.now.start.items c.args.self.now.steps.items _ c.args.dev c.args.block c.args.from.now _ c.in-Ok.ensures.ok.0 c.in-Ok.ensures.ok.1.log

pub returns-in-Ok-clause-left : goal.returns-in-Ok-clause-left
returns-in-Ok-clause-left c is =
    let r = c.args.self.now in
    failed_write_told r.start.items r.devices.items _ r.steps.items _ c.args.pick c.args.dev c.args.block c.args.from.now r.replays c.in-Ok.ensures.ok.1

pub returns-in-Ok-clause-sizes : goal.returns-in-Ok-clause-sizes
returns-in-Ok-clause-sizes c = ap sizes_of c.in-Ok.ensures.ok.1.after ∙ sizes_of-written c.args.self.now.devices.items c.args.dev c.args.block c.args.from.now _
