use Rattle.std.proofs.Common.{refl, ap, ◌∙◌, inr}
use Rattle.dev_model.specs.Disk.{sizes_of}
use Rattle.dev_model.specs.declared.recording.Step.TheVariants.{Written}
use Rattle.dev_model.proofs.SoundDisks.{sizes_of-written}
use Rattle.dev_model.proofs.RecordedSteps.{recording_after, write_keeps, changes_step}
use Rattle.dev_model.proofs.recording.Recording.write_all.Goals as goal

pub invariant_of-self : goal.invariant_of-self
invariant_of-self c =
    let r = c.args.self.now in
    let new = c.add_whole_write.new in
    let bytes = c.args.from.now in
    let is = recording_after r.start.items r.devices.items new.devices.items r.steps.items new.steps.items (record { replays = r.replays; are_disks = r.are_disks; count = r.count }) c.add_whole_write.result (Written c.args.dev c.args.block bytes bytes) (write_keeps c.args.dev c.args.block bytes bytes c.requires.size) c.add_whole_write.ensures.ok c.add_whole_write.ensures.err in
    record { replays = is.replays; are_disks = is.are_disks; count = is.count }

pub returns-in-Ok-clause-disks : goal.returns-in-Ok-clause-disks
returns-in-Ok-clause-disks c =
    changes_step _ _ _ c.args.self.now.start.items c.args.self.now.steps.items (Written c.args.dev c.args.block c.args.from.now c.args.from.now) c.add_whole_write.new.steps.items c.in-Ok.ensures.ok.log (inr (c.args.from.now, c.requires.size, refl)) refl

pub returns-in-Ok-clause-sizes : goal.returns-in-Ok-clause-sizes
returns-in-Ok-clause-sizes c =
    ap sizes_of c.in-Ok.ensures.ok.after ∙ sizes_of-written c.args.self.now.devices.items c.args.dev c.args.block c.args.from.now c.args.from.now
