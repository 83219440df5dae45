use Rattle.std.proofs.Common.{◌∙◌}
use Rattle.dev_model.proofs.DiskSteps.{size_of}
use Rattle.dev_model.proofs.recording.Recording.blocks.Goals as goal

pub returns : goal.returns
returns c = c.len.ensures.len ∙ size_of c.args.self.now.devices.items c.args.dev c.index.result.now c.requires c.index.ensures
