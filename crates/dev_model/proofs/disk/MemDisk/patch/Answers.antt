use Rattle.dev_model.proofs.KeptBlocks.{patched_is_kept}
use Rattle.dev_model.proofs.disk.MemDisk.patch.Goals as goal

pub invariant_of-self : goal.invariant_of-self
invariant_of-self c =
    let d = c.self.inside in
    patched_is_kept d.blocks.items d.overwritten.items d.shortest c.args.block c.args.bytes c.self.invariant (rw c.self.view_is c.requires.quiet) c.requires.size
