use Rattle.std.proofs.Common.{◌≤◌, ◌∙◌, ℕ, List, get_or, ap, sym, arith}
use Rattle.dev_model.specs.Disk.{as_read, sizes_of}
use Rattle.dev_model.specs.Devices.{now}
use Rattle.geometry.specs.Superblocks.{copy_in}
use Rattle.geometry.proofs.ReadImages.{no_copy_past, copy_of_block}
use Rattle.geometry.proofs.copies.read_copy.Goals as goal

pub returns-then-blocks-block-clause-found : goal.returns-then-blocks-block-clause-found
returns-then-blocks-block-clause-found g c tells =
    let disks = now (g.D.Devices.state c.args.devices.now) in
    let past : get_or (sizes_of disks) c.args.dev 0 ≤ c.args.block = omega (arith, ap (λ (s : List ℕ). get_or s c.args.dev 0) (g.met.D.Devices.agree tells c.args.devices.now), c.blocks-2.ensures, c.if-blocks-block.true) in
    sym (no_copy_past disks c.args.dev c.args.block past)

pub returns-clause-found : goal.returns-clause-found
returns-clause-found g c tells =
    let image = as_read (now (g.D.Devices.state c.args.devices.now)) in
    c.in_ok-copy_in.ensures ∙ ap (copy_in c.args.block) c.as_slice.ensures
    ∙ sym (copy_of_block image c.args.dev c.args.block c.in_ok-bytes.bytes (c.in_ok-bytes.ensures.bytes tells))
