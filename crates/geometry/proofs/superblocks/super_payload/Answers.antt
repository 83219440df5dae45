use Rattle.std.proofs.Common.{ℕ, List, length, ap, arith}
use Rattle.geometry.specs.LayoutFacts.{few_devices}
use Rattle.geometry.proofs.superblocks.super_payload.Goals as goal

pub overflow_cast-blocks : goal.overflow_cast-blocks
overflow_cast-blocks c = omega (arith, ap (λ (b : List ℕ). length b) c.as_slice-blocks.ensures, (few_devices c.args.layout.now c.requires.layout).1)

pub put_blocks-requires : goal.put_blocks-requires
put_blocks-requires c = omega (arith, ap (λ (b : List ℕ). length b) c.as_slice-blocks.ensures, (few_devices c.args.layout.now c.requires.layout).1)
