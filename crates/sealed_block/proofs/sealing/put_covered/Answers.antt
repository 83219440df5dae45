use Rattle.std.proofs.Common.{◌≡◌, ◌++◌, ◌+◌, ◌-◌, length, replicate, refl, ap, arith, ◌∙◌}
use Rattle.sealed_block.specs.Blocks.{covered, head_bytes}
use Rattle.sealed_block.proofs.Pieces.{written}
use Rattle.sealed_block.proofs.sealing.put_covered.Goals as goal

pub returns-clause-written : goal.returns-clause-written
unfolding covered
returns-clause-written c =
    let n = length c.args.payload.now in
    let filled = written (head_bytes c.args.head.now) c.args.payload.now _ _ _ 96 (96 + n) c.put_head.ensures.written refl c.put.ensures.written refl in
    let left : 4064 - (96 + n) ≡ 3968 - n = omega arith in
    c.put_zeros.ensures ∙ ap (λ prefix. prefix ++ replicate (4064 - (96 + n)) 0) filled ∙ ap (λ k. head_bytes c.args.head.now ++ c.args.payload.now ++ replicate k 0) left
