use Rattle.std.proofs.Common.{◌≡◌, ◌∙◌, ap, sym, take, drop, arith}
use Rattle.sealed_block.specs.Opening.{head_in, payload_in}
use Rattle.sealed_block.proofs.Opened.{head_in-block, length-block, opens_from_opened}
use Rattle.sealed_block.proofs.opening.payload.Goals as goal

pub split_at-requires : goal.split_at-requires
split_at-requires c =
    let size = length-block c.args.block.now _ _ (opens_from_opened c.args.block.now c.args.head.now c.requires) in
    omega (arith, size)

pub split_at-requires-2 : goal.split_at-requires-2
split_at-requires-2 c =
    let o = opens_from_opened c.args.block.now c.args.head.now c.requires in
    omega (arith, length-block c.args.block.now _ _ o, o.ranges.length, c.split_at.ensures.back_len)

pub returns : goal.returns
unfolding payload_in
returns c =
    let block = c.args.block.now in
    let o = opens_from_opened block c.args.head.now c.requires in
    let named : head_in block ≡ c.args.head.now = head_in-block block _ _ o in
    c.split_at-2.ensures.front ∙ ap (take c.args.head.now.length) c.split_at.ensures.back ∙ ap (λ h. take h.length (drop 96 block)) (sym named)
