use Rattle.std.proofs.Common.{◌≡◌, ◌+◌, ◌*◌, take, Some, ap, ◌∙◌, arith}
use Rattle.sealed_block.specs.Blocks.{encoding}
use Rattle.geometry.specs.LayoutFacts.{few_devices}
use Rattle.geometry.specs.Superblocks.{super_block, super_head, super_payload}
use Rattle.geometry.proofs.WrittenCopies.{head_over, holds_itself}
use Rattle.geometry.proofs.superblocks.write_super.Goals as goal

pub split_at-requires : goal.split_at-requires
split_at-requires c = omega (arith, c.len.ensures, c.super_payload-bytes.ensures.size, (few_devices c.args.layout.now c.requires.layout).1)

pub returns-clause-bytes : goal.returns-clause-bytes
unfolding super_block
returns-clause-bytes c =
    let layout = c.args.layout.now in
    let payload : c.split_at.result.0.now ≡ super_payload layout c.args.dev = c.split_at.ensures.front ∙ ap (λ n. take (8 + 4 * n) c.super_payload-bytes.result) c.len.ensures ∙ c.super_payload-bytes.ensures.bytes in
    let head : c.super_head.result ≡ super_head layout c.args.dev c.args.block c.args.sequence = c.super_head.ensures.head ∙ ap (head_over layout.id c.args.dev c.args.block c.args.sequence) payload in
    c.seal.ensures.encoded ∙ ap (λ h. encoding h c.split_at.result.0.now) head ∙ ap (encoding (super_head layout c.args.dev c.args.block c.args.sequence)) payload

pub returns-clause-copy : goal.returns-clause-copy
returns-clause-copy c counts =
    let layout = c.args.layout.now in
    let payload : c.split_at.result.0.now ≡ super_payload layout c.args.dev = c.split_at.ensures.front ∙ ap (λ n. take (8 + 4 * n) c.super_payload-bytes.result) c.len.ensures ∙ c.super_payload-bytes.ensures.bytes in
    let head : c.super_head.result ≡ super_head layout c.args.dev c.args.block c.args.sequence = c.super_head.ensures.head ∙ ap (head_over layout.id c.args.dev c.args.block c.args.sequence) payload in
    holds_itself layout c.args.dev c.args.block c.args.sequence c.seal.new.into counts
    (c.sealed_blocks_open.ensures.head c.seal.new.into c.super_head.result c.split_at.result.0.now c.seal.ensures.opens ∙ ap Some head)
    (c.sealed_blocks_open.ensures.payload c.seal.new.into c.super_head.result c.split_at.result.0.now c.seal.ensures.opens ∙ payload)
