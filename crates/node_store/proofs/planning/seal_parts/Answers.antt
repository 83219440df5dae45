use Rattle.std.proofs.Common.{◌≡◌, ◌*◌, ◌∙◌, ◌++◌, ℕ, List, length, ap, arith, length-append, subst}
use Rattle.sealed_block.specs.Blocks.{Opens}
use Rattle.sealed_block.specs.declared.heads.Head.{Head}
use Rattle.node_store.specs.Plans.{blocks_for, chunk, part_head}
use Rattle.node_store.proofs.PlannedReading.{parts_more}
use Rattle.node_store.proofs.planning.seal_parts.Goals as goal

pub returns-clause-whole : goal.returns-clause-whole
returns-clause-whole c =
    let e : c.loop-part.part ≡ blocks_for c.args.payload.now = omega (arith, c.loop-part-test.false, c.loop-part.auto.part-end, c.blocks_for-part-end.ensures.count) in
    c.loop-part.invariant.whole ∙ ap (λ k. 4096 * k) e

pub returns-clause-parts : goal.returns-clause-parts
returns-clause-parts c p lt =
    let e : c.loop-part.part ≡ blocks_for c.args.payload.now = omega (arith, c.loop-part-test.false, c.loop-part.auto.part-end, c.blocks_for-part-end.ensures.count) in
    c.loop-part.invariant.parts p (omega (arith, lt, e))

pub loop-part-preserved : goal.loop-part-preserved
loop-part-preserved c =
    let pushed : c.extend_from_slice.new.self ≡ c.loop-part.parts ++ c.seal_block.result = c.in_ok-extend_from_slice.ensures.ok in
    let id = c.args.id.now in
    let payload = c.args.payload.now in
    let part = c.loop-part.part in
    let opens : Opens c.seal_block.result (part_head id c.args.birth c.args.block c.args.sequence payload part) (chunk payload part) =
    subst (λ (h : Head). Opens c.seal_block.result h (chunk payload part)) c.part_head-head.ensures.head
    (subst (λ (bytes : List ℕ). Opens c.seal_block.result c.part_head-head.result bytes) c.chunk.ensures.chunk c.seal_block.ensures.opens) in
    record {
      whole = omega (arith, ap length pushed, length-append c.loop-part.parts c.seal_block.result, c.seal_block.ensures.size, c.loop-part.invariant.whole);
      parts = parts_more id c.args.birth c.args.block c.args.sequence payload c.loop-part.parts c.extend_from_slice.new.self c.seal_block.result part c.loop-part.invariant.whole pushed c.seal_block.ensures.size opens c.loop-part.invariant.parts;
    }
