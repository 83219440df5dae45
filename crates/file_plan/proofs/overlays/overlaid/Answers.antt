use Rattle.std.proofs.Common.{◌≡◌, ◌+◌, ◌++◌, [], ◌∷◌, map, refl, sym, ap, ◌∙◌, arith}
use Rattle.std.specs.List.{range_with_len}
use Rattle.std.proofs.lemmas.List.FromFn.{map-range_with_len_more}
use Rattle.vol_types.specs.Limits.{block_size}
use Rattle.file_plan.specs.Writes.{byte_over}
use Rattle.file_plan.proofs.overlays.overlaid.Goals as goal

pub loop-index-preserved : goal.loop-index-preserved
loop-index-preserved c =
    let f = byte_over c.args.base.now c.args.size c.args.start c.args.offset c.args.bytes.now in
    c.in_ok-push.ensures.ok ∙ (λ i. c.loop-index.invariant i ++ c.byte_over.ensures i ∷ [])
    ∙ sym (map-range_with_len_more f c.args.start c.loop-index.index (c.args.start + c.loop-index.index) refl)

pub returns : goal.returns
returns c =
    let f = byte_over c.args.base.now c.args.size c.args.start c.args.offset c.args.bytes.now in
    let whole : c.loop-index.index ≡ block_size = (let over = c.loop-index-test.false in let under = c.loop-index.auto.index-end in omega (arith, over, under)) in
    c.loop-index.invariant ∙ ap (λ n. map f (range_with_len c.args.start n)) whole
