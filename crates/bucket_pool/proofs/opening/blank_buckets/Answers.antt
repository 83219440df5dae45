use Rattle.std.proofs.Common.{◌∙◌, ◌++◌, ◌∷◌, [], List, map, ap, sym, arith}
use Rattle.std.proofs.lemmas.List.FromFn.{map-range_with_len_more}
use Rattle.bucket_pool.specs.declared.bucket.Bucket.{Bucket}
use Rattle.std.specs.List.{range_with_len}
use Rattle.bucket_pool.specs.Opening.{blank_bucket}
use Rattle.bucket_pool.proofs.opening.blank_buckets.Goals as goal

pub loop-at-preserved : goal.loop-at-preserved
loop-at-preserved c =
    let at = c.loop-at.at in
    c.in_ok-push.ensures.items ∙ ap (λ (list : List Bucket). list ++ c.blank_bucket.result ∷ []) c.loop-at.invariant
    ∙ ap (λ (b : Bucket). map (blank_bucket c.args.first) (range_with_len 0 at) ++ b ∷ []) c.blank_bucket.ensures
    ∙ sym (map-range_with_len_more (blank_bucket c.args.first) 0 at at (omega arith))
