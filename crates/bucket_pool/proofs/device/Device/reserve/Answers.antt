use Rattle.std.proofs.Common.{ℕ, List, sym, ap, ◌∙◌}
use Rattle.bucket_pool.specs.declared.bucket.Bucket.{Bucket}
use Rattle.bucket_pool.specs.Space.{readied, reserved_at}
use Rattle.bucket_pool.proofs.Reserving.{reserved_is}
use Rattle.bucket_pool.proofs.device.Device.reserve.Goals as goal

pub returns : goal.returns
returns c =
    let count = c.args.count in
    let dev = c.args.dev in
    ap (λ (n : ℕ). reserved_at count dev n (readied count c.args.actor c.args.self.now)) (sym c.ready-at.ensures.at)
    ∙ ap (λ (list : List Bucket). reserved_at count dev c.ready-at.result list) (sym c.ready-at.ensures.after)
    ∙ reserved_is count dev c.ready-at.result c.run_of-first.result c.ready-at.new.self c.put.new.self c.at-bucket.result c.marked.result
    c.ready-at.ensures.within c.at-bucket.ensures c.run_of-first.ensures.value c.marked.ensures c.put.ensures
