use Rattle.std.proofs.Common.{sym, ap, ◌∙◌}
use Rattle.bucket_pool.specs.Buckets.{is_current_of, let_go}
use Rattle.bucket_pool.specs.Places.{changed}
use Rattle.std.specs.List.{position_or_len}
use Rattle.bucket_pool.proofs.Changed.{changed_at, changed_past}
use Rattle.bucket_pool.proofs.First.{position_none, position_some}
use Rattle.bucket_pool.proofs.device.Device.let_go.Goals as goal

pub returns-in_default-clause-after : goal.returns-in_default-clause-after
returns-in_default-clause-after c =
    let test = is_current_of c.args.actor in
    let old = c.args.self.now in
    changed_past let_go (position_or_len test old) old (position_none test old (sym c.current.ensures ∙ c.in_default.is))

pub returns-clause-after : goal.returns-clause-after
returns-clause-after c =
    let test = is_current_of c.args.actor in
    let old = c.args.self.now in
    let at = position_some test old c.in-Some.at (sym c.current.ensures ∙ c.in-Some.is) in
    c.put.ensures ∙ changed_at let_go c.in-Some.at old c.at-bucket.result c.let_go.result at.1 c.at-bucket.ensures c.let_go.ensures ∙ ap (λ n. changed let_go n old) at.0
