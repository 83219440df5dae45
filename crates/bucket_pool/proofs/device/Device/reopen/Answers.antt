use Rattle.std.proofs.Common.{◌<◌, ℕ, length, sym, ap, ◌∙◌, subst}
use Rattle.std.specs.List.{position_or_len}
use Rattle.bucket_pool.specs.Buckets.{is_free, opened_for}
use Rattle.bucket_pool.specs.Places.{changed}
use Rattle.bucket_pool.proofs.Changed.{changed_at}
use Rattle.bucket_pool.proofs.First.{no_position, position_some}
use Rattle.bucket_pool.proofs.device.Device.reopen.Goals as goal

pub unreachable-requires : goal.unreachable-requires
unreachable-requires c = no_position is_free c.args.self.now c.requires (sym c.first_free.ensures ∙ c.in_default.is)

pub returns-clause-after : goal.returns-clause-after
returns-clause-after c =
    let old = c.args.self.now in
    let mid = c.let_go.new.self in
    let open_one = opened_for c.args.actor in
    let at = position_some is_free old c.in-Some.at (sym c.first_free.ensures ∙ c.in-Some.is) in
    let lt : c.in-Some.at < length mid = subst (λ (n : ℕ). c.in-Some.at < n) (sym c.let_go.ensures.size) at.1 in
    c.put.ensures ∙ changed_at open_one c.in-Some.at mid c.at-bucket.result c.opened_for.result lt c.at-bucket.ensures c.opened_for.ensures ∙ ap (λ n. changed open_one n mid) at.0
    ∙ ap (changed open_one (position_or_len is_free old)) c.let_go.ensures.after
