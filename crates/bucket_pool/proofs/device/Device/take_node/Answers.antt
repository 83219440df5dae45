use Rattle.std.proofs.Common.{◌∙◌, sym, ap}
use Rattle.bucket_pool.specs.Buckets.{is_free}
use Rattle.bucket_pool.specs.Places.{changed}
use Rattle.bucket_pool.specs.Space.{as_node}
use Rattle.bucket_pool.proofs.Changed.{changed_at}
use Rattle.bucket_pool.proofs.First.{no_position, position_some}
use Rattle.bucket_pool.proofs.device.Device.take_node.Goals as goal

pub unreachable-requires : goal.unreachable-requires
unreachable-requires c = no_position is_free c.args.self.now c.requires (sym c.first_free.ensures ∙ c.in_default.is)

pub returns : goal.returns
returns c =
    let old = c.args.self.now in
    let at = position_some is_free old c.in-Some.at (sym c.first_free.ensures ∙ c.in-Some.is) in
    c.put.ensures ∙ changed_at as_node c.in-Some.at old c.at-bucket.result c.as_node.result at.1 c.at-bucket.ensures c.as_node.ensures ∙ ap (λ n. changed as_node n old) at.0
