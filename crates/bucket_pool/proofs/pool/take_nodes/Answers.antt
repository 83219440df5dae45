use Rattle.std.proofs.Common.{◌≡◌, ◌<◌, List, IsTrue, length, ap, sym, subst, ◌∙◌, arith}
use Rattle.std.specs.List.{list_any}
use Rattle.bucket_pool.specs.declared.bucket.Bucket.{Bucket}
use Rattle.bucket_pool.specs.Buckets.{is_free}
use Rattle.bucket_pool.specs.Space.{with_node}
use Rattle.bucket_pool.specs.Places.{partly}
use Rattle.bucket_pool.proofs.EachPlace.{partly_more}
use Rattle.bucket_pool.proofs.Nodes.{free_there, noded_is, same_buckets}
use Rattle.bucket_pool.proofs.pool.take_nodes.Goals as goal

pub take_node-requires : goal.take_node-requires
take_node-requires c =
    let initial = c.args.devices.now in
    let dev = c.loop-dev.dev in
    let d = c.index-devices-dev.result in
    let there : dev < length initial = omega arith in
    subst (λ (buckets : List Bucket). IsTrue (list_any is_free buckets)) (sym (same_buckets dev initial c.loop-dev.devices d c.loop-dev.invariant))
    (free_there c.args.replicas dev initial d c.requires.can c.loop-dev-test.true there)

pub loop-dev-preserved : goal.loop-dev-preserved
loop-dev-preserved c =
    let initial = c.args.devices.now in
    let dev = c.loop-dev.dev in
    let d = c.index-devices-dev.result in
    let there : dev < length initial = omega arith in
    partly_more (λ _. with_node) dev initial c.loop-dev.devices c.take_node.new.self d there c.loop-dev.invariant c.take_node.ensures

pub returns : goal.returns
returns c =
    let all : c.loop-dev.dev ≡ c.args.replicas = omega arith in
    c.loop-dev.invariant ∙ ap (λ n. partly (λ _. with_node) n c.args.devices.now) all ∙ noded_is c.args.replicas c.args.devices.now
