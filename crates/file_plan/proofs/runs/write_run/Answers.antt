use Rattle.std.proofs.Common.{◌≡◌, ℕ, List, length, sym, subst, ◌∙◌, ◌++◌, arith}
use Rattle.std.proofs.lemmas.List.{take-append-drop}
use Rattle.vol_types.specs.Limits.{block_size}
use Rattle.vol_types.specs.declared.keys.Key.{Key}
use Rattle.file_plan.proofs.Io.{io_then}
use Rattle.file_plan.proofs.Written.{RunSoFar, next_ones, none_so_far, not_empty, one_more}
use Rattle.file_plan.proofs.runs.write_run.Goals as goal

pub loop-rest-init : goal.loop-rest-init
loop-rest-init g c =
    subst (λ (keys : List Key). RunSoFar c.args.number c.args.id c.args.first c.args.blocks.now keys c.args.first c.args.blocks.now (g.V.Contents.io c.args.view.now) (g.V.Contents.io c.args.view.now) (g.V.View.made c.args.view.now) (g.V.View.made c.args.view.now) (g.V.View.told c.args.view.now) (g.V.View.told c.args.view.now) (g.V.Contents.most c.args.view.now) (g.V.Contents.most c.args.view.now))
    (sym c.new-keys.ensures) (none_so_far c.args.number c.args.id c.args.first c.args.blocks.now _ _ _ _)

pub write_extent-requires-clause-sizes : goal.write_extent-requires-clause-sizes
write_extent-requires-clause-sizes g c = next_ones (λ (bytes : List ℕ). length bytes ≡ block_size) c.args.blocks.now c.loop-rest.invariant.done c.loop-rest.rest.now c.split_at.result.0.now c.min.result c.loop-rest.invariant.split c.split_at.ensures.front c.requires.sizes

pub loop-rest-preserved : goal.loop-rest-preserved
loop-rest-preserved g c =
    subst (λ (keys : List Key). RunSoFar c.args.number c.args.id c.args.first c.args.blocks.now keys c.in_ok-key.key.pos.offset c.split_at.result.1.now (g.V.Contents.io c.args.view.now) (g.V.Contents.io c.write_extent.new.view) (g.V.View.made c.args.view.now) (g.V.View.made c.write_extent.new.view) (g.V.View.told c.args.view.now) (g.V.View.told c.write_extent.new.view) (g.V.Contents.most c.args.view.now) (g.V.Contents.most c.write_extent.new.view))
    (sym c.in_ok-push.ensures.ok)
    (one_more c.args.number c.args.id c.args.first c.args.blocks.now c.split_at.result.0.now c.split_at.result.1.now c.loop-rest.keys c.loop-rest.at c.loop-rest.rest.now c.in_ok-key.key _ _ _ _ _ _ _ _ _ _ _ _
    c.loop-rest.invariant (sym (take-append-drop c.min.result c.loop-rest.rest.now) ∙ (λ i. sym c.split_at.ensures.front i ++ sym c.split_at.ensures.back i)) (not_empty c.loop-rest.rest.now c.is_empty.result c.is_empty.ensures c.loop-rest-test.true)
    (λ more. let least = c.min.ensures in let front = c.split_at.ensures.front_len in let back = c.split_at.ensures.back_len in omega (arith, least, front, back, more))
    c.in_ok-key.ensures.written c.in_ok-key.ensures.holds c.in_ok-key.ensures.io c.in_ok-key.ensures.looks c.in_ok-key.ensures.ids c.in_ok-key.ensures.longest)

pub returns-in_err-key-clause-io : goal.returns-in_err-key-clause-io
returns-in_err-key-clause-io g c =
    let io = g.V.Contents.io in
    io_then (io c.args.view.now) (io c.loop-rest.view) (io c.write_extent.new.view) c.loop-rest.invariant.io c.write_extent.ensures.io

pub returns-in_err-push-clause-io : goal.returns-in_err-push-clause-io
returns-in_err-push-clause-io g c =
    let io = g.V.Contents.io in
    io_then (io c.args.view.now) (io c.loop-rest.view) (io c.write_extent.new.view) c.loop-rest.invariant.io c.write_extent.ensures.io
