use Rattle.std.proofs.Common.{refl}
use Rattle.file_plan.proofs.Io.{io_stays, io_then, io_written}
use Rattle.file_plan.proofs.runs.write_blocks.Goals as goal

pub loop-block-init : goal.loop-block-init
loop-block-init g c = record {
  counted = refl;
  digests = c.new-digests.ensures;
  read = refl;
  kept = refl;
  written = refl;
  looks = refl;
  ids = refl;
  longest = refl;
  io = io_stays _ _ refl;
}

pub returns-in_err-put-clause-io : goal.returns-in_err-put-clause-io
returns-in_err-put-clause-io g c =
    let io = g.V.Contents.io in
    io_then (io c.args.view.now) (io c.loop-block.view) (io c.put.new.self) c.loop-block.invariant.io (io_stays _ _ c.in_err-put.ensures.err)

pub returns-in_err-push-clause-io : goal.returns-in_err-push-clause-io
returns-in_err-push-clause-io g c =
    let io = g.V.Contents.io in
    io_then (io c.args.view.now) (io c.loop-block.view) (io c.put.new.self) c.loop-block.invariant.io (io_written _ _ _ c.in_ok-put.ensures.ok)
