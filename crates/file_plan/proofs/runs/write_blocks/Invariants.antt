use Rattle.std.proofs.Common.{◌≡◌, ◌++◌, drop, map, take}
use Rattle.vol_digest.specs.Digests.{short_of}
use Rattle.file_plan.specs.BlockIo.{GoesOn}
use Rattle.file_plan.specs.Runs.{written_at}
use Rattle.file_plan.proofs.runs.write_blocks.Given as goal

abbrev pub invariant-loop-block : goal.invariant-loop-block
invariant-loop-block g l = record {
  counted : l.index ≡ l.block-index;
  digests : l.digests ≡ map short_of (take l.block-index l.blocks);
  read : (g.V.Contents.io l.view).read ≡ (g.V.Contents.io l.fn.view).read;
  kept : (g.V.Contents.io l.view).reserved ≡ (g.V.Contents.io l.fn.view).reserved;
  written : (g.V.Contents.io l.view).written ++ written_at l.index l.pointers (drop l.block-index l.blocks) ≡ (g.V.Contents.io l.fn.view).written ++ written_at 0 l.pointers l.blocks;
  looks : g.V.View.made l.view ≡ g.V.View.made l.fn.view;
  ids : g.V.View.told l.view ≡ g.V.View.told l.fn.view;
  longest : g.V.Contents.most l.view ≡ g.V.Contents.most l.fn.view;
  io : GoesOn (g.V.Contents.io l.fn.view) (g.V.Contents.io l.view);
}
