use Rattle.std.proofs.lemmas.List.Elements.{All-push, All-same}
use Rattle.snap_tree.specs.Updates.{IsFitting}
use Rattle.btree_tests.proofs.trees.put_updates.Goals as goal

pub loop-row-preserved : goal.loop-row-preserved
loop-row-preserved c = All-same IsFitting c.push.new.self _ c.in_ok-push.ensures.ok (All-push IsFitting _ c.update_of.result c.loop-row.invariant c.update_of.ensures.fits)
