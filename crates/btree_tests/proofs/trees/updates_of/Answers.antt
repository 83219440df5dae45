use Rattle.std.proofs.Common.{sym}
use Rattle.std.proofs.lemmas.List.Elements.{All-push, All-same}
use Rattle.snap_tree.specs.Updates.{IsFitting}
use Rattle.btree_tests.proofs.trees.updates_of.Goals as goal

pub returns : goal.returns
returns c = All-same IsFitting c.push.new.self _ c.in_ok-push.ensures.ok (All-push IsFitting _ c.removal.result c.in_ok-updates.ensures c.removal.ensures)
