use Rattle.std.proofs.Common.{◌+◌}
use Rattle.interior.specs.Contents.{node_update}
use Rattle.interior.proofs.Turning.{one_pushed, turn_rewrite}
use Rattle.interior.proofs.rewrite.Goals as goal

pub returns-clause-turn : goal.returns-clause-turn
returns-clause-turn c =
    turn_rewrite c.args.btree c.args.nodes.now c.args.level c.is_top.ensures.sound c.requires.there c.args.greatest.now c.args.fresh.now c.push.new.self
    (one_pushed c.new-updates.result c.push.new.self c.in_ok-put.field-0 (node_update c.args.btree (c.args.level + 1) c.args.greatest.now c.args.fresh.now) c.new-updates.ensures c.in_ok-push.ensures.ok c.in_ok-put.ensures.exact)
