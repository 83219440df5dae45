use Rattle.std.proofs.Common.{◌+◌}
use Rattle.interior.specs.Contents.{node_update}
use Rattle.interior.proofs.Turning.{two_pushed, turn_split}
use Rattle.interior.proofs.split.Goals as goal

pub returns-clause-turn : goal.returns-clause-turn
returns-clause-turn c =
    turn_split c.args.btree c.args.nodes.now c.args.level c.is_top.ensures.sound c.requires.there c.args.greatest.now c.args.at.now c.args.first.now c.args.second.now c.push-2.new.self
    (two_pushed c.new-updates.result c.push.new.self c.push-2.new.self c.in_ok-put.field-0 c.in_ok-put-2.field-0 (node_update c.args.btree (c.args.level + 1) c.args.at.now c.args.first.now) (node_update c.args.btree (c.args.level + 1) c.args.greatest.now c.args.second.now) c.new-updates.ensures
    c.in_ok-push.ensures.ok c.in_ok-push-2.ensures.ok c.in_ok-put.ensures.exact c.in_ok-put-2.ensures.exact)
