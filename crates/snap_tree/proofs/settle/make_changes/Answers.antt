use Rattle.snap_tree.proofs.Settling.{index_forth, index_back, records_forth, records_back, ids_forth, ids_back}
use Rattle.snap_tree.proofs.settle.make_changes.Goals as goal

pub returns-in-Ok-clause-ok : goal.returns-in-Ok-clause-ok
returns-in-Ok-clause-ok c new rises leads =
    records_forth c.args.changes.now.entries c.args.snaps.now.entries c.enter.new.snaps.entries c.settle.new.snaps.entries c.args.pairs.now.keys c.enter.new.pairs.keys c.settle.new.pairs.keys c.args.links.now.entries c.enter.new.links.entries c.settle.new.links.entries c.enter.ensures.entered c.requires.index c.requires.tells new rises c.settle.ensures.rises leads c.settle.ensures.settled

pub returns-in-Err-clause-err : goal.returns-in-Err-clause-err
returns-in-Err-clause-err c =
    records_back c.args.changes.now.entries c.args.snaps.now.entries c.enter.new.snaps.entries c.settle-in-Err.new.snaps.entries c.args.pairs.now.keys c.enter.new.pairs.keys c.settle-in-Err.new.pairs.keys c.args.links.now.entries c.enter.new.links.entries c.settle-in-Err.new.links.entries c.enter.ensures.entered c.requires.index c.requires.tells c.requires.rises c.settle-in-Err.ensures.rises c.settle-in-Err.ensures.settled

pub returns-in-Err-clause-index : goal.returns-in-Err-clause-index
returns-in-Err-clause-index c =
    index_back c.args.changes.now.entries c.args.snaps.now.entries c.enter.new.snaps.entries c.settle-in-Err.new.snaps.entries c.args.pairs.now.keys c.enter.new.pairs.keys c.settle-in-Err.new.pairs.keys c.args.links.now.entries c.enter.new.links.entries c.settle-in-Err.new.links.entries c.enter.ensures.entered c.requires.index c.requires.tells c.settle-in-Err.ensures.settled

pub returns-in-Ok-clause-index : goal.returns-in-Ok-clause-index
returns-in-Ok-clause-index c = index_forth c.args.changes.now.entries c.args.snaps.now.entries c.enter.new.snaps.entries c.settle.new.snaps.entries c.args.pairs.now.keys c.enter.new.pairs.keys c.settle.new.pairs.keys c.args.links.now.entries c.enter.new.links.entries c.settle.new.links.entries c.enter.ensures.entered c.requires.index c.requires.tells c.in-Ok.ensures.room c.settle.ensures.settled

pub returns-in-Ok-clause-ids : goal.returns-in-Ok-clause-ids
returns-in-Ok-clause-ids c = ids_forth c.args.changes.now.entries c.args.snaps.now.entries c.enter.new.snaps.entries c.settle.new.snaps.entries c.args.pairs.now.keys c.enter.new.pairs.keys c.settle.new.pairs.keys c.args.links.now.entries c.enter.new.links.entries c.settle.new.links.entries c.enter.ensures.entered c.requires.index c.requires.tells c.requires.ids c.in-Ok.ensures.room c.settle.ensures.settled

pub returns-in-Err-clause-ids : goal.returns-in-Err-clause-ids
returns-in-Err-clause-ids c = ids_back c.args.changes.now.entries c.args.snaps.now.entries c.enter.new.snaps.entries c.settle-in-Err.new.snaps.entries c.args.pairs.now.keys c.enter.new.pairs.keys c.settle-in-Err.new.pairs.keys c.args.links.now.entries c.enter.new.links.entries c.settle-in-Err.new.links.entries c.enter.ensures.entered c.requires.index c.requires.tells c.requires.ids c.settle-in-Err.ensures.settled
