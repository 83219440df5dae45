use Rattle.std.proofs.Common.{arith, ◌∙◌}
use Rattle.btree_map.proofs.Making.{cuts_more, made_more, placed_between, room_undone}
use Rattle.btree_map.proofs.applying.+make_all.Goals as goal

pub make-requires-clause-placed : goal.make-requires-clause-placed
make-requires-clause-placed t c =
    placed_between c.args.last.items c.pop.new.self.items c.in-Some.values c.args.keys.now.items c.take_room.new.keys.items c.len-code.result c.in-Some.ensures.items (omega (arith, c.len-code.ensures, c.pop.new.self.ok.0)) c.requires.count c.requires.cuts c.in_ok-fresh.ensures.ok
    c.make_all.new.keys.items c.in-Ok.ensures.ok

pub returns-in-Err-clause-err : goal.returns-in-Err-clause-err
returns-in-Err-clause-err t c =
    room_undone c.args.last.items c.pop.new.self.items c.in-Some.values c.args.keys.now.items c.take_room.new.keys.items c.len-code.result c.in-Some.ensures.items (omega (arith, c.len-code.ensures, c.pop.new.self.ok.0)) c.requires.count c.requires.cuts c.in_ok-fresh.ensures.ok
    c.make_all.new.keys.items c.give_room_back.new.keys.items c.as_slice.result.now c.in-Err.ensures.err (c.as_slice.ensures.value ∙ c.in_ok-fresh.ensures.positions) c.give_room_back.ensures

pub returns-in-Ok-clause-ok : goal.returns-in-Ok-clause-ok
returns-in-Ok-clause-ok t c =
    made_more c.args.last.items c.pop.new.self.items c.in-Some.values c.args.keys.now.items c.take_room.new.keys.items c.len-code.result c.in-Some.ensures.items (omega (arith, c.len-code.ensures, c.pop.new.self.ok.0)) c.requires.count c.requires.cuts c.in_ok-fresh.ensures.ok
    c.make_all.new.keys.items c.in-Ok.ensures.ok c.make.new.keys.items c.make.ensures.made

pub returns-in-Ok-clause-sound : goal.returns-in-Ok-clause-sound
returns-in-Ok-clause-sound t c =
    cuts_more c.args.last.items c.pop.new.self.items c.in-Some.values c.args.keys.now.items c.take_room.new.keys.items c.len-code.result c.in-Some.ensures.items (omega (arith, c.len-code.ensures, c.pop.new.self.ok.0)) c.requires.count c.requires.cuts c.in_ok-fresh.ensures.ok
    c.make_all.new.keys.items c.in-Ok.ensures.ok c.make.new.keys.items c.make.ensures.made c.make.ensures.sound c.in-Ok.ensures.sound
