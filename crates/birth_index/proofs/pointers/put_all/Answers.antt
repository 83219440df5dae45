use Rattle.std.proofs.Common.{◌<◌, ◌≤◌, get_or, length, arith}
use Rattle.std.proofs.lemmas.List.{get_or_default}
use Rattle.birth_index.specs.ExchangeLaws.{exchange-there}
use Rattle.birth_index.proofs.Putting.{putting-after, putting-before, putting-here, putting-index, putting-more, putting-none}
use Rattle.birth_index.proofs.pointers.put_all.Goals as goal

pub loop-place-init : goal.loop-place-init
loop-place-init c = putting-none c.args.trees.now.items c.args.changes.now c.args.births.now c.requires.changes c.requires.room

pub put_one-requires : goal.put_one-requires
put_one-requires c =
    let now = c.loop-place.changes in
    let change = get_or now c.loop-place.place c.index-changes-place.result in
    let lt : c.loop-place.place < length now = omega (arith, c.loop-place-test.true, c.loop-place.auto.changes) in
    let here = get_or_default now c.loop-place.place c.index-changes-place.result change lt in
    let is = putting-here c.args.trees.now.items c.args.changes.now c.loop-place.trees.items c.loop-place.births now c.loop-place.place c.loop-place.invariant change here lt in
    record { code = exchange-there c.loop-place.trees.items change is; there = is.there; node = is.node }

pub loop-place-preserved : goal.loop-place-preserved
loop-place-preserved c =
    let now = c.loop-place.changes in
    let change = get_or now c.loop-place.place c.index-changes-place.result in
    let lt : c.loop-place.place < length now = omega (arith, c.loop-place-test.true, c.loop-place.auto.changes) in
    let here = get_or_default now c.loop-place.place c.index-changes-place.result change lt in
    putting-more c.args.trees.now.items c.args.changes.now c.loop-place.trees.items c.loop-place.births now c.loop-place.place c.loop-place.invariant change here lt c.put_one.new.change c.put_one.ensures.name c.put_one.ensures.before
    c.put_one.new.trees.items c.put_one.new.births c.put_one.ensures.after c.put_one.ensures.births

pub returns : goal.returns
returns c =
    let start = c.args.trees.now.items in
    let all = c.args.changes.now in
    let now = c.loop-place.changes in
    let end : length now ≤ c.loop-place.place = omega (arith, c.loop-place-test.false, c.loop-place.auto.changes) in
    record {
      after = putting-after start all c.loop-place.trees.items c.loop-place.births now c.loop-place.place c.loop-place.invariant end;
      before = putting-before start all c.loop-place.trees.items c.loop-place.births now c.loop-place.place c.loop-place.invariant end;
      index = putting-index start all c.loop-place.trees.items c.loop-place.births now c.loop-place.place c.loop-place.invariant end;
    }
