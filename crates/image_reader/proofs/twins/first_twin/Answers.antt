use Rattle.std.proofs.Common.{◌-◌, get_or, length, sym, subst, take}
use Rattle.image_reader.proofs.TwinsTold.{IsSeen, last_apart, no_member, seen_all, seen_more}
use Rattle.image_reader.proofs.twins.first_twin.Goals as goal

pub loop-rest-preserved : goal.loop-rest-preserved
loop-rest-preserved c =
    let nodes = c.args.nodes.now in
    let rest = c.loop-rest.rest.now in
    let front = take (length rest - 1) rest in
    subst (λ twin. IsSeen nodes front c.insert.new.self.keys twin) (sym c.earlier-twin.ensures)
    (seen_more nodes rest front (get_or rest (length rest - 1) _) c.loop-rest.seen.keys c.insert.new.self.keys c.loop-rest.twin c.in_ok-is_new.is_new c.loop-rest.invariant (last_apart rest _ c.in-len1-up.len_at_least) c.in_ok-is_new.ensures.added c.in_ok-is_new.ensures.updates.0)

pub returns : goal.returns
returns c = seen_all c.args.nodes.now c.loop-rest.rest.now c.loop-rest.seen.keys c.loop-rest.twin (no_member c.loop-rest.rest.now c.in_default.len_below) c.loop-rest.invariant
