use Rattle.std.proofs.Common.{◌≡◌, ◌+◌, ◌++◌, ◌∙◌, suc, Some, ap, sym, arith}
use Rattle.journal_ring.specs.Parts.{area_in, joined}
use Rattle.journal_ring.proofs.Loops.{joined_more}
use Rattle.journal_ring.proofs.parts.joined.Goals as goal

pub loop-part-preserved : goal.loop-part-preserved
loop-part-preserved c =
    let layout = c.args.layout.now in
    let area = area_in c.args.areas.now in
    let first = c.args.first.now in
    let p = c.loop-part.part in
    let more : c.extend_from_slice.new.self ≡ c.loop-part.bytes ++ c.in-Some.payload.now = c.in_ok-extend_from_slice.ensures.ok in
    ap (joined layout area c.args.dev first) (let e : p + 1 ≡ suc p = omega arith in e)
    ∙ joined_more layout area c.args.dev first p c.loop-part.bytes c.in-Some.payload.now c.loop-part.invariant (sym c.in-Some.ensures)
    ∙ ap Some (sym more)
