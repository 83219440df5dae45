use Rattle.std.proofs.Common.{◌≡◌, ◌+◌, ◌-◌, ◌++◌, ◌∙◌, List, ℕ, ap, subst, sym}
use Rattle.std.specs.Prelude.{option_map}
use Rattle.node_store.specs.StoredSets.{parts_from}
use Rattle.node_store.proofs.Joined.{part_next}
use Rattle.node_store.proofs.sets.with_parts.Goals as goal

pub loop-part-preserved : goal.loop-part-preserved
loop-part-preserved c =
    let copies = c.args.copies.now in
    let first = c.args.first.now in
    let whole = option_map (λ rest. c.args.joined ++ rest) (parts_from copies first c.args.n (first.parts - 1) 1) in
    let more : c.extend_from_slice.new.self ≡ c.loop-part.joined ++ c.in-Some.block.now.payload =
    c.in_ok-extend_from_slice.ensures.ok ∙ ap (λ (bytes : List ℕ). c.loop-part.joined ++ bytes) c.as_slice.ensures in
    subst (λ (j : List ℕ). option_map (λ rest. j ++ rest) (parts_from copies first c.args.n (first.parts - (c.loop-part.part + 1)) (c.loop-part.part + 1)) ≡ whole) (sym more)
    (part_next copies first c.args.n c.loop-part.part c.in-Some.block.now c.loop-part.joined whole c.loop-part-test.true c.in-Some.ensures c.loop-part.invariant)
