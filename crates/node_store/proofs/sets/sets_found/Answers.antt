use Rattle.std.proofs.Common.{◌≡◌, ◌+◌, ◌-◌, ◌<◌, ◌^◌, ◌++◌, ◌∷◌, [], ◌∙◌, suc, List, Some, sym, subst, arith}
use Rattle.node_store.specs.declared.sets.StoredSet.{StoredSet}
use Rattle.node_store.specs.StoredSets.{set_at, sets_from}
use Rattle.node_store.proofs.Joined.{join_more, joined}
use Rattle.node_store.proofs.Stored.{set_at_is}
use Rattle.node_store.proofs.sets.sets_found.Goals as goal

pub overflow_add-end : goal.overflow_add-end
overflow_add-end c =
    let there : set_at c.args.copies.now c.args.id.now c.args.birth c.loop.end ≡ Some c.in-Some.set = sym c.in_ok-set.ensures ∙ c.in-Some.is in
    let begun = (set_at_is c.args.copies.now c.args.id.now c.args.birth c.loop.end c.in-Some.set there).1 in
    let fits : c.loop.end + c.in-Some.set.blocks < 2 ^ 8 = omega (arith, begun.blocks, begun.fits) in
    record { fits = fits }

pub loop-preserved : goal.loop-preserved
loop-preserved c =
    let copies = c.args.copies.now in
    let id = c.args.id.now in
    let birth = c.args.birth in
    let set = c.in-Some.set in
    let end = c.loop.end in
    let whole = sets_from copies id birth 16 0 in
    let there : set_at copies id birth end ≡ Some set = sym c.in_ok-set.ensures ∙ c.in-Some.is in
    let begun = (set_at_is copies id birth end set there).1 in
    record {
      so_far = subst (λ (sets : List StoredSet). joined sets (sets_from copies id birth (16 - (c.loop.counter + 1)) (end + set.blocks)) ≡ whole) (sym c.in_ok-push.ensures.ok)
          (subst (λ k. joined (c.loop.sets ++ set ∷ []) (sets_from copies id birth (16 - k) (end + set.blocks)) ≡ whole) (let e : suc c.loop.counter ≡ c.loop.counter + 1 = omega arith in e)
          (join_more copies id birth c.loop.counter end c.loop.sets set whole c.loop-test.true there c.loop.invariant.so_far));
      within = omega (arith, begun.blocks, begun.fits);
    }
