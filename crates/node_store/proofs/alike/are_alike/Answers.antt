use Rattle.std.proofs.Common.{◌≡◌, ◌≤◌, ◌-◌, List, [], ◌∷◌, Option, get_or, take, drop, length, refl, ap, sym, ◌∙◌, subst, arith}
use Rattle.std.proofs.lemmas.List.{get_or_default, take_all}
use Rattle.node_store.specs.Answers.{AreAlike}
use Rattle.node_store.specs.Copies.{block_in}
use Rattle.node_store.specs.StoredSets.{Copies}
use Rattle.node_store.specs.declared.opening.OpenBlock.{OpenBlock}
use Rattle.node_store.proofs.AlikeCopies.{all_alike}
use Rattle.node_store.proofs.alike.are_alike.Goals as goal
use borrow.Author.Count.{below_more}

abbrev Copy : Type 0
Copy = List (Option OpenBlock)

-- the copies are the first one and the others
first_and_rest : (copies : Copies) (first : Copy) → 1 ≤ length copies → first ≡ get_or copies 0 first → copies ≡ first ∷ take (length copies - 1) (drop 1 copies)
first_and_rest [] first some is = absurd (omega (arith, some))
first_and_rest (x ∷ xs) first some is = ap (λ (copy : Copy). copy ∷ xs) (sym is) ∙ ap (λ (rest : Copies). first ∷ rest) (sym (take_all (length (x ∷ xs) - 1) xs (omega arith)))

pub loop-copy-preserved : goal.loop-copy-preserved
loop-copy-preserved c = λ i d lt n le.
    let rest : Copies = take (length c.args.copies.now - 1) (drop 1 c.args.copies.now) in
    let at = c.loop-copy.copy-index in
    let here : block_in c.first-item.result n ≡ block_in (get_or rest at d) n =
    c.is_same_before.ensures.0 c.if-not-is_same_before.false n le ∙ ap (λ (copy : Copy). block_in copy n) (c.copy-item.is ∙ get_or_default rest at c.copy-item.result d c.loop-copy-test.true) in
    below_more (λ k. block_in c.first-item.result n ≡ block_in (get_or rest k d) n) at (λ k under. c.loop-copy.invariant k d under n le) here i lt

pub returns : goal.returns
returns c = (
  λ yes. subst (AreAlike c.args.end) (sym (first_and_rest c.args.copies.now c.first-item.result c.in-len1-up.len_at_least c.first-item.is))
      (all_alike c.args.end c.first-item.result (take (length c.args.copies.now - 1) (drop 1 c.args.copies.now)) (λ i d lt n le. c.loop-copy.invariant i d (omega (arith, lt, c.loop-copy-test.false)) n le)),
  λ alike. refl,
)
