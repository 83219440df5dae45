-- Each bucket is that of the root with its number.
use Rattle.std.proofs.Common.{◌≡◌, ◌<◌, ◌≤◌, ◌+◌, ◌∷◌, [], ◌++◌, ℕ, List, length, ap, sym, subst, ⊎_elim, ◌∙◌, arith}
use Rattle.std.specs.Prelude.{slice_index_or}
use Rattle.std.proofs.Common.{length-append}
use Rattle.std.proofs.lemmas.Bool.{cases_lt}
use Rattle.std.proofs.lemmas.List.{get_or_append_left, get_or_push}
use Rattle.vol_types.specs.declared.layout.Layout.{Layout}
use Rattle.node_store.specs.declared.planning.Blocked.{Blocked}
use Rattle.vol_format.specs.Fresh.{IsRootPlan, no_bucket}
use Rattle.vol_format.proofs.fresh.plan_roots.Goals as goal

-- One bucket more.
one_more : (layout : Layout) (count : ℕ) (roots : List Blocked) (blocked : Blocked) → length roots ≡ count → ((number : ℕ) → number < count → IsRootPlan layout number (slice_index_or roots number no_bucket)) → IsRootPlan layout count blocked
    → (number : ℕ) → number < count + 1 → IsRootPlan layout number (slice_index_or (roots ++ blocked ∷ []) number no_bucket)
one_more layout count roots blocked long each last number within = ⊎_elim
    (λ (before : number < count). subst (IsRootPlan layout number) (sym (get_or_append_left roots (blocked ∷ []) no_bucket number (omega (arith, before, long)))) (each number before))
    (λ (end : count ≤ number).
    let same : count ≡ number = omega (arith, within, end) in
    subst (IsRootPlan layout number) (sym (get_or_push roots blocked no_bucket number (long ∙ same))) (subst (λ n. IsRootPlan layout n blocked) same last))
    (cases_lt number count)

pub loop-number-preserved : goal.loop-number-preserved
loop-number-preserved c =
    let layout = c.args.layout.now in
    let so_far = c.loop-number.invariant in
    let last : IsRootPlan layout c.loop-number.number c.in_ok-plan_root.field-0 = subst (λ n. IsRootPlan layout n c.in_ok-plan_root.field-0) c.btree_of.ensures c.in_ok-plan_root.ensures.plan in
    record {
      count = ap (λ (roots : List Blocked). length roots) c.in_ok-push.ensures.ok ∙ length-append c.loop-number.roots (c.in_ok-plan_root.field-0 ∷ []) ∙ ap (λ n. n + 1) so_far.count;
      each = λ number within.
          subst (λ (roots : List Blocked). IsRootPlan layout number (slice_index_or roots number no_bucket)) (sym c.in_ok-push.ensures.ok)
          (one_more layout c.loop-number.number c.loop-number.roots c.in_ok-plan_root.field-0 so_far.count so_far.each last number within);
      few = omega (arith, c.loop-number-test.true);
    }
