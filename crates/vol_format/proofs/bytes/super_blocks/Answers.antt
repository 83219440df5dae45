-- Each block is the superblock copy of its device.
use Rattle.std.proofs.Common.{◌≡◌, ◌+◌, ◌<◌, ◌≤◌, ◌∙◌, ◌++◌, [], ◌∷◌, List, ℕ, length, get_or, arith, subst, sym, ap, refl, zero, suc, ⊎_elim, length-append}
use Rattle.std.proofs.lemmas.Bool.{cases_lt}
use Rattle.vol_types.specs.declared.layout.Layout.{Layout}
use Rattle.geometry.specs.LayoutFacts.{few_devices}
use Rattle.vol_format.specs.Steps.{IsSuper}
use Rattle.vol_format.proofs.bytes.super_blocks.Goals as goal

get-before : (xs : List (List ℕ)) (x other : List ℕ) (i : ℕ) → i < length xs → get_or (xs ++ x ∷ []) i other ≡ get_or xs i other
get-before [] x other i within = absurd (omega (arith, within))
get-before (y ∷ ys) x other zero within = refl
get-before (y ∷ ys) x other (suc i) within = get-before ys x other i (omega (arith, within))

get-last : (xs : List (List ℕ)) (x other : List ℕ) (i : ℕ) → i ≡ length xs → get_or (xs ++ x ∷ []) i other ≡ x
get-last [] x other zero is = refl
get-last [] x other (suc i) is = absurd (omega (arith, is))
get-last (y ∷ ys) x other zero is = absurd (omega (arith, is))
get-last (y ∷ ys) x other (suc i) is = get-last ys x other i (omega (arith, is))

-- One superblock more.
one_more : (layout : Layout) (block count : ℕ) (xs : List (List ℕ)) (x : List ℕ) → length xs ≡ count → ((dev : ℕ) → dev < count → (other : List ℕ) → IsSuper layout dev block (get_or xs dev other)) → IsSuper layout count block x
    → (dev : ℕ) → dev < count + 1 → (other : List ℕ) → IsSuper layout dev block (get_or (xs ++ x ∷ []) dev other)
one_more layout block count xs x long each last dev within other = ⊎_elim
    (λ (before : dev < count). subst (IsSuper layout dev block) (sym (get-before xs x other dev (omega (arith, before, long)))) (each dev before other))
    (λ (end : count ≤ dev).
    let same : count ≡ dev = omega (arith, within, end) in
    subst (IsSuper layout dev block) (sym (get-last xs x other dev (omega (arith, same, long)))) (subst (λ n. IsSuper layout n block x) same last))
    (cases_lt dev count)

pub overflow_cast-dev-end : goal.overflow_cast-dev-end
overflow_cast-dev-end c = record { fits = omega (arith, c.len-dev-end.ensures, (few_devices c.args.layout.now c.requires.layout).1) }

pub loop-dev-preserved : goal.loop-dev-preserved
loop-dev-preserved c =
    let block = c.args.block in
    let so_far = c.loop-dev.invariant in
    let made = c.in_ok-super_bytes.ensures in
    let last : IsSuper c.args.layout.now c.loop-dev.dev block c.in_ok-super_bytes.field-0 = record { encoded = made.bytes; copy = made.copy; size = made.size } in
    record {
      count = ap (λ (xs : List (List ℕ)). length xs) c.in_ok-push.ensures.items ∙ length-append c.loop-dev.supers.items (c.in_ok-super_bytes.field-0 ∷ []) ∙ ap (λ n. n + 1) so_far.count;
      each = λ dev within other.
          subst (λ (xs : List (List ℕ)). IsSuper c.args.layout.now dev block (get_or xs dev other)) (sym c.in_ok-push.ensures.items)
          (one_more c.args.layout.now block c.loop-dev.dev c.loop-dev.supers.items c.in_ok-super_bytes.field-0 so_far.count so_far.each last dev within other);
    }

pub returns : goal.returns
returns c =
    let all : c.loop-dev.dev ≡ length c.args.layout.now.blocks = omega (arith, c.loop-dev-test.false, c.len-dev-end.ensures) in
    record {
      made = record {
        count = c.loop-dev.invariant.count ∙ all;
        each = λ dev within other. c.loop-dev.invariant.each dev (omega (arith, within, c.loop-dev.invariant.count)) other;
      };
    }
