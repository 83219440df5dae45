-- A closed fork knows its height and its least number.
use Rattle.std.proofs.Common.{◌≡◌, ℕ, ◌+◌, ◌≤◌, max, List, ◌∷◌, ◌++◌, length, sym, subst, arith, Some, ap, ◌∙◌, rules}
use Rattle.pin_list.specs.Pins.{least_pin, smaller}
use Rattle.pin_list.specs.Trees.{fewest}
use Rattle.pin_list.proofs.Levels.{low_above, room_above}
use Rattle.pin_list.proofs.Least.{least_around}
use Rattle.pin_list.proofs.tree.Tree.close.Goals as goal

pub overflow_add-max : goal.overflow_add-max
overflow_add-max c =
    let at = c.args.fork.value in
    let top : c.max.result ≡ max at.left.1 at.right.1 = search rules in
    let room = room_above at.left.1 at.right.1 at.left.0 (at.node, at.seq) at.right.0 c.requires.sides.left c.requires.sides.right c.requires.fits in
    omega arith

pub returns-clause-low : goal.returns-clause-low
returns-clause-low c =
    let at = c.args.fork.value in
    let sides = c.requires.sides in
    let low = low_above at.left.1 at.right.1 at.left.0 (at.node, at.seq) at.right.0 sides.lower sides.higher sides.left sides.right in
    let now = c.deref_mut-2.result.now in
    let top : now.height ≡ max at.left.1 at.right.1 + 1 = search rules in
    let pins : now.left.0 ++ (now.node, now.seq) ∷ now.right.0 ≡ at.left.0 ++ (at.node, at.seq) ∷ at.right.0 = search rules in
    subst (λ (n : ℕ). fewest n ≤ length (now.left.0 ++ (now.node, now.seq) ∷ now.right.0)) (sym top) (subst (λ (xs : List (ℕ × ℕ)). fewest (max at.left.1 at.right.1 + 1) ≤ length xs) (sym pins) low)

pub invariant_of-result : goal.invariant_of-result
invariant_of-result c =
    let at = c.deref_mut-2.result.now in
    let found : c.least_of.result ≡ smaller (smaller at.seq (least_pin at.left.0)) (least_pin at.right.0) = search rules in
    record { sides = search rules; height = search rules; least = ap Some found ∙ least_around at.left.0 at.node at.seq at.right.0 }
