-- Frozen nodes get the births that they were written with, one after the other.
use Rattle.std.proofs.Common.{◌≡◌, ℕ, suc, List, ◌∷◌, sym, ap, ◌∙◌, subst, arith}
use Rattle.std.specs.Prelude.{All, IsSome}
use Rattle.std.specs.List.{AllPairs}
use Rattle.std.specs.Ordering.{nat_cmp}
use Rattle.std.proofs.lemmas.List.Elements.{All-tail}
use Rattle.dirty_nodes.specs.Dirty.{moved_pin}
use Rattle.dirty_nodes.specs.PinLaws.{moved-other}
use Rattle.node_writeback.specs.declared.node.FrozenNode.{FrozenNode}
use Rattle.vol_types.specs.Maps.{IsMap, value_at}
use Rattle.node_writeback.specs.Placing.{AreMovedApart, MayMove, moved_pins}

-- What holds of each pair holds of the first and each later one,
pub pairs-head : {X : Type 0} (R : X → X → Type 0) (x : X) (xs : List X) → AllPairs R (x ∷ xs) → All (R x) xs
pairs-head R x xs pairs place none lt = pairs 0 (suc place) none (omega arith) (omega (arith, lt))

-- and of each pair behind the first.
pub pairs-tail : {X : Type 0} (R : X → X → Type 0) (x : X) (xs : List X) → AllPairs R (x ∷ xs) → AllPairs R xs
pairs-tail R x xs pairs one other none before lt = pairs (suc one) (suc other) none (omega (arith, before)) (omega (arith, lt))

-- the pins, once the first of the nodes has its new birth
abbrev pub moved_first : FrozenNode → List (ℕ × ℕ) → List (ℕ × ℕ) → List (ℕ × ℕ)
moved_first node later numbers = moved_pin node.birth node.fresh.birth (value_at nat_cmp node.birth later) numbers

-- A node that is moved leaves others pinned.
stays : (node other : FrozenNode) (later numbers : List (ℕ × ℕ)) → IsMap nat_cmp numbers → AreMovedApart node other → IsSome (value_at nat_cmp other.birth numbers) → IsSome (value_at nat_cmp other.birth (moved_first node later numbers))
stays node other later numbers rises apart there =
    subst IsSome (sym (moved-other node.birth node.fresh.birth (value_at nat_cmp node.birth later) other.birth numbers rises (λ same. apart.births (sym same)) (λ same. apart.fresh (sym same)))) there

-- Once the first node is moved, the others may be.
pub move-rest : (pins marks later : List (ℕ × ℕ)) (node : FrozenNode) (rest : List FrozenNode) → IsMap nat_cmp pins → IsMap nat_cmp marks → MayMove pins marks (node ∷ rest) → MayMove (moved_first node later pins) (moved_first node later marks) rest
move-rest pins marks later node rest pins_rise marks_rise may =
    let pinned = All-tail (λ (n : FrozenNode). IsSome (value_at nat_cmp n.birth pins)) node rest may.pinned in
    let marked = All-tail (λ (n : FrozenNode). IsSome (value_at nat_cmp n.birth marks)) node rest may.marked in
    let apart = pairs-head AreMovedApart node rest may.apart in
    record {
      pinned = λ place none lt. stays node _ later pins pins_rise (apart place none lt) (pinned place none lt);
      marked = λ place none lt. stays node _ later marks marks_rise (apart place none lt) (marked place none lt);
      apart = pairs-tail AreMovedApart node rest may.apart;
    }

-- What the others then make of the pins is what all of them make.
pub moved-more : (left rest : List FrozenNode) (node : FrozenNode) (later first numbers new whole : List (ℕ × ℕ)) → left ≡ node ∷ rest → later ≡ first → new ≡ moved_first node later numbers → moved_pins left first numbers ≡ whole → moved_pins rest first new ≡ whole
moved-more left rest node later first numbers new whole next same made so_far =
    ap (moved_pins rest first) (made ∙ ap (λ (l : List (ℕ × ℕ)). moved_first node l numbers) same) ∙ ap (λ (nodes : List FrozenNode). moved_pins nodes first numbers) (sym next) ∙ so_far

-- And the nodes that are left may be moved.
pub may-more : (left rest : List FrozenNode) (node : FrozenNode) (pins marks later new_pins new_marks : List (ℕ × ℕ)) → left ≡ node ∷ rest → IsMap nat_cmp pins → IsMap nat_cmp marks
    → new_pins ≡ moved_first node later pins → new_marks ≡ moved_first node later marks → MayMove pins marks left → MayMove new_pins new_marks rest
may-more left rest node pins marks later new_pins new_marks next pins_rise marks_rise pins_made marks_made may =
    subst (λ (ps : List (ℕ × ℕ)). MayMove ps new_marks rest) (sym pins_made)
    (subst (λ (ms : List (ℕ × ℕ)). MayMove (moved_first node later pins) ms rest) (sym marks_made) (move-rest pins marks later node rest pins_rise marks_rise (subst (MayMove pins marks) next may)))
