use Rattle.std.proofs.Common.{ℕ, List, [], ◌∷◌, sym, ap, ◌∙◌, subst}
use Rattle.std.specs.Prelude.{IsSome}
use Rattle.std.specs.Ordering.{nat_cmp}
use Rattle.dirty_nodes.specs.Dirty.{with_pins}
use Rattle.vol_types.specs.Maps.{value_at}
use Rattle.btree_tests.proofs.Pinned.{pinned}
use Rattle.btree_tests.proofs.dirty.change.Goals as goal

pub returns-clause-pinned : goal.returns-clause-pinned
returns-clause-pinned c =
    let before : List (ℕ × ℕ) = c.reserve.new.self.pins.numbers in
    subst (λ (numbers : List (ℕ × ℕ)). IsSome (value_at nat_cmp c.args.birth numbers)) (sym (c.dirty.ensures.pins ∙ ap (λ (births : List ℕ). with_pins c.args.seq births before) c.in_ok-vec.ensures.items))
    (pinned c.args.birth c.args.seq before)

pub returns-clause-marked : goal.returns-clause-marked
returns-clause-marked c =
    let before : List (ℕ × ℕ) = c.reserve.new.self.marks.numbers in
    subst (λ (numbers : List (ℕ × ℕ)). IsSome (value_at nat_cmp c.args.birth numbers)) (sym (c.dirty.ensures.marks ∙ ap (λ (births : List ℕ). with_pins c.args.seq births before) c.in_ok-vec-2.ensures.items))
    (pinned c.args.birth c.args.seq before)
