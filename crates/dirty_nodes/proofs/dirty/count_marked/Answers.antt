use Rattle.std.proofs.Common.{◌≡◌, ℕ, ◌+◌, not, List, get_or, sym, ap, ◌∙◌, subst}
use Rattle.std.specs.Prelude.{is_some}
use Rattle.std.proofs.lemmas.List.{get_or_default}
use Rattle.dirty_nodes.proofs.Pinning.{IsCounting, counting_more, counting_none, counting_passed, is_pinned}
use Rattle.pin_list.specs.Pins.{Pins, with_pin}
use Rattle.dirty_nodes.proofs.dirty.count_marked.Goals as goal
use Rattle.dirty_nodes.proofs.dirty.count_marked.Goals.{then-is_none+in_ok-reserve, else-is_none}

pub loop-birth-init : goal.loop-birth-init
loop-birth-init c = counting_none c.args.seq c.args.births.now c.args.marks.now.numbers c.args.fresh.now.numbers c.requires.empty

pub loop-birth-preserved : goal.loop-birth-preserved
loop-birth-preserved c =
    let births : List ℕ = c.args.births.now in
    let place : ℕ = c.loop-birth.birth-index in
    let birth : ℕ = get_or births place 0 in
    let marks : List (ℕ × ℕ) = c.args.marks.now.numbers in
    let is : birth ≡ get_or births place birth = get_or_default births place 0 birth c.loop-birth-test.true in
    let look : is_pinned birth marks ≡ not c.is_none.result = ap is_some (sym c.get.ensures) ∙ c.is_none.ensures in
    elim c.if-is_none.branch [
      | then-is_none+in_ok-reserve w ↦
          counting_more c.args.seq births marks c.loop-birth.fresh.numbers place birth c.requires.rise c.loop-birth-test.true is c.loop-birth.invariant (look ∙ ap not w.if-is_none.true) c.if-is_none.fresh.numbers
          (ap (λ (p : Pins). p.numbers) w.fresh-is ∙ w.pin.ensures.numbers ∙ ap (with_pin birth c.args.seq) w.reserve.ensures.numbers)
      | else-is_none w ↦
          subst (λ (p : Pins). IsCounting c.args.seq births marks p.numbers (place + 1)) (sym w.fresh-is)
          (counting_passed c.args.seq births marks c.loop-birth.fresh.numbers place birth c.requires.rise c.loop-birth-test.true is c.loop-birth.invariant (look ∙ ap not w.if-is_none.false))
    ]
