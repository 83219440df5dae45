use Rattle.std.proofs.Common.{ℕ, List, ◌≤◌, length, ap, sym, ◌∙◌, arith}
use Rattle.std.proofs.lemmas.List.{drop_all}
use Rattle.dirty_nodes.specs.Dirty.{with_pins}
use Rattle.dirty_nodes.proofs.Pinning.{rises-to}
use Rattle.dirty_nodes.proofs.dirty.pin_all.Goals as goal

pub returns-clause-rise : goal.returns-clause-rise
returns-clause-rise c =
    let births : List ℕ = c.args.births.now in
    let place : ℕ = c.loop-birth.birth-index in
    let new : List (ℕ × ℕ) = c.loop-birth.pins.numbers in
    let end : length births ≤ place = omega (arith, c.loop-birth-test.false) in
    rises-to c.args.seq births c.args.pins.now.numbers new (ap (λ (bs : List ℕ). with_pins c.args.seq bs new) (sym (drop_all place births end)) ∙ c.loop-birth.invariant.pinned) c.requires.rise
