use Rattle.std.proofs.Common.{rules, ◌≡◌, ℕ, ◌+◌, cond, ◌∷◌, ap, arith}
use Rattle.std.specs.Prelude.{◌==◌}
use Rattle.std.proofs.lemmas.List.Sums.{sum_by-cons}
use Rattle.forest_ops.specs.Names.{links_in}
use Rattle.forest_ops.proofs.directories.forget.Goals as goal

pub loop-number-preserved : goal.loop-number-preserved
loop-number-preserved c = λ other.
    let rest = c.next.new.self in
    let next : c.loop-number.number-iterator ≡ (c.in-Some.field-0-0.now, c.in-Some.number.now) ∷ rest = search rules in
    let sums : links_in other ((c.in-Some.field-0-0.now, c.in-Some.number.now) ∷ rest) ≡ cond {A = ℕ} (c.in-Some.number.now == other) 1 0 + links_in other rest = sum_by-cons (λ entry. cond {A = ℕ} (entry.1 == other) 1 0) (c.in-Some.field-0-0.now, c.in-Some.number.now) rest in
    omega (arith, c.take.ensures other, ap (links_in other) next, sums, c.loop-number.invariant other)
