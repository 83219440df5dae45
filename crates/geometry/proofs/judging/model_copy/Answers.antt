use Rattle.std.proofs.Common.{◌≡◌, ◌∙◌, true, false, ap, sym, arith}
use Rattle.std.specs.Option.{unwrap_or}
use Rattle.geometry.specs.Superblocks.{has_form}
use Rattle.geometry.proofs.ModelCopies.{found_here, found_later, found_nowhere}
use Rattle.geometry.proofs.judging.model_copy.Goals as goal

pub returns-then-has_form : goal.returns-then-has_form
returns-then-has_form c =
    let has : has_form c.copy-item.result.payload ≡ true = ap has_form (sym c.as_slice.ensures) ∙ sym c.has_form.ensures ∙ c.if-has_form.true in
    sym (ap (λ o. unwrap_or o c.args.first.now) (sym c.loop-copy.invariant ∙ found_here c.args.copies.now c.loop-copy.copy-index c.copy-item.result (omega arith) c.copy-item.is has))

pub loop-copy-preserved : goal.loop-copy-preserved
loop-copy-preserved c =
    let has_not : has_form c.copy-item.result.payload ≡ false = ap has_form (sym c.as_slice.ensures) ∙ sym c.has_form.ensures ∙ c.if-has_form.false in
    found_later c.args.copies.now c.loop-copy.copy-index c.copy-item.result (omega arith) c.copy-item.is has_not ∙ c.loop-copy.invariant

pub returns : goal.returns
returns c = sym (ap (λ o. unwrap_or o c.args.first.now) (sym c.loop-copy.invariant ∙ found_nowhere c.args.copies.now c.loop-copy.copy-index c.loop-copy-test.false))
