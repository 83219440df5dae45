use Rattle.std.proofs.Common.{◌≡◌, ◌≢◌, Err, IfErr, ap, arith, sym, subst, ◌∙◌}
use Rattle.std.proofs.lemmas.Result.{err_from_is_err_and}
use Rattle.sealed_block.specs.declared.records.JoinFault.TheVariants.{NoMemory}
use Rattle.sealed_block.specs.Opening.{opened}
use Rattle.sealed_block.specs.Records.{IsFirstFault, block_at}
use Rattle.sealed_block.proofs.Joining.{first_fault, parts_end}
use Rattle.sealed_block.proofs.records.payloads_of.Goals as goal

pub overflow_cast-part : goal.overflow_cast-part
overflow_cast-part c = omega (arith, parts_end _ _ c.loop-part.invariant.below)

pub returns-in_err-head-clause-fault : goal.returns-in_err-head-clause-fault
returns-in_err-head-clause-fault c =
    let left = err_from_is_err_and c.from_residual-in_err-head.result c.from_residual-in_err-head.ensures.1 in
    let same : left.0 ≡ c.in_err-head.field-0.0 = left.2 in
    let opens : opened (block_at c.args.parts.now c.loop-part.part) ≡ c.open_part.result = sym c.open_part.ensures in
    let first = first_fault c.args.parts.now c.args.first.now c.loop-part.part c.open_part.result c.check_part.result left.0 c.requires.begins opens c.loop-part-test.true c.loop-part.invariant.below c.check_part.ensures.sealed (c.in_err-head.was ∙ ap (λ e. Err e) (sym same)) in
    subst (λ r. IfErr r (λ fault. fault ≢ NoMemory → IsFirstFault c.args.parts.now fault)) (sym left.1) (λ _. first)
