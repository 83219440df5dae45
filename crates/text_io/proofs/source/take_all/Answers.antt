use Rattle.std.proofs.Common.{◌≡◌, ◌∙◌, ◌+◌, arith}
use Rattle.text_io.specs.declared.source.TakeFault.TheVariants.{ReadFault}
use Rattle.text_io.proofs.Lists.{splits_on, rest_after, longer, at_the_end, takes_prefix, takes_more}
use Rattle.text_io.proofs.Results.{same_error}
use Rattle.text_io.proofs.source.take_all.Goals as goal

pub loop-bytes-preserved : goal.loop-bytes-preserved
loop-bytes-preserved g c = record {
  size = omega (arith, c.in_ok-take_piece.ensures.size, c.in_ok-take_piece.ensures.count);
  piece = c.in_ok-take_piece.ensures.piece;
  split = λ told. splits_on (c.loop-bytes.invariant.split told) (c.in_ok-take_piece.ensures.moved told);
  still = c.in_ok-take_piece.ensures.no_fault (λ wrong. cc) ∙ c.loop-bytes.invariant.still;
}

pub returns-in_err-take_piece-clause-no_fault : goal.returns-in_err-take_piece-clause-no_fault
returns-in_err-take_piece-clause-no_fault g c = λ differs.
    c.in_err-take_piece.ensures.no_fault (λ same. differs (same_error _ _ _ c.from_residual-in_err-take_piece.ensures.1 (let read : c.in_err-take_piece.field-0.0 ≡ ReadFault = cc in read))) ∙ c.loop-bytes.invariant.still

pub returns-in_err-take_piece-clause-taken : goal.returns-in_err-take_piece-clause-taken
returns-in_err-take_piece-clause-taken g c = λ told.
    takes_more _ _ _ (c.loop-bytes.invariant.split told) (c.in_err-take_piece.ensures.failed told) (omega arith)

pub returns-then-branch-eq0-clause-all : goal.returns-then-branch-eq0-clause-all
returns-then-branch-eq0-clause-all g c = λ told.
    (at_the_end (c.loop-bytes.invariant.split told) (c.in_ok-take_piece.ensures.moved told) (c.in_ok-take_piece.ensures.end told (omega arith)) (omega (arith, c.in_ok-take_piece.ensures.size))).0

pub returns-then-branch-eq0-clause-end : goal.returns-then-branch-eq0-clause-end
returns-then-branch-eq0-clause-end g c = λ told.
    (at_the_end (c.loop-bytes.invariant.split told) (c.in_ok-take_piece.ensures.moved told) (c.in_ok-take_piece.ensures.end told (omega arith)) (omega (arith, c.in_ok-take_piece.ensures.size))).1

pub returns-then-branch-eq0-clause-taken : goal.returns-then-branch-eq0-clause-taken
returns-then-branch-eq0-clause-taken g c = λ told.
    takes_prefix _ (splits_on (c.loop-bytes.invariant.split told) (c.in_ok-take_piece.ensures.moved told)) (omega (arith, c.in_ok-take_piece.ensures.size, c.in_ok-take_piece.ensures.count))

pub returns-clause-too_long : goal.returns-clause-too_long
returns-clause-too_long g c = λ told _. longer _ (c.loop-bytes.invariant.split told) (omega arith)

pub returns-clause-one_more : goal.returns-clause-one_more
returns-clause-one_more g c = λ told _. rest_after (c.args.limit + 1) (c.loop-bytes.invariant.split told) (omega arith)

pub returns-clause-taken : goal.returns-clause-taken
returns-clause-taken g c = λ told. takes_prefix _ (c.loop-bytes.invariant.split told) c.loop-bytes.invariant.size
