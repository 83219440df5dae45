use Rattle.std.proofs.Common.{ap, sym, refl, ◌∙◌, ◌++◌, append_assoc, ℕ, length-take, length-append, length-drop, arith}
use Rattle.text_io.proofs.Lists.{taken_to}
use Rattle.text_io.proofs.source.take_piece.Goals as goal

pub returns-in_default-clause-failed : goal.returns-in_default-clause-failed
returns-in_default-clause-failed g c = λ told. (0, omega arith, c.in_default.ensures.failed told)

pub returns-in_default-clause-read_fault : goal.returns-in_default-clause-read_fault
returns-in_default-clause-read_fault g c = λ _. c.in_default.ensures.cause.rose refl

pub returns-in_default-clause-no_fault : goal.returns-in_default-clause-no_fault
returns-in_default-clause-no_fault g c = λ differs. absurd (differs refl)

pub returns-in_default-clause-later : goal.returns-in_default-clause-later
returns-in_default-clause-later g c = c.take.ensures.cause.later

pub returns-in_default-extend_from_slice-clause-failed : goal.returns-in_default-extend_from_slice-clause-failed
returns-in_default-extend_from_slice-clause-failed g c = λ told.
    taken_to c.in-Ok.n c.args.most c.take.new.into _ _ (omega (arith, c.in-Ok.ensures.count, c.take.auto.into)) (omega (arith, length-take {A = ℕ}, c.in-Ok.ensures.count, c.min-asked.ensures)) (c.in-Ok.ensures.bytes told)

pub returns-in_default-extend_from_slice-clause-no_fault : goal.returns-in_default-extend_from_slice-clause-no_fault
returns-in_default-extend_from_slice-clause-no_fault g c = λ _. c.in-Ok.ensures.cause.still

pub returns-in_default-extend_from_slice-clause-later : goal.returns-in_default-extend_from_slice-clause-later
returns-in_default-extend_from_slice-clause-later g c = c.take.ensures.cause.later

pub returns-clause-moved : goal.returns-clause-moved
returns-clause-moved g c = λ told. record {
  together = ap (λ list. c.args.bytes.now ++ list) (c.in-Ok.ensures.bytes told) ∙ sym (append_assoc c.args.bytes.now _ (g.S.Source.left c.take.new.self)) ∙ ap (λ list. list ++ g.S.Source.left c.take.new.self) (sym c.in-Ok-extend_from_slice.ensures.ok);
}

pub returns-clause-no_fault : goal.returns-clause-no_fault
returns-clause-no_fault g c = λ _. c.in-Ok.ensures.cause.still

pub returns-clause-later : goal.returns-clause-later
returns-clause-later g c = c.take.ensures.cause.later

pub returns-in_default-clause-piece : goal.returns-in_default-clause-piece
returns-in_default-clause-piece g c = omega (arith, length-take {A = ℕ}, length-append {A = ℕ}, length-drop {A = ℕ}, c.requires.piece)

pub returns-in_default-extend_from_slice-clause-piece : goal.returns-in_default-extend_from_slice-clause-piece
returns-in_default-extend_from_slice-clause-piece g c = omega (arith, length-take {A = ℕ}, length-append {A = ℕ}, length-drop {A = ℕ}, c.requires.piece)

pub returns-clause-piece : goal.returns-clause-piece
returns-clause-piece g c = omega (arith, length-take {A = ℕ}, length-append {A = ℕ}, length-drop {A = ℕ}, c.requires.piece)

pub returns-clause-count : goal.returns-clause-count
returns-clause-count g c = omega (arith, length-take {A = ℕ}, c.in-Ok.ensures.count, c.min-asked.ensures)
