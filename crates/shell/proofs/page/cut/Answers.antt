use Rattle.std.proofs.Common.{true, refl, ◌∙◌}
use Rattle.shell.specs.declared.page.Page.{Page}
use Rattle.shell.proofs.Printing.{neither, prints_cut}
use Rattle.shell.proofs.page.cut.Goals as goal

pub returns-clause-prints : goal.returns-clause-prints
returns-clause-prints g c start text line some prints =
    let K = g.K.Sink in
    let old = c.args.page.now in
    let given = c.give_lines.new.page in
    let new : Page = record { alloc = given.alloc; lines = given.lines; is_cut = true; has_failed = given.has_failed; tally = given.tally } in
    prints_cut K.tells K.held K.faults start text line given new c.give_lines.new.sink some c.give_lines.ensures.given (c.give_lines.ensures.cut ∙ (neither old.is_cut old.has_failed c.requires).0) refl refl (c.give_lines.ensures.prints start text prints)
