use Rattle.std.proofs.Common.{◌≡◌, ◌++◌, refl, ◌∙◌, sym, subst}
use Rattle.std.specs.Prelude.{OnOk, OnErr}
use Rattle.text_io.specs.Streams.{GivesPrefix}
use Rattle.shell.proofs.Moments.{at_given, at_nothing}
use Rattle.shell.specs.declared.page.Page.{Page}
use Rattle.shell.proofs.Printing.{prints_ended, prints_given}
use Rattle.shell.proofs.page.give_lines.Goals as goal

pub returns-then-has_ended-clause-prints : goal.returns-then-has_ended-clause-prints
returns-then-has_ended-clause-prints g c start text prints =
    let K = g.K.Sink in
    let old = c.args.page.now in
    let new : Page = record { alloc = old.alloc; lines = c.truncate.new.self; is_cut = old.is_cut; has_failed = old.has_failed; tally = old.tally } in
    prints_ended K.tells K.held K.faults start text old new c.args.sink.now (sym c.has_ended.ensures ∙ c.if-has_ended.true) refl refl prints

pub returns-clause-prints : goal.returns-clause-prints
returns-clause-prints g c start text prints =
    let K = g.K.Sink in
    let old = c.args.page.now in
    let new : Page = record { alloc = old.alloc; lines = c.truncate-2.new.self; is_cut = old.is_cut; has_failed = c.is_err-page.result; tally = old.tally } in
    let held = K.held c.args.sink.now in
    let held_after = K.held c.give_all.new.sink in
    prints_given K.tells K.held K.faults start text c.give_all.result old new c.args.sink.now c.give_all.new.sink (sym c.has_ended.ensures ∙ c.if-has_ended.false) c.truncate-2.ensures refl c.is_err-page.ensures.value
    (λ told. subst (λ b. OnOk c.give_all.result (held_after ≡ held ++ b)) c.as_slice.ensures (c.give_all.ensures.ok told))
    (λ told. subst (λ b. OnErr c.give_all.result (GivesPrefix b held held_after)) c.as_slice.ensures (c.give_all.ensures.failed told))
    c.give_all.ensures.cause prints

pub returns-then-has_ended-clause-gains : goal.returns-then-has_ended-clause-gains
returns-then-has_ended-clause-gains g c told =
    at_nothing g.K.Sink.held g.K.Sink.given_at c.args.sink.now (g.D.Devices.state c.args.devices.now).moment

pub returns-clause-gains : goal.returns-clause-gains
returns-clause-gains g c told =
    let K = g.K.Sink in
    let held = K.held c.args.sink.now in
    let held_after = K.held c.give_all.new.sink in
    at_given K.held K.given_at c.give_all.result c.args.sink.now c.give_all.new.sink c.args.page.now.lines (g.D.Devices.state c.args.devices.now).moment
    (subst (λ b. OnOk c.give_all.result (held_after ≡ held ++ b)) c.as_slice.ensures (c.give_all.ensures.ok told))
    (subst (λ b. OnErr c.give_all.result (GivesPrefix b held held_after)) c.as_slice.ensures (c.give_all.ensures.failed told))
    (c.give_all.ensures.moment told)
