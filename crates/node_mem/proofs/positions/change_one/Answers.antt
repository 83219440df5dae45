use Rattle.std.proofs.Common.{sym, ap, ◌∙◌}
use Rattle.std.specs.Prelude.{option_copied}
use Rattle.node_mem.proofs.Places.{freed, taken}
use Rattle.node_mem.proofs.positions.change_one.Goals as goal

pub returns-in-None : goal.returns-in-None
returns-in-None g c = λ entries same.
    freed (g.C.Change.key c.args.change.now).pos c.pos.result.now (g.C.Change.key c.args.change.now).value entries c.args.positions.now.keys c.remove.new.self.keys c.pos.ensures same (sym c.value.ensures ∙ ap option_copied c.in-None.is) c.remove.ensures.keys

pub returns-in_ok-insert-in-Some : goal.returns-in_ok-insert-in-Some
returns-in_ok-insert-in-Some g c = λ entries same.
    taken (g.C.Change.key c.args.change.now).pos c.pos-in-Some.result.now (g.C.Change.key c.args.change.now).value entries c.args.positions.now.keys c.insert.new.self.keys c.pos-in-Some.ensures same c.in-Some.field-0.now
    (sym c.value.ensures ∙ ap option_copied c.in-Some.is) c.in_ok-insert-in-Some.ensures.keys
