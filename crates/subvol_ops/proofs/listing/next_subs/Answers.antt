-- The first key at a slot or behind it tells the next slot.
use Rattle.std.proofs.Common.{◌≤◌, Option, sym, subst}
use Rattle.std.specs.Prelude.{IfSome}
use Rattle.path_plan.specs.LookLaws.{gives_last}
use Rattle.subvol_ops.proofs.Gathered.{next_found, slot_above}
use Rattle.subvol_ops.specs.Listing.{HasNext}
use Rattle.subvol_ops.specs.declared.listing.Entry.{Entry}
use Rattle.subvol_ops.proofs.listing.next_subs.Goals as goal

pub returns-clause-next : goal.returns-clause-next
returns-clause-next g c = λ keys gives is drawn.
    let made = g.V.View.made in
    subst (HasNext keys c.args.from) (sym c.slot_of_key.ensures)
    (next_found keys c.args.from is drawn c.in_ok-answer.answer _ c.pop.result (gives_last keys (made c.args.view.now) (made c.look.new.self) _ c.in_ok-answer.ensures.ok gives) c.pop.ensures.last c.pop.ensures.none)

pub returns-clause-above : goal.returns-clause-above
returns-clause-above g c = subst (λ (o : Option Entry). IfSome o (λ entry. c.args.from ≤ entry.slot)) (sym c.slot_of_key.ensures) (slot_above c.args.from c.pop.result)
