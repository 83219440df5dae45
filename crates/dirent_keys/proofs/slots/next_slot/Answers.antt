-- The first key at a slot or behind it tells the next slot.
use Rattle.std.proofs.Common.{sym, subst}
use Rattle.dirent_keys.proofs.Behind.{next_found}
use Rattle.dirent_keys.proofs.Looks.{gives_last}
use Rattle.dirent_keys.specs.Slots.{HasNoSlot}
use Rattle.dirent_keys.proofs.slots.next_slot.Goals as goal

pub returns-clause-next : goal.returns-clause-next
returns-clause-next g c = λ keys is gives.
    let made = g.V.View.made in
    subst (HasNoSlot keys c.args.directory c.args.from) (sym c.slot_of_key.ensures)
    (next_found keys c.args.directory c.args.from is c.in_ok-answer.answer _ c.pop.result (gives_last keys (made c.args.view.now) (made c.look.new.self) _ c.in_ok-answer.ensures.ok gives) c.pop.ensures.last c.pop.ensures.none)
