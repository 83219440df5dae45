use Rattle.std.proofs.Common.{◌≡◌, Option, ◌∙◌, sym, ap, subst}
use Rattle.key_view.proofs.Scanning.{an_answer, at, gives_last, no_answer}
use Rattle.key_view.specs.Own.{IsNextOwn}
use Rattle.vol_types.specs.declared.values.Value.{Value}
use Rattle.std.specs.Prelude.{ℕ}
use Rattle.key_view.proofs.visibility.next_own.Goals as goal

pub returns-in_default-clause-next : goal.returns-in_default-clause-next
returns-in_default-clause-next g c keys is gives =
    let made = g.V.View.made in
    no_answer keys c.args.btree c.args.inode c.args.offset c.args.from is c.in_ok-answer.answer (gives_last keys (made c.args.view.now) (made c.look.new.self) _ c.in_ok-answer.ensures.ok gives) c.in_default.ensures.none

pub returns-clause-next : goal.returns-clause-next
returns-clause-next g c keys is gives =
    let made = g.V.View.made in
    subst (λ (own : Option (ℕ × Value)). IsNextOwn keys c.args.btree c.args.inode c.args.offset c.args.from own) (sym c.own_of.ensures)
    (an_answer keys c.args.btree c.args.inode c.args.offset c.args.from is c.in_ok-answer.answer _ c.in-Some.key (gives_last keys (made c.args.view.now) (made c.look.new.self) _ c.in_ok-answer.ensures.ok gives) c.in-Some.ensures.last)
