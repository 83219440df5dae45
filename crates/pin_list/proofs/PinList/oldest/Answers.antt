-- The least number is the oldest pin.
use Rattle.std.proofs.Common.{◌≡◌, IfSome, IfNone, [], ap, subst}
use Rattle.pin_list.specs.Pins.{IsOldest}
use Rattle.pin_list.proofs.Least.{none_oldest, some_oldest}
use Rattle.pin_list.proofs.PinList.oldest.Goals as goal

pub returns-clause-some : goal.returns-clause-some
returns-clause-some c = subst (λ ns. IfSome c.least.result (IsOldest ns)) (ap (λ p. p.numbers) c.self.view_is) (some_oldest c.self.inside.tree.0 c.least.result c.self.invariant.rises c.least.ensures)

pub returns-clause-none : goal.returns-clause-none
returns-clause-none c = subst (λ ns. IfNone c.least.result (ns ≡ [])) (ap (λ p. p.numbers) c.self.view_is) (none_oldest c.self.inside.tree.0 c.least.result c.least.ensures)
