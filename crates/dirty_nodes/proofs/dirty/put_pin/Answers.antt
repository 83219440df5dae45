use Rattle.std.proofs.Common.{◌≡◌, ℕ, Option, List, sym, ap, ◌∙◌, subst}
use Rattle.std.specs.Ordering.{nat_cmp}
use Rattle.std.proofs.lemmas.Cmp.{nat_cmp_total}
use Rattle.dirty_nodes.proofs.Putting.{pin-released}
use Rattle.vol_types.specs.MapLaws.{IsMap-with_value, IsMap-without}
use Rattle.vol_types.specs.Maps.{IsMap, put_at, with_value}
use Rattle.dirty_nodes.proofs.dirty.put_pin.Goals as goal

pub returns-in-Some-clause-numbers : goal.returns-in-Some-clause-numbers
returns-in-Some-clause-numbers c =
    pin-released c.args.node c.in-Some.seq c.args.pins.now.numbers c.release.new.self.numbers c.pin.new.self.numbers c.requires.rise c.release.ensures.numbers c.pin.ensures.numbers
    ∙ ap (λ (number : Option ℕ). put_at nat_cmp c.args.node number c.args.pins.now.numbers) (sym c.in-Some.is)

pub returns-in-Some-clause-rise : goal.returns-in-Some-clause-rise
returns-in-Some-clause-rise c =
    let put : c.pin.new.self.numbers ≡ with_value nat_cmp c.args.node c.in-Some.seq c.args.pins.now.numbers =
    pin-released c.args.node c.in-Some.seq c.args.pins.now.numbers c.release.new.self.numbers c.pin.new.self.numbers c.requires.rise c.release.ensures.numbers c.pin.ensures.numbers in
    subst (λ (numbers : List (ℕ × ℕ)). IsMap nat_cmp numbers) (sym put) (IsMap-with_value nat_cmp_total c.args.node c.in-Some.seq c.args.pins.now.numbers c.requires.rise)

pub returns-in_default-clause-rise : goal.returns-in_default-clause-rise
returns-in_default-clause-rise c =
    subst (λ (numbers : List (ℕ × ℕ)). IsMap nat_cmp numbers) (sym c.release.ensures.numbers) (IsMap-without nat_cmp_total c.args.node c.args.pins.now.numbers c.requires.rise)
