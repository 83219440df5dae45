use Rattle.std.proofs.Common.{ℕ, List, sym, subst}
use Rattle.std.specs.Ordering.{nat_cmp}
use Rattle.std.proofs.lemmas.Cmp.{nat_cmp_total}
use Rattle.vol_types.specs.MapLaws.{IsMap-without}
use Rattle.vol_types.specs.Maps.{IsMap}
use Rattle.dirty_nodes.proofs.dirty.move_pin.Goals as goal

pub put_pin-requires-clause-rise : goal.put_pin-requires-clause-rise
put_pin-requires-clause-rise c =
    subst (λ (numbers : List (ℕ × ℕ)). IsMap nat_cmp numbers) (sym c.release.ensures.numbers) (IsMap-without nat_cmp_total c.args.old c.args.pins.now.numbers c.requires.rise)
