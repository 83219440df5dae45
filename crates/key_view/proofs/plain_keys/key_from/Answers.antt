use Rattle.std.proofs.Common.{◌≡◌, Option, sym, ap, ◌∙◌, subst}
use Rattle.std.specs.Option.{option_to_list}
use Rattle.std.specs.Prelude.{IfOk, slice_get}
use Rattle.key_view.proofs.Ranges.{from-range}
use Rattle.vol_types.specs.KeyMaps.{keys_in}
use Rattle.vol_types.specs.declared.positions.Pos.{Pos}
use Rattle.vol_types.specs.declared.values.Value.{Value}
use Rattle.key_view.proofs.plain_keys.key_from.Goals as goal

pub returns-in-Some : goal.returns-in-Some
returns-in-Some c =
    let first = sym (ap (λ es. slice_get es 0) c.in-Some.ensures.steps) ∙ ap (λ es. slice_get es 0) (c.range.ensures.between tt ∙ from-range c.args.pos c.args.values.now.entries) in
    subst (λ (o : Option (Pos × Value)). IfOk c.one_key.result (λ keys. keys ≡ keys_in (option_to_list o))) first c.one_key.ensures
