-- Each place is that of its device.
use Rattle.std.proofs.Common.{◌∷◌, [], ◌++◌, ◌+◌, ◌*◌, ℕ, List, map, ap, sym, ◌∙◌, arith}
use Rattle.std.specs.List.{range_with_len}
use Rattle.std.proofs.lemmas.List.FromFn.{map-range_with_len_more}
use Rattle.vol_types.specs.LayoutLaws.{layout_found}
use Rattle.vol_types.specs.declared.pointers.Place.{Place}
use Rattle.vol_format.specs.Fresh.{root_place}
use Rattle.vol_format.proofs.fresh.root_of.Goals as goal

pub overflow_add-block : goal.overflow_add-block
overflow_add-block c = omega (arith, (layout_found c.args.layout.now c.requires.layout).journal_range.1)

pub overflow_add-block-2 : goal.overflow_add-block-2
overflow_add-block-2 c = omega (arith, (layout_found c.args.layout.now c.requires.layout).journal_range.1, c.from.ensures, c.requires.number)

pub loop-dev-preserved : goal.loop-dev-preserved
loop-dev-preserved c =
    let place : ℕ → Place = root_place c.args.layout.now c.args.number in
    let dev : ℕ = c.loop-dev.dev in
    record {
      places = c.in_ok-push.ensures.ok
          ∙ ap (λ (places : List Place). places ++ record { dev = dev; block = 16 + c.args.layout.now.journal + 16 * c.from.result } ∷ []) c.loop-dev.invariant.places
          ∙ ap (λ (n : ℕ). map place (range_with_len 0 dev) ++ record { dev = dev; block = 16 + c.args.layout.now.journal + 16 * n } ∷ []) c.from.ensures
          ∙ sym (map-range_with_len_more place 0 dev dev (omega arith));
      few = omega (arith, c.loop-dev-test.true);
    }
