use Rattle.std.proofs.Common.{List, ℕ, length, ap, arith}
use Rattle.vol_types.specs.LayoutLaws.{layout_found}
use Rattle.journal_ring.proofs.ring.Ring.of.Goals as goal

pub invariant_of-result : goal.invariant_of-result
invariant_of-result c =
    let fits = layout_found c.args.layout.now c.requires.layout in
    let none = ap (λ (blocks : List (List ℕ)). length blocks) c.new.ensures.items in
    record {
      journal_least = fits.journal_range.0;
      journal_most = fits.journal_range.1;
      mirrored = fits.metadata.0;
      mirrors_few = omega (arith, fits.metadata.1);
      order = omega (arith, c.requires.order, none);
      few = omega (arith, none);
      written = omega arith;
      fits = λ some. absurd (omega (arith, some, none));
    }
