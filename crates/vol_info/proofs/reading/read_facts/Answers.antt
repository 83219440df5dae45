use Rattle.std.proofs.Common.{◌≡◌, ◌≤◌, ◌∙◌, length, refl, ap, sym, subst, arith}
use Rattle.geometry.specs.LayoutFacts.{has_places}
use Rattle.image_view.specs.Found.{Found}
use Rattle.vol_types.specs.declared.layout.Layout.{Layout}
use Rattle.vol_info.specs.Facts.{facts_of}
use Rattle.vol_info.specs.declared.facts.Facts.{Facts}
use Rattle.image_reader.specs.Volumes.{found_of}
use Rattle.vol_info.proofs.reading.read_facts.Goals as goal

-- the layout that is told is the one that was found
layout_told : (f : Found) → f.layout ≡ (facts_of f).layout
unfolding facts_of
layout_told f = refl

pub returns-in-Ok-clause-some : goal.returns-in-Ok-clause-some
returns-in-Ok-clause-some g c =
    let D = g.D.Devices in
    let layout = c.in_ok-found.found.layout in
    let has = has_places (D.state c.read_plain.new.devices).sizes layout c.in_ok-found.ensures.fits in
    subst (λ (l : Layout). 1 ≤ length l.blocks) (layout_told (found_of c.in_ok-found.found) ∙ ap (λ (facts : Facts). facts.layout) (sym c.in-Ok.ensures)) (omega (arith, has.some, has.devices))
