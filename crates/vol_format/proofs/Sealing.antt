-- The two superblock copies of a device, one after the other.
use Rattle.std.proofs.Common.{◌≡◌, ℕ, true, false, Some, ⊎_elim, refl, arith}
use Rattle.std.specs.Prelude.{◌==◌}
use Rattle.std.proofs.lemmas.Bool.{eq-eqb, ne_eqb, cases_eq, cases_Bool}
use Rattle.vol_types.specs.declared.layout.Layout.{Layout}
use Rattle.geometry.specs.Superblocks.{super_block}
use Rattle.vol_format.specs.Formatting.{or_held}
use Rattle.vol_format.specs.Steps.{in_block, on_device, super_copies}
use Rattle.vol_format.proofs.Written.{IsPart, IsThen, apart_blocks, then_apart}

-- The copies are that of block 0 and then that of block 8.
pub two_copies : (layout : Layout) (device : ℕ) → IsThen (on_device device (in_block 0 (Some (super_block layout device 0 1)))) (on_device device (in_block 8 (Some (super_block layout device 8 1)))) (on_device device (super_copies layout device))
two_copies layout device = then_apart _ _ _ both (apart_blocks device 0 8 (Some (super_block layout device 0 1)) (Some (super_block layout device 8 1)) (λ same. omega (arith, same)))
  where
    both : (dev block : ℕ) → on_device device (super_copies layout device) dev block ≡ or_held (on_device device (in_block 8 (Some (super_block layout device 8 1))) dev block) (on_device device (in_block 0 (Some (super_block layout device 0 1))) dev block)
    both dev block = ⊎_elim
        (λ (there : (dev == device) ≡ true). rw there (⊎_elim
        (λ (first : block ≡ 0). rw (eq-eqb block 0 first, ne_eqb block 8 (λ e. omega (arith, e, first)), first) refl)
        (λ (other : ¬ (block ≡ 0)). ⊎_elim
        (λ (second : block ≡ 8). rw (ne_eqb block 0 other, eq-eqb block 8 second, second) refl)
        (λ (neither : ¬ (block ≡ 8)). rw (ne_eqb block 0 other, ne_eqb block 8 neither) refl)
        (cases_eq block 8))
        (cases_eq block 0)))
        (λ (elsewhere : (dev == device) ≡ false). rw elsewhere refl)
        (cases_Bool (dev == device))

-- That of block 0 is one of them.
pub first_of_copies : (layout : Layout) (device : ℕ) → IsPart (on_device device (in_block 0 (Some (super_block layout device 0 1)))) (on_device device (super_copies layout device))
first_of_copies layout device = (two_copies layout device).before
