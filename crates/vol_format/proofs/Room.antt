-- Devices that are long enough have room for a layout.
use Rattle.std.proofs.Common.{◌≡◌, ℕ, suc, ◌<◌, ◌≤◌, true, List, [], ◌∷◌, length, get_or, refl, arith}
use Rattle.std.proofs.lemmas.Bool.{and_from, le-leb}
use Rattle.vol_types.specs.declared.layout.Layout.{Layout}
use Rattle.vol_types.specs.Layouts.{is_layout}
use Rattle.geometry.specs.Layouts.{have_room, is_layout_of}

room_from : (blocks sizes : List ℕ) → length blocks ≡ length sizes → ((dev : ℕ) → dev < length sizes → get_or blocks dev 0 ≤ get_or sizes dev 0) → have_room blocks sizes ≡ true
room_from [] [] count room = refl
room_from [] (size ∷ sizes) count room = absurd (omega (arith, count))
room_from (n ∷ blocks) [] count room = absurd (omega (arith, count))
room_from (n ∷ blocks) (size ∷ sizes) count room = and_from _ _ (le-leb n size (room 0 (omega arith))) (room_from blocks sizes (omega (arith, count)) (λ dev within. room (suc dev) (omega (arith, within))))

-- A layout is one of devices that are as long as it says.
pub layout_fits_on : (sizes : List ℕ) (layout : Layout) → is_layout layout ≡ true → length layout.blocks ≡ length sizes → ((dev : ℕ) → dev < length sizes → get_or layout.blocks dev 0 ≤ get_or sizes dev 0) → is_layout_of sizes layout ≡ true
layout_fits_on sizes layout is count room = and_from _ _ is (room_from layout.blocks sizes count room)
