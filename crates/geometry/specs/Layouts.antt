-- Which layouts a set of devices has room for.
use Rattle.std.specs.Prelude.{ℕ, Bool, true, false, ◌&&◌, nat_le, List, [], ◌∷◌}
use Rattle.vol_types.specs.declared.layout.Layout.{Layout}
use Rattle.vol_types.specs.Layouts.{is_layout}

-- there are as many sizes as numbers of blocks, and none is smaller
abbrev pub have_room : List ℕ → List ℕ → Bool
have_room [] [] = true
have_room [] (size ∷ sizes) = false
have_room (blocks ∷ rest) [] = false
have_room (blocks ∷ rest) (size ∷ sizes) = nat_le blocks size && have_room rest sizes

-- it is a layout, of devices with these sizes
abbrev pub is_layout_of : List ℕ → Layout → Bool
is_layout_of sizes layout = is_layout layout && have_room layout.blocks sizes
