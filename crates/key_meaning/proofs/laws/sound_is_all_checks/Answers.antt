use Rattle.std.proofs.Common.{ℕ, zero, suc}
use Rattle.std.specs.Prelude.{List}
use Rattle.vol_types.specs.KeyMaps.{KeyMap}
use Rattle.vol_types.specs.declared.layout.Layout.{Layout}
use Rattle.vol_types.specs.declared.pointers.Place.{Place}
use Rattle.key_meaning.specs.Checks.{Check, IsSound}
use Rattle.key_meaning.proofs.laws.sound_is_all_checks.Goals as goal

each : (keys : KeyMap) (nodes : List Place) (layout : Layout) → IsSound keys nodes layout → (number : ℕ) → Check number keys nodes layout
each keys nodes layout sound zero = tt
each keys nodes layout sound (suc zero) = sound.trees
each keys nodes layout sound (suc (suc zero)) = sound.leaves
each keys nodes layout sound (suc (suc (suc zero))) = sound.extents
each keys nodes layout sound (suc (suc (suc (suc zero)))) = sound.names
each keys nodes layout sound (suc (suc (suc (suc (suc zero))))) = sound.links
each keys nodes layout sound (suc (suc (suc (suc (suc (suc zero)))))) = sound.directories
each keys nodes layout sound (suc (suc (suc (suc (suc (suc (suc zero))))))) = sound.blocks
each keys nodes layout sound (suc (suc (suc (suc (suc (suc (suc (suc zero)))))))) = sound.space
each keys nodes layout sound (suc (suc (suc (suc (suc (suc (suc (suc (suc more))))))))) = tt

pub returns : goal.returns
returns c keys nodes layout = (each keys nodes layout, λ holds. record { trees = holds 1; leaves = holds 2; extents = holds 3; names = holds 4; links = holds 5; directories = holds 6; blocks = holds 7; space = holds 8 })
