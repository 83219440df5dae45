use Rattle.std.proofs.Common.{◌≡◌, ◌∙◌, List, ℕ, Option, sym, ap}
use Rattle.std.specs.Prelude.{All, option_map}
use Rattle.std.specs.Option.{option_copied}
use Rattle.vol_types.specs.KeyMaps.{IsKeyMap, KeyMap}
use Rattle.vol_types.specs.declared.pointers.Pointer.{Pointer}
use Rattle.vol_types.specs.declared.positions.Pos.{Pos}
use Rattle.vol_types.specs.declared.values.Value.{Value}
use Rattle.key_meaning.specs.Blocks.{block_in}
use Rattle.key_meaning.specs.Visible.{snaps_of}
use Rattle.extent_ops.specs.Content.{AreLookedAt, HavePlaces, block_at}
use Rattle.extent_ops.specs.Nearest.{found_in, nearest_of}
use Rattle.extent_ops.proofs.Chosen.{found_in-is, found_none, nearest_of-is}
use Rattle.extent_ops.proofs.Fresh.{ok_then}
use Rattle.extent_ops.proofs.covering.cover.Goals as goal

pub returns-in-None : goal.returns-in-None
returns-in-None c = λ map file is snaps looked fit. found_none map c.args.id file c.args.block
    (sym (ap option_copied c.in-None.is) ∙ c.nearest.ensures ∙ ap (nearest_of c.args.tree.now c.args.id c.args.block) c.as_slice.ensures
    ∙ ap (λ s. nearest_of s c.args.id c.args.block c.args.keys.now) (sym snaps) ∙ nearest_of-is map c.args.id file c.args.block c.args.keys.now is looked)

pub returns-in-Some : goal.returns-in-Some
returns-in-Some c = ok_then (λ (found : Option (List Pointer × ℕ)). found ≡ found_in c.args.block c.in-Some.key.now.pos.offset c.in-Some.key.now.value)
    (λ (found : Option (List Pointer × ℕ)). (map : KeyMap) (file : ℕ) → IsKeyMap map → snaps_of map ≡ c.args.tree.now → AreLookedAt map file c.args.block c.args.block c.args.keys.now
    → All (λ (entry : Pos × Value). HavePlaces entry.1) map.extents → option_map block_at found ≡ block_in map c.args.id file c.args.block)
    c.shown_of.result c.shown_of.ensures
    (λ found at map file is snaps looked fit. ap (option_map block_at) at ∙ found_in-is map c.args.id file c.args.block c.in-Some.key.now fit
    (sym (ap option_copied c.in-Some.is) ∙ c.nearest.ensures ∙ ap (nearest_of c.args.tree.now c.args.id c.args.block) c.as_slice.ensures
    ∙ ap (λ s. nearest_of s c.args.id c.args.block c.args.keys.now) (sym snaps) ∙ nearest_of-is map c.args.id file c.args.block c.args.keys.now is looked))
