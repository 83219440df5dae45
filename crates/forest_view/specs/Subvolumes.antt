-- What a forest is after the subvolumes of some keys came to it.
use Rattle.std.specs.Prelude.{ℕ, ◌==◌, ◌&&◌, Some, List, [], ◌∷◌, if◌then◌else◌}
use Rattle.forest_ops.specs.Parts.{with_tree}
use Rattle.plain_forest.specs.Forest.{Forest}
use Rattle.vol_digest.specs.Digests.{slot_of}
use Rattle.vol_types.specs.KeyMaps.{Entries, KeyMap}
use Rattle.vol_types.specs.declared.positions.Pos.{Pos}
use Rattle.vol_types.specs.declared.values.Sub.{Sub}
use Rattle.vol_types.specs.declared.values.Value.{Value}
use Rattle.key_meaning.specs.Forest.{subs_of, tree_of}
use Rattle.forest_view.specs.Meant.{no_blocks}

-- the forest with a subvolume and its tree, if it stands under its slot
abbrev pub with_sub : KeyMap → ℕ → Sub → Forest → Forest
with_sub keys slot sub forest = if slot_of sub.name == slot then with_tree sub.name (tree_of keys no_blocks sub) forest else forest

-- the forest with those of some subvolumes that stand under their slot
abbrev pub with_subs : KeyMap → ℕ → List Sub → Forest → Forest
with_subs keys slot [] forest = forest
with_subs keys slot (sub ∷ subs) forest = with_subs keys slot subs (with_sub keys slot sub forest)

-- the forest with the subvolumes of an entry, if it stands at the place of a slot
abbrev pub with_subs_at : KeyMap → Pos × Value → Forest → Forest
with_subs_at keys entry forest = if entry.0.inode == 0 && entry.0.snapshot == 0 then with_subs keys entry.0.offset (subs_of (Some entry.1)) forest else forest

-- the forest with the subvolumes of some entries
abbrev pub with_subvolumes : KeyMap → Entries → Forest → Forest
with_subvolumes keys [] forest = forest
with_subvolumes keys (entry ∷ entries) forest = with_subvolumes keys entries (with_subs_at keys entry forest)
