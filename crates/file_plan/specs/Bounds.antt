-- How many updates a change of a file's content makes at most.
use Rattle.std.specs.Prelude.{ℕ, ◌+◌, ◌-◌, ◌*◌, List, length}
use Rattle.std.specs.List.{sum_by}
use Rattle.vol_types.specs.declared.queries.Look.{Look}
use Rattle.extent_ops.specs.Bounds.{blocks_in_all}
use Rattle.file_plan.specs.Sizes.{blocks_up_to, cut_size}
use Rattle.file_plan.specs.declared.change.Change.{Change}
use Rattle.file_plan.specs.declared.change.Change.TheVariants.{Put, Cut}

-- how many updates a change of a file of this size makes at most: one for each block that is put or cut, two for each extent that is put, and two for a cut
abbrev pub most_updates : ℕ → Change → ℕ
most_updates size (Put first extents) = blocks_in_all extents + 2 * length extents
most_updates size (Cut new_size) = (blocks_up_to size - blocks_up_to (cut_size size new_size)) + 2

-- how many keys some looks gave
abbrev pub keys_seen : List Look → ℕ
keys_seen looks = sum_by (λ look. length look.answer) looks

-- how many updates a change makes at most beside one for each key that is looked at
abbrev pub most_beside : Change → ℕ
most_beside (Put first extents) = 2 * length extents
most_beside (Cut new_size) = 1
