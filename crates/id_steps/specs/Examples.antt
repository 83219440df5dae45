-- A small tree of ids through two snapshots, a further subvolume and a removal; and subvolumes whose names share a slot.
use Rattle.std.specs.Prelude.{Bool, false, [], ◌∷◌, codes}
use Rattle.id_steps.specs.Ids.{with_dead, with_root}
use Rattle.id_steps.specs.Steps.{copied_to, moved_to}
use Rattle.snap_tree.specs.Snaps.{Snaps}
use Rattle.snap_tree.specs.Splits.{leaf_under, split_snaps}
use Rattle.vol_types.specs.declared.values.Sub.{Sub}

-- one subvolume, in the id 100
abbrev pub one_id : Snaps
one_id = (100, leaf_under 0) ∷ []

-- a snapshot is made of it: it goes on in 99, and the copy has 98
abbrev pub snapshot_ids : Snaps
snapshot_ids = split_snaps one_id 100 99 (leaf_under 0)

-- a snapshot is made of the copy, which goes on in 97, and its copy has 96
abbrev pub second_ids : Snaps
second_ids = split_snaps snapshot_ids 98 97 (leaf_under 100)

-- another subvolume is made, in 95, and the second copy is removed
abbrev pub last_ids : Snaps
last_ids = with_dead 96 (leaf_under 98) (with_root 95 second_ids)

-- the first subvolume, which may be written to
abbrev pub plain : Sub
plain = record { id = 100; root = 1; read_only = false; name = codes "a" }

-- it after the snapshot
abbrev pub plain_then : Sub
plain_then = moved_to 99 plain

-- the copy, which may only be read, or else
abbrev pub copy_of : Bool → Sub
copy_of locked = copied_to 98 (codes "b") locked plain
