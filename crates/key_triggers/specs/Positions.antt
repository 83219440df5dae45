-- Where the keys on space stand.
use Rattle.std.specs.Prelude.{◌/◌}
use Rattle.vol_types.specs.Limits.{bucket_blocks}
use Rattle.vol_types.specs.declared.pointers.Place.{Place}
use Rattle.vol_types.specs.declared.positions.Pos.{Pos}

-- where the key of a place's bucket stands
abbrev pub bucket_pos : Place → Pos
bucket_pos place = record { inode = place.dev; offset = place.block / bucket_blocks; snapshot = 0 }

-- where the key of a place's block stands
abbrev pub block_pos : Place → Pos
block_pos place = record { inode = place.dev; offset = place.block; snapshot = 0 }
