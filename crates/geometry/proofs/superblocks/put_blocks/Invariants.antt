use Rattle.std.proofs.Common.{◌≡◌, ◌+◌, ◌*◌, ◌++◌, take}
use Rattle.std.specs.Int.{w32, to_le_bytes}
use Rattle.std.specs.List.{flat_map}
use Rattle.geometry.proofs.superblocks.put_blocks.Given as goal

abbrev pub invariant-loop-dev : goal.invariant-loop-dev
invariant-loop-dev l = take (8 + 4 * l.dev) l.into ≡ take 8 l.fn.into ++ flat_map (to_le_bytes w32) (take l.dev l.blocks)
