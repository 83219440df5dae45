use Rattle.std.proofs.Common.{◌≡◌, ◌<◌, ◌^◌, ℕ, length}
use Rattle.std.specs.Prelude.{slice_index}
use Rattle.snap_tree.specs.Snaps.{chain_of}
use Rattle.snap_tree.proofs.links.links_of.Given as goal

abbrev pub invariant-loop-level : goal.invariant-loop-level
invariant-loop-level l = ((j : ℕ) → j < l.level → slice_index l.above j ≡ slice_index (chain_of l.snaps.entries l.fn.id) (2 ^ j)) × (length l.above ≡ 32)
