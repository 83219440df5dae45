use Rattle.std.proofs.Common.{◌≡◌, ◌++◌, ◌-◌, ◌^◌}
use Rattle.snap_tree.specs.Snaps.{chain_of}
use Rattle.forest_view.proofs.chains.chain_of.Given as goal

abbrev pub invariant-loop-snap : goal.invariant-loop-snap
invariant-loop-snap l = l.chain.keys ++ chain_of l.snaps.entries l.at ≡ chain_of l.snaps.entries l.id

abbrev pub decreases-loop-snap : goal.decreases-loop-snap
decreases-loop-snap l = 2 ^ 32 - l.at
