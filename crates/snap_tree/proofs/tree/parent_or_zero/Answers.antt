use Rattle.std.proofs.Common.{◌≡◌, Some, sym}
use Rattle.std.specs.Ordering.{nat_cmp}
use Rattle.vol_types.specs.Maps.{value_at}
use Rattle.snap_tree.specs.ChainLaws.{chain_of-step}
use Rattle.snap_tree.specs.TreeLaws.{parent_joined, is_above}
use Rattle.snap_tree.proofs.tree.parent_or_zero.Goals as goal

pub returns-clause-chain : goal.returns-clause-chain
returns-clause-chain c =
    let snaps = c.args.snaps.now.entries in
    let snap = c.in-Some.snap.now in
    let found : value_at nat_cmp c.args.id snaps ≡ Some snap = sym c.in-Some.ensures.value in
    chain_of-step snaps c.args.id snap c.requires.tree.rises found (is_above snaps c.args.id snap.parent (parent_joined snaps c.args.id snap c.requires.tree.trees found))

pub returns-clause-above : goal.returns-clause-above
returns-clause-above c = parent_joined c.args.snaps.now.entries c.args.id c.in-Some.snap.now c.requires.tree.trees (sym c.in-Some.ensures.value)
