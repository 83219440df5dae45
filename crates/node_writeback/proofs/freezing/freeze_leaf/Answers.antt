-- What is written of a leaf may stand, and what was frozen is what the btree has by durable entries alone.
use Rattle.std.proofs.Common.{◌≤◌, ℕ, subst, sym}
use Rattle.std.specs.Map.{values_of}
use Rattle.std.specs.Prelude.{All, OnOk}
use Rattle.node_mem.specs.Nodes.{Node, size_of}
use Rattle.vol_types.specs.Limits.{node_limit}
use Rattle.vol_types.specs.Standing.{MayStand}
use Rattle.node_writeback.specs.Freezing.{HasBirth}
use Rattle.node_writeback.proofs.freezing.freeze_leaf.Goals as goal

pub freeze_as-frozen-requires-clause-has : goal.freeze_as-frozen-requires-clause-has
freeze_as-frozen-requires-clause-has c = subst (λ (n : ℕ). HasBirth c.args.session n c.args.map.now.nodes) c.born.ensures.exact c.in-Some.ensures.some.1

pub freeze_as-frozen-requires-clause-stand : goal.freeze_as-frozen-requires-clause-stand
freeze_as-frozen-requires-clause-stand c =
    subst (λ (leaf : Node). All (MayStand c.args.btree 0) (values_of leaf.entries)) (sym c.in_ok-leaf.ensures) c.requires.stand

pub returns-clause-fits : goal.returns-clause-fits
returns-clause-fits c = subst (λ (leaf : Node). OnOk c.freeze_as-frozen.result (size_of leaf.entries ≤ node_limit)) c.in_ok-leaf.ensures c.freeze_as-frozen.ensures.fits
