-- A leaf that isn't too large, with a birth that is left, finds no place.
use Rattle.std.proofs.Common.{rules, ◌≤◌, arith}
use Rattle.node_mem.specs.Nodes.{size_of}
use Rattle.vol_types.specs.Limits.{node_limit}
use Rattle.node_writeback.proofs.freezing.freeze_as.Goals as goal

pub returns-in_err-places-clause-why : goal.returns-in_err-places-clause-why
returns-in_err-places-clause-why c =
    let small : size_of c.args.leaf.now.entries ≤ node_limit = omega (arith, c.size.ensures.exact, c.if-size-gt-NODE_LIMIT.false) in
    let why = c.in_err-places.ensures.why c.args.session c.args.nodes.now.born c.args.root c.args.map.now.nodes c.args.leaf.now.entries c.requires.has small in
    search (rules, why)
