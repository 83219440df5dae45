use Rattle.std.proofs.Common.{◌≡◌, Some, None, nat_cmp, arith, rules}
use Rattle.vol_types.specs.Maps.{value_at}
use Rattle.forest_view.proofs.ChainLaws.{chain_ended, chain_longer, chain_missing}
use Rattle.forest_view.proofs.chains.chain_of.Goals as goal

pub returns-then-snap-at : goal.returns-then-snap-at
returns-then-snap-at c =
    let found : value_at nat_cmp c.loop-snap.at c.args.snaps.now.entries ≡ Some c.in-Some.snap.now = search rules in
    chain_ended c.args.snaps.now.entries c.loop-snap.chain.keys c.insert.new.self.keys c.args.id c.loop-snap.at c.requires c.loop-snap.invariant c.in-Some.snap.now found c.in_ok-insert.ensures.keys (omega arith)

pub loop-snap-preserved : goal.loop-snap-preserved
loop-snap-preserved c =
    let found : value_at nat_cmp c.loop-snap.at c.args.snaps.now.entries ≡ Some c.in-Some.snap.now = search rules in
    chain_longer c.args.snaps.now.entries c.loop-snap.chain.keys c.insert.new.self.keys c.args.id c.loop-snap.at c.requires c.loop-snap.invariant c.in-Some.snap.now found c.in_ok-insert.ensures.keys (omega arith)

pub returns : goal.returns
returns c =
    let none : value_at nat_cmp c.loop-snap.at c.args.snaps.now.entries ≡ None = search rules in
    chain_missing c.args.snaps.now.entries c.loop-snap.chain.keys c.loop-snap.chain.keys c.args.id c.loop-snap.at c.requires c.loop-snap.invariant none
