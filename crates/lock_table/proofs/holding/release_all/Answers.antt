use Rattle.std.proofs.Common.{◌<◌, ◌+◌, ℕ, sym, subst}
use Rattle.std.proofs.lemmas.Option.{slice_get-get_or}
use Rattle.lock_table.proofs.Released.{releases_more, releases_all, ReleasesTo}
use Rattle.lock_table.proofs.holding.release_all.Goals as goal

pub release_node-gone-requires : goal.release_node-gone-requires
release_node-gone-requires c = λ node is. subst (λ (n : ℕ). c.args.actor < n) (sym (c.loop-birth.invariant.in_use _ node is).sized) c.requires.actor

pub loop-birth-preserved : goal.loop-birth-preserved
loop-birth-preserved c = record {
  so_far = subst
      (λ (n : ℕ). ReleasesTo c.args.sequence.now c.args.nodes.now.entries c.args.actor c.args.births.now (c.loop-birth.birth-index + 1) n c.release_node-gone.new.nodes.entries)
      (sym c.raised.ensures)
      (releases_more c.args.sequence.now c.loop-birth.sequence c.args.nodes.now.entries c.loop-birth.nodes.entries c.release_node-gone.new.nodes.entries c.args.actor c.args.births.now c.loop-birth.birth-index _ c.release_node-gone.result c.loop-birth.invariant.so_far
      (slice_get-get_or c.args.births.now c.loop-birth.birth-index 0 c.loop-birth-test.true) c.release_node-gone.ensures.releases c.release_node-gone.ensures.was_held);
  in_use = c.release_node-gone.ensures.in_use c.args.count c.loop-birth.invariant.in_use;
}

pub returns-clause-releases : goal.returns-clause-releases
returns-clause-releases c = releases_all c.args.sequence.now c.loop-birth.sequence c.args.nodes.now.entries c.loop-birth.nodes.entries c.args.actor c.args.births.now c.loop-birth.birth-index c.loop-birth-test.false c.loop-birth.invariant.so_far
