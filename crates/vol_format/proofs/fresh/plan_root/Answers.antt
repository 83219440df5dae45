-- The set of a root may be stored, and the root lies somewhere.
use Rattle.std.proofs.Common.{◌<◌, length, sym, subst}
use Rattle.record_codec.specs.Sets.{IsSetInRange}
use Rattle.vol_types.specs.declared.pointers.NodePtr.{NodePtr}
use Rattle.vol_format.proofs.EntryFits.{root_placed_somewhere}
use Rattle.vol_format.proofs.RootSets.{set_in_range}
use Rattle.vol_format.proofs.fresh.plan_root.Goals as goal

pub plan_set-requires-clause-set : goal.plan_set-requires-clause-set
plan_set-requires-clause-set c = subst IsSetInRange (sym c.in_ok-set.ensures) (set_in_range c.args.btree c.slot_fits.ensures)

pub plan_set-requires-clause-places : goal.plan_set-requires-clause-places
plan_set-requires-clause-places c = subst (λ (root : NodePtr). 0 < length root.places) (sym c.in_ok-root.ensures.root) (root_placed_somewhere c.args.layout.now c.code.result c.requires.layout)
