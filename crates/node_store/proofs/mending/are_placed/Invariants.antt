use Rattle.std.proofs.Common.{◌<◌, ℕ, get_or, length}
use Rattle.vol_types.specs.declared.pointers.Place.{Place}
use Rattle.node_store.specs.Mending.{IsPlaced}
use Rattle.node_store.proofs.mending.are_placed.Given as goal

abbrev pub invariant-loop-dev : goal.invariant-loop-dev
invariant-loop-dev l = (k : ℕ) (none : Place) → k < l.dev → k < length l.places → IsPlaced l.layout k (get_or l.places k none)
