use Rattle.std.proofs.Common.{◌<◌, ℕ, get_or, length}
use Rattle.vol_types.specs.declared.pointers.Place.{Place}
use Rattle.replay.specs.Roots.{IsOnMirror}
use Rattle.replay.proofs.roots.are_on_mirrors.Given as goal

abbrev pub invariant-loop-place : goal.invariant-loop-place
invariant-loop-place l = (k : ℕ) (none : Place) → k < l.place-index → k < length l.places → IsOnMirror l.layout (get_or l.places k none)
