use Rattle.std.proofs.Common.{◌≡◌, drop}
use Rattle.std.specs.Prelude.{find}
use Rattle.geometry.specs.Superblocks.{has_form}
use Rattle.geometry.proofs.judging.model_copy.Given as goal

abbrev pub invariant-loop-copy : goal.invariant-loop-copy
invariant-loop-copy l = find (λ copy. has_form copy.payload) (drop l.copy-index l.copies) ≡ find (λ copy. has_form copy.payload) l.copies
