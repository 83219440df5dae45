use Rattle.std.proofs.Common.{◌≡◌}
use Rattle.std.specs.Prelude.{slice_get}
use Rattle.std.specs.Map.{keys_of}
use Rattle.tree_keys.proofs.copies.position_at.Given as goal

abbrev pub invariant-loop-pos : goal.invariant-loop-pos
invariant-loop-pos l = slice_get (keys_of l.pos-iterator) l.left ≡ slice_get (keys_of l.fn.values) l.place
