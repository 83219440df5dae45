use Rattle.std.proofs.Common.{◌≡◌, drop}
use Rattle.geometry.specs.Layouts.{have_room}
use Rattle.geometry.proofs.layouts.have_room.Given as goal

abbrev pub invariant-loop-dev : goal.invariant-loop-dev
invariant-loop-dev l = have_room (drop l.dev l.blocks) (drop l.dev l.sizes) ≡ have_room l.blocks l.sizes
