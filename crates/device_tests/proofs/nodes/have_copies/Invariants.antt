use Rattle.std.proofs.Common.{◌+◌, ◌<◌, ℕ, get_or}
use Rattle.dev_model.specs.Devices.{IsPlace}
use Rattle.dev_model.specs.Memory.{mem_state}
use Rattle.vol_types.specs.declared.pointers.Place.{Place}
use Rattle.device_tests.proofs.nodes.have_copies.Given as goal

abbrev pub invariant-loop-place : goal.invariant-loop-place
invariant-loop-place l = (i : ℕ) (d : Place) → i < l.place-index → IsPlace (mem_state l.devices).sizes (get_or l.places i d).dev ((get_or l.places i d).block + l.n)
