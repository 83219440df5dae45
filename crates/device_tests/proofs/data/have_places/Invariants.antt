use Rattle.std.proofs.Common.{◌<◌, ℕ, get_or}
use Rattle.dev_model.specs.Devices.{IsPlace}
use Rattle.dev_model.specs.Memory.{mem_state}
use Rattle.vol_types.specs.declared.pointers.Pointer.{Pointer}
use Rattle.device_tests.proofs.data.have_places.Given as goal

abbrev pub invariant-loop-pointer : goal.invariant-loop-pointer
invariant-loop-pointer l = (i : ℕ) (d : Pointer) → i < l.pointer-index → IsPlace (mem_state l.devices).sizes (get_or l.places i d).place.dev (get_or l.places i d).place.block
