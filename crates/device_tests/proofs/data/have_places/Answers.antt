use Rattle.std.proofs.Common.{◌≡◌, ◌<◌, ◌∙◌, get_or, length, subst, sym, arith}
use Rattle.dev_model.specs.Devices.{IsPlace}
use Rattle.dev_model.specs.Memory.{mem_state}
use Rattle.vol_types.specs.declared.pointers.Place.{Place}
use Rattle.data_io.proofs.WrittenPlaces.{get_or-places_of, length-places_of, no_pointer}
use Rattle.device_tests.proofs.data.have_places.Goals as goal

pub returns : goal.returns
returns c done place (k, within, at) =
    let pointers = c.args.places.now in
    let there : k < length pointers = omega (arith, within, length-places_of pointers) in
    let seen : k < c.loop-pointer.pointer-index = omega (arith, there, c.loop-pointer-test.false) in
    subst (λ (p : Place). IsPlace (mem_state c.args.devices.now).sizes p.dev p.block) (sym (get_or-places_of pointers k place no_pointer there) ∙ at) (c.loop-pointer.invariant k no_pointer seen)
