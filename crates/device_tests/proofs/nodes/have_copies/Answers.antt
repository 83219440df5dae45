use Rattle.std.proofs.Common.{◌+◌, ◌<◌, subst, arith}
use Rattle.dev_model.specs.Devices.{IsPlace}
use Rattle.dev_model.specs.Memory.{mem_state}
use Rattle.vol_types.specs.declared.pointers.Place.{Place}
use Rattle.device_tests.proofs.nodes.have_copies.Goals as goal

pub returns : goal.returns
returns c done place (k, within, at) =
    let seen : k < c.loop-place.place-index = omega (arith, within, c.loop-place-test.false) in
    subst (λ (p : Place). IsPlace (mem_state c.args.devices.now).sizes p.dev (p.block + c.args.n)) at (c.loop-place.invariant k place seen)
