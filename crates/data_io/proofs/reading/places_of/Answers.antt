use Rattle.vol_types.specs.declared.pointers.Pointer.{Pointer}
use Rattle.data_io.proofs.PassedPlaces.{places_more}
use Rattle.data_io.proofs.reading.places_of.Goals as goal

pub loop-pointer-preserved : goal.loop-pointer-preserved
loop-pointer-preserved c =
    let none : Pointer = record { place = record { dev = 0; block = 0 }; generation = 0 } in
    places_more c.args.pointers.now c.loop-pointer.pointer-index none c.loop-pointer.places c.push.new.self c.loop-pointer-test.true c.loop-pointer.invariant c.in_ok-push.ensures.ok
