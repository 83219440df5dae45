use Rattle.std.proofs.Common.{rules}
use Rattle.dev_model.specs.Devices.{now}
use Rattle.vol_core.specs.Rested.{MayKeepRing}
use Rattle.vol_core.specs.Safety.{MayBegin}
use Rattle.vol_core.proofs.RingOpened.{may_keep_ring, opened_ring}
use Rattle.vol_core.proofs.RoomOpened.{may_keep_room, opened_room}
use Rattle.vol_core.proofs.FilesOpened.{opened_files}
use Rattle.vol_core.proofs.Opened.{opened_core}
use Rattle.vol_core.proofs.machine.Core.of.Goals as goal

pub invariant_of-result : goal.invariant_of-result
invariant_of-result g c = record {
  lies = search rules;
  safe = λ tells begins.
      opened_core c.open_volumes_have_laws.ensures c.found_volumes_have_laws.ensures c.args.loaded c.in-Ok.memory g.O.Opening.found g.O.Opening.start (g.D.Devices.state c.args.devices) c.requires.opening c.requires.start c.requires.layout
      c.in-Ok.ensures begins (g.met.D.Devices.sound tells c.args.devices);
  may =
      let ring : g.D.Devices.tells → MayBegin g.O.Opening.found (now g.O.Opening.start) → MayKeepRing g.O.Opening.found = λ tells begins.
      may_keep_ring c.found_volumes_have_laws.ensures c.args.loaded c.in-Ok.memory g.O.Opening.found g.O.Opening.start (g.D.Devices.state c.args.devices) c.requires.opening c.requires.layout c.in-Ok.ensures begins
      (opened_core c.open_volumes_have_laws.ensures c.found_volumes_have_laws.ensures c.args.loaded c.in-Ok.memory g.O.Opening.found g.O.Opening.start (g.D.Devices.state c.args.devices) c.requires.opening c.requires.start c.requires.layout
      c.in-Ok.ensures begins (g.met.D.Devices.sound tells c.args.devices)) in
      record { ring = ring; room = λ tells begins leaves. may_keep_room c.open_volumes_have_laws.ensures.places_of_entries g.O.Opening.found g.O.Opening.start begins (ring tells begins) leaves };
  ring = opened_ring c.args.loaded c.in-Ok.memory g.O.Opening.found c.requires.opening c.in-Ok.ensures;
  room = opened_room c.args.loaded c.in-Ok.memory g.O.Opening.found c.requires.opening c.in-Ok.ensures;
  files = λ tells begins sound.
      opened_files c.open_volumes_have_laws.ensures c.found_volumes_have_laws.ensures c.args.loaded c.in-Ok.memory g.O.Opening.found g.O.Opening.start (g.D.Devices.state c.args.devices) c.requires.opening c.requires.start c.requires.layout
      c.in-Ok.ensures begins (g.met.D.Devices.sound tells c.args.devices) sound;
}
