use Rattle.std.proofs.Common.{◌≡◌, ◌<◌, IfSome, length, sym, subst}
use Rattle.core_state.specs.Events.{Fits}
use Rattle.dev_model.specs.Frames.{GoOn, after_writes}
use Rattle.replay.specs.Mending.{KeepsPast}
use Rattle.vol_core.specs.Left.{KeepsLeft, failed_by}
use Rattle.vol_core.specs.Safety.{KeepsDurable}
use Rattle.vol_core.proofs.FilesStepped.{files_stepped}
use Rattle.vol_core.proofs.Going.{step_called, step_names}
use Rattle.vol_core.proofs.KeptDurable.{kept_durable, left_stepped}
use Rattle.vol_core.proofs.RingStepped.{ring_stepped, room_stepped}
use Rattle.vol_core.proofs.Stepped.{stepped}
use Rattle.vol_core.proofs.machine.Core.step.Goals as goal

pub invariant_of-self : goal.invariant_of-self
invariant_of-self g c = record {
  lies = c.make.ensures.layout;
  safe = λ tells begins.
      stepped c.open_volumes_have_laws.ensures g.O.Opening.found g.O.Opening.start g.D.Devices.tells tells g.D.Devices.state
      (record { memory = c.self.inside.memory; devices = c.self.inside.devices }) (record { memory = c.make.new.memory; devices = c.make.new.devices }) c.see_kept.ensures.kept c.see_kept.ensures.parts
      (c.self.invariant.ring (c.self.invariant.may.ring tells begins)) (c.self.invariant.safe tells begins) (g.met.D.Devices.sound tells c.make.new.devices) (g.met.D.Devices.steady tells c.make.new.devices) c.args.actor c.args.event c.make.result c.make.ensures.gives;
  may = c.self.invariant.may;
  ring = λ may.
      ring_stepped g.D.Devices.tells g.D.Devices.state (record { memory = c.self.inside.memory; devices = c.self.inside.devices }) (record { memory = c.make.new.memory; devices = c.make.new.devices })
      c.open_volumes_have_laws.ensures.places c.open_volumes_have_laws.ensures.exchanges c.see_kept.ensures.kept (c.self.invariant.ring may) c.args.actor c.args.event c.make.result c.make.ensures.gives;
  room = λ may.
      room_stepped g.D.Devices.tells g.D.Devices.state (record { memory = c.self.inside.memory; devices = c.self.inside.devices }) (record { memory = c.make.new.memory; devices = c.make.new.devices })
      c.open_volumes_have_laws.ensures.places c.see_kept.ensures.kept c.see_kept.ensures.parts (c.self.invariant.ring may.ring) (c.self.invariant.room may) c.args.actor c.args.event c.make.result c.make.ensures.gives;
  files = λ tells begins sound.
      files_stepped c.open_volumes_have_laws.ensures g.O.Opening.found g.O.Opening.start g.D.Devices.tells tells g.D.Devices.state
      (record { memory = c.self.inside.memory; devices = c.self.inside.devices }) (record { memory = c.make.new.memory; devices = c.make.new.devices }) c.see_kept.ensures.kept c.see_kept.ensures.parts
      (c.self.invariant.safe tells begins) begins sound (c.self.invariant.files tells begins sound) c.args.actor c.args.event c.make.result c.make.ensures.gives;
}

pub returns-clause-keeps : goal.returns-clause-keeps
returns-clause-keeps g c = λ tells begins.
    subst (λ self. KeepsDurable g.O.Opening.start (g.D.Devices.state self.devices) (g.D.Devices.state c.make.new.devices) self.memory.volume) c.self.view_is
    (kept_durable c.open_volumes_have_laws.ensures g.O.Opening.found g.O.Opening.start g.D.Devices.tells tells g.D.Devices.state
    (record { memory = c.self.inside.memory; devices = c.self.inside.devices }) (record { memory = c.make.new.memory; devices = c.make.new.devices }) c.see_kept.ensures.kept c.see_kept.ensures.parts
    (c.self.invariant.safe tells begins) (g.met.D.Devices.sound tells c.make.new.devices) (g.met.D.Devices.steady tells c.make.new.devices) c.args.actor c.args.event c.make.result c.make.ensures.gives)

pub returns-clause-left : goal.returns-clause-left
returns-clause-left g c = λ tells begins.
    subst (λ self. KeepsLeft g.O.Opening.found g.O.Opening.start (g.D.Devices.state self.devices) (g.D.Devices.state c.make.new.devices) self.memory.volume) c.self.view_is
    (left_stepped c.open_volumes_have_laws.ensures g.O.Opening.found g.O.Opening.start g.D.Devices.tells tells g.D.Devices.state
    (record { memory = c.self.inside.memory; devices = c.self.inside.devices }) (record { memory = c.make.new.memory; devices = c.make.new.devices }) c.see_kept.ensures.kept c.see_kept.ensures.parts
    (c.self.invariant.safe tells begins) (g.met.D.Devices.sound tells c.make.new.devices) (g.met.D.Devices.steady tells c.make.new.devices) begins (c.self.invariant.ring (c.self.invariant.may.ring tells begins))
    (λ leaves. c.self.invariant.room (c.self.invariant.may.room tells begins leaves)) (c.self.invariant.files tells begins)
    c.args.actor c.args.event c.make.result c.make.ensures.gives)

pub returns-clause-goes_on : goal.returns-clause-goes_on
returns-clause-goes_on g c = subst (λ self. GoOn (g.D.Devices.state self.devices) (g.D.Devices.state c.make.new.devices)) c.self.view_is c.make.ensures.goes_on

pub returns-clause-past : goal.returns-clause-past
returns-clause-past g c = λ tells.
    subst (λ self. KeepsPast (g.D.Devices.state self.devices) (g.D.Devices.state c.make.new.devices)) c.self.view_is
    ((step_called g.D.Devices.tells g.D.Devices.state (record { memory = c.self.inside.memory; devices = c.self.inside.devices }) (record { memory = c.make.new.memory; devices = c.make.new.devices })
    c.args.actor c.make.result c.args.event c.make.ensures.gives).past tells)

pub returns-clause-cause : goal.returns-clause-cause
returns-clause-cause g c =
    subst (λ self. (g.D.Devices.state c.make.new.devices).faults ≡ after_writes (failed_by c.make.result) (g.D.Devices.state self.devices).faults) c.self.view_is
    (step_called g.D.Devices.tells g.D.Devices.state (record { memory = c.self.inside.memory; devices = c.self.inside.devices }) (record { memory = c.make.new.memory; devices = c.make.new.devices })
    c.args.actor c.make.result c.args.event c.make.ensures.gives).cause

pub returns-clause-device : goal.returns-clause-device
returns-clause-device g c =
    subst (λ self. IfSome (failed_by c.make.result) (λ dev. dev < length (g.D.Devices.state self.devices).sizes)) c.self.view_is
    (step_names g.D.Devices.tells g.D.Devices.state (record { memory = c.self.inside.memory; devices = c.self.inside.devices }) (record { memory = c.make.new.memory; devices = c.make.new.devices })
    c.args.actor c.make.result (g.D.Devices.state c.self.inside.devices).sizes c.self.invariant.lies c.see_kept.ensures.kept c.see_kept.ensures.parts c.args.event
    (subst (λ self. Fits self.memory c.args.actor c.args.event) (sym c.self.view_is) c.requires) c.make.ensures.gives)
