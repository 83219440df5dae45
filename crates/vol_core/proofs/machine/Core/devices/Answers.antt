use Rattle.std.proofs.Common.{◌≡◌, subst}
use Rattle.core_volume.specs.Volumes.{Volume}
use Rattle.vol_core.specs.Left.{KeepsLeft}
use Rattle.vol_core.specs.Safety.{Survives}
use Rattle.vol_core.proofs.KeptDurable.{left_now}
use Rattle.vol_core.proofs.Surviving.{survives}
use Rattle.vol_core.proofs.machine.Core.devices.Goals as goal

pub returns-clause-survives : goal.returns-clause-survives
returns-clause-survives g c = λ tells begins.
    let same : c.self.inside.memory.volume ≡ c.args.self.now.memory.volume = λ i. (c.self.view_is i).memory.volume in
    subst (λ (volume : Volume). Survives g.O.Opening.found g.O.Opening.start (g.D.Devices.state c.self.inside.devices) volume) same
    (survives c.entries_are_written_safely.ensures.whole g.O.Opening.found g.O.Opening.start (g.D.Devices.state c.self.inside.devices) c.self.inside.memory.volume (c.self.invariant.safe tells begins))

pub returns-clause-left : goal.returns-clause-left
returns-clause-left g c = λ tells begins.
    let same : c.self.inside.memory.volume ≡ c.args.self.now.memory.volume = λ i. (c.self.view_is i).memory.volume in
    subst (λ (volume : Volume). KeepsLeft g.O.Opening.found g.O.Opening.start (g.D.Devices.state c.self.inside.devices) (g.D.Devices.state c.self.inside.devices) volume) same
    (left_now c.entries_are_written_safely.ensures.whole g.O.Opening.found g.O.Opening.start (g.D.Devices.state c.self.inside.devices) c.self.inside.memory.volume (c.self.invariant.safe tells begins) begins
    (c.self.invariant.ring (c.self.invariant.may.ring tells begins)) (λ leaves. c.self.invariant.room (c.self.invariant.may.room tells begins leaves)) (c.self.invariant.files tells begins))
