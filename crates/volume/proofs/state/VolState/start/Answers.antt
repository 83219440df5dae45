use Rattle.std.proofs.Common.{◌∙◌, ap}
use Rattle.core_volume.specs.Volumes.{Volume}
use Rattle.volume.proofs.Opened.{between_opened}
use Rattle.volume.proofs.state.VolState.start.Goals as goal

pub invariant_of-result : goal.invariant_of-result
invariant_of-result g c =
    let session = c.in_ok-of.field-0 in
    let opened = c.in_ok-of.ensures.opened in
    between_opened session.core.memory (ap (λ (volume : Volume). volume.halted) opened.volume.is) opened.actors opened.turn g.D.Devices.tells g.O.Opening.found g.O.Opening.start (g.D.Devices.state session.core.devices) session.trace session.shortages
    (ap g.D.Devices.state c.in_ok-of.ensures.devices ∙ c.requires.start) c.in_ok-of.ensures.trace c.in_ok-of.ensures.shortages
