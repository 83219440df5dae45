use Rattle.std.proofs.Common.{Err, ap, ◌∙◌}
use Rattle.image_view.specs.declared.fault.MountFault.{MountFault}
use Rattle.vol_info.specs.Lines.{facts_lines}
use Rattle.shell.specs.EarlyEnds.{end_of_mount}
use Rattle.shell.specs.Mounts.{InfoCause}
use Rattle.shell.proofs.Informing.{read_ended}
use Rattle.shell.proofs.Preparing.{handed_on}
use Rattle.shell.proofs.info.info_text.Goals as goal

pub returns-in_err-facts-clause-cause : goal.returns-in_err-facts-clause-cause
returns-in_err-facts-clause-cause g c =
    let D = g.D.Devices in
    let old = D.state c.args.devices.now in
    let new = D.state c.read_facts.new.devices in
    let fault = c.in_err-facts.field-0.0 in
    handed_on c.from_residual.result (InfoCause D.tells old new) (end_of_mount fault) c.from_residual.ensures.1
    (read_ended D.tells old new fault c.in_err-facts.ensures.fault
    (λ told is. c.read_facts.ensures.early told fault c.in_err-facts.was is)
    (λ check is. c.read_facts.ensures.untested check (c.in_err-facts.was ∙ ap (λ (f : MountFault). Err f) is))
    c.in_err-facts.ensures.cause)

pub returns-in-Ok-clause-text : goal.returns-in-Ok-clause-text
returns-in-Ok-clause-text g c =
    let facts = c.in_ok-facts.ensures.facts in
    record { f = facts.f; lines = c.in-Ok.ensures ∙ ap facts_lines facts.are; was = facts.was }
