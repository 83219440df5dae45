use Rattle.std.proofs.Common.{◌<◌, length, subst}
use Rattle.std.specs.Prelude.{IfSome}
use Rattle.dev_model.specs.Frames.{AreAfterCalls}
use Rattle.geometry.specs.Faults.{failed_device}
use Rattle.shell.proofs.Formatted.{format_done, format_failed, holds_fresh}
use Rattle.shell.proofs.run.format_devices.Goals as goal

pub returns-in-Ok-clause-formats : goal.returns-in-Ok-clause-formats
returns-in-Ok-clause-formats g c =
    let D = g.D.Devices in
    let K = g.K.Sink in
    format_done D.state K.tells D.tells c.args.layout.now c.args.devices c.format.new.devices c.end_told.result.devices c.args.line.now
    (K.held c.args.sink.now) (K.held c.end_told.new.sink) (K.faults c.args.sink.now) (K.faults c.end_told.new.sink) c.end_told.result.status c.end_told.result.early_end c.end_told.result.trace c.end_told.result.acks
    c.requires.line c.format.ensures.moment c.format.ensures.survives (λ told. holds_fresh c.fresh_volumes_may_run.ensures.may c.fresh_volumes_may_run.ensures.room c.args.layout.now (D.state c.format.new.devices) c.requires.layout (c.in-Ok.ensures.done told))
    (subst (λ result. AreAfterCalls (failed_device result) (D.state c.args.devices).faults (D.state c.format.new.devices).faults) c.in-Ok.is c.format.ensures.cause)
    c.end_told.ensures.devices c.end_told.ensures.early c.end_told.ensures.ends

pub returns-in-Err-clause-formats : goal.returns-in-Err-clause-formats
returns-in-Err-clause-formats g c =
    let D = g.D.Devices in
    let K = g.K.Sink in
    format_failed D.state K.tells D.tells c.args.layout.now c.args.devices c.format.new.devices c.end_early.result.devices c.in-Err.fault c.from.result
    (K.held c.args.sink.now) (K.held c.end_early.new.sink) (K.faults c.args.sink.now) (K.faults c.end_early.new.sink) c.end_early.result.status c.end_early.result.early_end c.end_early.result.trace c.end_early.result.acks
    c.from.ensures c.format.ensures.moment c.format.ensures.survives
    (subst (λ result. IfSome (failed_device result) (λ dev. dev < length (D.state c.args.devices).sizes)) c.in-Err.is c.format.ensures.device)
    (subst (λ result. AreAfterCalls (failed_device result) (D.state c.args.devices).faults (D.state c.format.new.devices).faults) c.in-Err.is c.format.ensures.cause)
    c.end_early.ensures.devices c.end_early.ensures.early c.end_early.ensures.ends
