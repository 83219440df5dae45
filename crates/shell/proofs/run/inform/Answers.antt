use Rattle.std.proofs.Common.{inl, inr}
use Rattle.shell.proofs.Informing.{told_found, told_nothing}
use Rattle.shell.proofs.run.inform.Goals as goal

pub returns-in-Ok-clause-informs : goal.returns-in-Ok-clause-informs
returns-in-Ok-clause-informs g c =
    let D = g.D.Devices in
    let K = g.K.Sink in
    let ended = c.end_told-ended.result in
    let told = c.end_told-ended.ensures in
    inl (told_found D.state K.tells D.tells (K.held c.args.sink.now) (K.held c.end_told-ended.new.sink) (K.faults c.args.sink.now) (K.faults c.end_told-ended.new.sink) ended.status ended.early_end ended.trace ended.acks
    c.args.devices c.info_text.new.devices ended.devices told.devices c.info_text.ensures.read c.in-Ok.text c.in-Ok.ensures.text told.early told.ends)

pub returns-in-Err-clause-informs : goal.returns-in-Err-clause-informs
returns-in-Err-clause-informs g c =
    let D = g.D.Devices in
    let K = g.K.Sink in
    let ended = c.end_early.result in
    let early = c.end_early.ensures in
    inr (told_nothing D.state K.tells D.tells (K.held c.args.sink.now) (K.held c.end_early.new.sink) (K.faults c.args.sink.now) (K.faults c.end_early.new.sink) ended.status ended.early_end ended.trace ended.acks
    c.args.devices c.info_text.new.devices ended.devices early.devices c.info_text.ensures.read c.in-Err.end c.in-Err.ensures.cause early.early early.ends)
