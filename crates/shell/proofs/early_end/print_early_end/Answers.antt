use Rattle.std.proofs.Common.{◌≡◌, ◌++◌, ap, ◌∙◌, ℕ, List, sym}
use Rattle.std.specs.Prelude.{codes, decimal}
use Rattle.script_text.specs.declared.reading.LineFault.{LineFault}
use Rattle.shell.specs.Outcome.{bad_end, early_line}
use Rattle.shell.specs.declared.early_end.EarlyEnd.{EarlyEnd}
use Rattle.shell.specs.declared.early_end.EarlyEnd.TheVariants.{BadLine, Device, OutOfMemory, Refused, Source, TooLong, Usage}
use Rattle.shell.proofs.EarlyEnds.{given_as, prefix_as}
use Rattle.shell.proofs.early_end.print_early_end.Goals as goal

-- the line of a bad line
bad_line : (end : EarlyEnd) (line : ℕ) (cause : LineFault) (number : ℕ) (text : List ℕ) → end ≡ BadLine line cause → number ≡ line → text ≡ bad_end cause → codes "error 2 line " ++ decimal number ++ text ≡ early_line end
bad_line end line cause number text is same ends =
    ap (λ (n : ℕ). codes "error 2 line " ++ decimal n ++ text) same ∙ ap (λ (list : List ℕ). codes "error 2 line " ++ decimal line ++ list) ends ∙ ap early_line (sym is)

-- the line of a device that failed
device_line : (end : EarlyEnd) (dev number : ℕ) → end ≡ Device dev → number ≡ dev → codes "error 6 device " ++ decimal number ++ codes "\n" ≡ early_line end
device_line end dev number is same = ap (λ (n : ℕ). codes "error 6 device " ++ decimal n ++ codes "\n") same ∙ ap early_line (sym is)

pub returns-in-Usage-clause-ok : goal.returns-in-Usage-clause-ok
returns-in-Usage-clause-ok g c tells =
    let K = g.K.Sink in
    given_as c.give_all.result (K.held c.args.sink.now) (K.held c.give_all.new.sink) (early_line Usage) (early_line c.args.end)
    (ap early_line (sym c.in-Usage.is)) (c.give_all.ensures.ok tells)

pub returns-in-Usage-clause-failed : goal.returns-in-Usage-clause-failed
returns-in-Usage-clause-failed g c tells =
    let K = g.K.Sink in
    prefix_as c.give_all.result (K.held c.args.sink.now) (K.held c.give_all.new.sink) (early_line Usage) (early_line c.args.end)
    (ap early_line (sym c.in-Usage.is)) (c.give_all.ensures.failed tells)

pub returns-in-TooLong-clause-ok : goal.returns-in-TooLong-clause-ok
returns-in-TooLong-clause-ok g c tells =
    let K = g.K.Sink in
    given_as c.give_all-in-TooLong.result (K.held c.args.sink.now) (K.held c.give_all-in-TooLong.new.sink) (early_line TooLong) (early_line c.args.end)
    (ap early_line (sym c.in-TooLong.is)) (c.give_all-in-TooLong.ensures.ok tells)

pub returns-in-TooLong-clause-failed : goal.returns-in-TooLong-clause-failed
returns-in-TooLong-clause-failed g c tells =
    let K = g.K.Sink in
    prefix_as c.give_all-in-TooLong.result (K.held c.args.sink.now) (K.held c.give_all-in-TooLong.new.sink) (early_line TooLong) (early_line c.args.end)
    (ap early_line (sym c.in-TooLong.is)) (c.give_all-in-TooLong.ensures.failed tells)

pub returns-in-OutOfMemory-clause-ok : goal.returns-in-OutOfMemory-clause-ok
returns-in-OutOfMemory-clause-ok g c tells =
    let K = g.K.Sink in
    given_as c.give_all-in-OutOfMemory.result (K.held c.args.sink.now) (K.held c.give_all-in-OutOfMemory.new.sink) (early_line OutOfMemory) (early_line c.args.end)
    (ap early_line (sym c.in-OutOfMemory.is)) (c.give_all-in-OutOfMemory.ensures.ok tells)

pub returns-in-OutOfMemory-clause-failed : goal.returns-in-OutOfMemory-clause-failed
returns-in-OutOfMemory-clause-failed g c tells =
    let K = g.K.Sink in
    prefix_as c.give_all-in-OutOfMemory.result (K.held c.args.sink.now) (K.held c.give_all-in-OutOfMemory.new.sink) (early_line OutOfMemory) (early_line c.args.end)
    (ap early_line (sym c.in-OutOfMemory.is)) (c.give_all-in-OutOfMemory.ensures.failed tells)

pub returns-in-Refused-clause-ok : goal.returns-in-Refused-clause-ok
returns-in-Refused-clause-ok g c tells =
    let K = g.K.Sink in
    given_as c.print_refusal.result (K.held c.args.sink.now) (K.held c.print_refusal.new.sink) (early_line (Refused c.in-Refused.refusal)) (early_line c.args.end)
    (ap early_line (sym c.in-Refused.is)) (c.print_refusal.ensures.ok tells)

pub returns-in-Refused-clause-failed : goal.returns-in-Refused-clause-failed
returns-in-Refused-clause-failed g c tells =
    let K = g.K.Sink in
    prefix_as c.print_refusal.result (K.held c.args.sink.now) (K.held c.print_refusal.new.sink) (early_line (Refused c.in-Refused.refusal)) (early_line c.args.end)
    (ap early_line (sym c.in-Refused.is)) (c.print_refusal.ensures.failed tells)

pub returns-in-BadLine-clause-ok : goal.returns-in-BadLine-clause-ok
returns-in-BadLine-clause-ok g c tells =
    let K = g.K.Sink in
    given_as c.give_number.result (K.held c.args.sink.now) (K.held c.give_number.new.sink) (codes "error 2 line " ++ decimal c.from.result ++ c.bad_end.result.now) (early_line c.args.end)
    (bad_line c.args.end c.in-BadLine.line c.in-BadLine.cause c.from.result c.bad_end.result.now c.in-BadLine.is c.from.ensures c.bad_end.ensures) (c.give_number.ensures.ok tells)

pub returns-in-BadLine-clause-failed : goal.returns-in-BadLine-clause-failed
returns-in-BadLine-clause-failed g c tells =
    let K = g.K.Sink in
    prefix_as c.give_number.result (K.held c.args.sink.now) (K.held c.give_number.new.sink) (codes "error 2 line " ++ decimal c.from.result ++ c.bad_end.result.now) (early_line c.args.end)
    (bad_line c.args.end c.in-BadLine.line c.in-BadLine.cause c.from.result c.bad_end.result.now c.in-BadLine.is c.from.ensures c.bad_end.ensures) (c.give_number.ensures.failed tells)

pub returns-in-Source-clause-ok : goal.returns-in-Source-clause-ok
returns-in-Source-clause-ok g c tells =
    let K = g.K.Sink in
    given_as c.give_all-in-Source.result (K.held c.args.sink.now) (K.held c.give_all-in-Source.new.sink) (early_line Source) (early_line c.args.end)
    (ap early_line (sym c.in-Source.is)) (c.give_all-in-Source.ensures.ok tells)

pub returns-in-Source-clause-failed : goal.returns-in-Source-clause-failed
returns-in-Source-clause-failed g c tells =
    let K = g.K.Sink in
    prefix_as c.give_all-in-Source.result (K.held c.args.sink.now) (K.held c.give_all-in-Source.new.sink) (early_line Source) (early_line c.args.end)
    (ap early_line (sym c.in-Source.is)) (c.give_all-in-Source.ensures.failed tells)

pub returns-in-Device-clause-ok : goal.returns-in-Device-clause-ok
returns-in-Device-clause-ok g c tells =
    let K = g.K.Sink in
    given_as c.give_number-in-Device.result (K.held c.args.sink.now) (K.held c.give_number-in-Device.new.sink) (codes "error 6 device " ++ decimal c.from-in-Device.result ++ codes "\n") (early_line c.args.end)
    (device_line c.args.end c.in-Device.dev c.from-in-Device.result c.in-Device.is c.from-in-Device.ensures) (c.give_number-in-Device.ensures.ok tells)

pub returns-in-Device-clause-failed : goal.returns-in-Device-clause-failed
returns-in-Device-clause-failed g c tells =
    let K = g.K.Sink in
    prefix_as c.give_number-in-Device.result (K.held c.args.sink.now) (K.held c.give_number-in-Device.new.sink) (codes "error 6 device " ++ decimal c.from-in-Device.result ++ codes "\n") (early_line c.args.end)
    (device_line c.args.end c.in-Device.dev c.from-in-Device.result c.in-Device.is c.from-in-Device.ensures) (c.give_number-in-Device.ensures.failed tells)
