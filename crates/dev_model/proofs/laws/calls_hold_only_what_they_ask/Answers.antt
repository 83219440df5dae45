use Rattle.std.proofs.Common.{IsTrue}
use Rattle.dev_model.specs.HeldLaws.{hold_here, hold_by_write, hold_by_flush, hold_by_read}
use Rattle.dev_model.proofs.laws.calls_hold_only_what_they_ask.Goals as goal

pub returns-clause-begin : goal.returns-clause-begin
returns-clause-begin c opens asked = hold_here opens (λ d b x. IsTrue (asked d b x))

pub returns-clause-write : goal.returns-clause-write
returns-clause-write c opens asked result old mid new dev block bytes begun so_far ask changes = hold_by_write opens (λ d b x. IsTrue (asked d b x)) old mid begun so_far result dev block bytes new ask changes

pub returns-clause-flush : goal.returns-clause-flush
returns-clause-flush c opens asked result old mid new dev begun so_far changes = hold_by_flush opens (λ d b x. IsTrue (asked d b x)) old mid begun so_far result dev new changes

pub returns-clause-read : goal.returns-clause-read
returns-clause-read c opens asked result old mid new begun so_far changes = hold_by_read opens (λ d b x. IsTrue (asked d b x)) old mid begun so_far result new changes
