use Rattle.std.proofs.Common.{refl}
use Rattle.file_plan.proofs.Io.{looks_stay}
use Rattle.file_plan.proofs.Looked.{reads_end, reads_no_end}
use Rattle.file_plan.proofs.ends.end_block.Goals as goal

pub returns-then-inside-eq0-clause-reads : goal.returns-then-inside-eq0-clause-reads
returns-then-inside-eq0-clause-reads g c = λ keys seen range. reads_no_end keys c.args.id c.args.number c.args.size _ _ c.if-inside-eq0.true refl

pub returns-in-None-clause-reads : goal.returns-in-None-clause-reads
returns-in-None-clause-reads g c = λ keys seen range. reads_end keys c.args.id c.args.number c.args.size _ _ c.if-inside-eq0.false (c.in_ok-shown_block.ensures.reads keys seen range)

pub returns-in_ok-zeroed-in-Some-clause-reads : goal.returns-in_ok-zeroed-in-Some-clause-reads
returns-in_ok-zeroed-in-Some-clause-reads g c = λ keys seen range. reads_end keys c.args.id c.args.number c.args.size _ _ c.if-inside-eq0.false (c.in_ok-shown_block.ensures.reads keys seen range)

pub returns-then-inside-eq0-clause-looks : goal.returns-then-inside-eq0-clause-looks
returns-then-inside-eq0-clause-looks g c = looks_stay _ _ refl
