use Rattle.file_plan.proofs.Few.{cut_few, put_few, put_with_end_few, write_few}
use Rattle.file_plan.proofs.laws.changes_are_few.Goals as goal

pub returns-clause-over : goal.returns-clause-over
returns-clause-over c = write_few

pub returns-clause-put : goal.returns-clause-put
returns-clause-put c = put_few

pub returns-clause-with_end : goal.returns-clause-with_end
returns-clause-with_end c = put_with_end_few

pub returns-clause-cut : goal.returns-clause-cut
returns-clause-cut c = cut_few
