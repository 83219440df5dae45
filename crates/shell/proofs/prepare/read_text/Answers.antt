use Rattle.script_text.specs.Lines.{lines_of}
use Rattle.shell.proofs.RunScripts.{script_runs}
use Rattle.shell.proofs.prepare.read_text.Goals as goal

pub returns-clause-runs : goal.returns-clause-runs
returns-clause-runs g c = script_runs (lines_of c.as_slice.result.now) c.in_ok-read_script.field-0 c.in_ok-read_script.ensures.ok
