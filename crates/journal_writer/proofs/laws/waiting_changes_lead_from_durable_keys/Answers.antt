use Rattle.std.specs.Prelude.{◌++◌}
use Rattle.journal_writer.specs.ChangeLaws.{undone-leads}
use Rattle.journal_writer.specs.Queues.{waiting}
use Rattle.journal_writer.proofs.Waiting.{lead-empty, lead-joined, lead-settled, lead-taken}
use Rattle.journal_writer.proofs.laws.waiting_changes_lead_from_durable_keys.Goals as goal

pub returns : goal.returns
returns c = record {
  empty = lead-empty;
  joined = lead-joined;
  taken = lead-taken;
  settled = lead-settled;
  durable = λ in_flight queue durable keys is lead. undone-leads (in_flight ++ waiting queue) durable keys is lead;
}
