use Rattle.std.proofs.Common.{◌/◌, [], ◌∷◌, ap, sym, ◌∙◌, arith}
use Rattle.std.specs.Prelude.{is_some}
use Rattle.vol_types.specs.Limits.{block_size}
use Rattle.file_plan.proofs.Fresh.{run_gives}
use Rattle.file_plan.proofs.Io.{carried, held_before, io_then, looks_stay, looks_then, reads_go_on}
use Rattle.file_plan.proofs.Looked.{reads_then, seen_same}
use Rattle.file_plan.proofs.Written.{nothing_written}
use Rattle.file_plan.proofs.ends.write_end.Goals as goal

pub returns-in_err-end_block-clause-io : goal.returns-in_err-end_block-clause-io
returns-in_err-end_block-clause-io g c = reads_go_on _ _ c.end_block.ensures.io

pub returns-in-None-clause-io : goal.returns-in-None-clause-io
returns-in-None-clause-io g c = reads_go_on _ _ c.end_block.ensures.io

pub returns-in-Some-clause-bytes : goal.returns-in-Some-clause-bytes
returns-in-Some-clause-bytes g c = carried c.write_run.result _ _
    (λ fresh gives keys read seen holds range. (gives read holds).0 ∙ sym c.in-Some.is
    ∙ c.in_ok-end_block.ensures.bytes keys read (seen_same keys _ _ _ _ _ c.write_run.ensures.looks c.write_run.ensures.longest seen) (held_before read _ _ c.write_run.ensures.io holds) range)
    c.write_run.ensures.holds

pub returns-in-Some-clause-there : goal.returns-in-Some-clause-there
returns-in-Some-clause-there g c = carried c.write_run.result _ _
    (λ fresh written keys seen range. run_gives c.args.number c.args.id (c.args.size / block_size) _ (c.args.size / block_size) fresh written.run (omega arith) (omega arith)
    ∙ ap is_some (sym c.in-Some.is) ∙ c.in_ok-end_block.ensures.there keys (seen_same keys _ _ _ _ _ c.write_run.ensures.looks c.write_run.ensures.longest seen) range)
    c.write_run.ensures.written

pub returns-in-Some-clause-reads : goal.returns-in-Some-clause-reads
returns-in-Some-clause-reads g c = carried c.write_run.result _ _
    (λ fresh written keys seen range. reads_then _ _ _ _ (c.in_ok-end_block.ensures.reads keys (seen_same keys _ _ _ _ _ c.write_run.ensures.looks c.write_run.ensures.longest seen) range) written.read)
    c.write_run.ensures.written

pub returns-in-None-clause-written : goal.returns-in-None-clause-written
returns-in-None-clause-written g c = record {
  blocks = [];
  one = omega arith;
  after_reads = g.V.Contents.io c.end_block.new.view;
  reads = c.end_block.ensures.io;
  written = nothing_written c.args.number c.args.id (c.args.size / block_size) c.new.result (g.V.Contents.io c.end_block.new.view) c.new.ensures;
}

pub returns-in-Some-clause-written : goal.returns-in-Some-clause-written
returns-in-Some-clause-written g c = carried c.write_run.result _ _
    (λ fresh written. record {
      blocks = c.in-Some.bytes ∷ [];
      one = omega arith;
      after_reads = g.V.Contents.io c.end_block.new.view;
      reads = c.end_block.ensures.io;
      written = written;
    })
    c.write_run.ensures.written

pub returns-in-Some-clause-io : goal.returns-in-Some-clause-io
returns-in-Some-clause-io g c = io_then _ (g.V.Contents.io c.end_block.new.view) _ (reads_go_on _ _ c.end_block.ensures.io) c.write_run.ensures.io

pub returns-in-Some-clause-looks : goal.returns-in-Some-clause-looks
returns-in-Some-clause-looks g c = looks_then _ (g.V.View.made c.end_block.new.view) _ c.end_block.ensures.looks (looks_stay _ _ c.write_run.ensures.looks)
