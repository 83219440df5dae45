use Rattle.std.proofs.Common.{◌-◌, ◌∙◌, ℕ, Some, length, ap, sym, subst, arith}
use Rattle.std.proofs.lemmas.Option.{slice_get-get_or}
use Rattle.journal_writer.specs.Writers.{IsKept, most_devices, with_flags}
use Rattle.std.specs.Prelude.{false, replicate}
use Rattle.journal_writer.proofs.Kept.{opened-kept, opened-same}
use Rattle.journal_writer.proofs.writer.EntryWriter.of.Goals as goal

pub invariant_of-result : goal.invariant_of-result
invariant_of-result c =
    let newest = c.index-needed-needed.result in
    subst (IsKept c.args.layout.now.metadata_replicas false)
    (sym (opened-same c.args.layout.now c.args.needed.now newest c.of.result c.in_ok-starts.starts.items c.index-first.result.now c.set_flags.new.flags c.of.ensures c.index-first.ensures c.in_ok-starts.ensures
    (c.set_flags.ensures ∙ ap (λ (n : ℕ). with_flags n (replicate most_devices false)) c.len.ensures) c.requires.needed))
    (opened-kept c.args.layout.now c.args.needed.now newest ((c.layouts_are_tested.ensures c.args.layout.now).0 c.requires.layout) c.requires.needed)

pub returns : goal.returns
returns c =
    let newest = c.index-needed-needed.result in
    record {
      newest = newest;
      last = slice_get-get_or c.args.needed.now (length c.args.needed.now - 1) newest (omega (arith, c.requires.needed)) ∙ ap Some (sym c.index-needed-needed.is);
      is = opened-same c.args.layout.now c.args.needed.now newest c.of.result c.in_ok-starts.starts.items c.index-first.result.now c.set_flags.new.flags c.of.ensures c.index-first.ensures c.in_ok-starts.ensures
          (c.set_flags.ensures ∙ ap (λ (n : ℕ). with_flags n (replicate most_devices false)) c.len.ensures) c.requires.needed;
    }
