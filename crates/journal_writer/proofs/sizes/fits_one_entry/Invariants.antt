use Rattle.std.proofs.Common.{◌≡◌, ◌≤◌, sum_by, take}
use Rattle.record_codec.specs.Entries.{update_length_of}
use Rattle.journal_writer.proofs.sizes.fits_one_entry.Given as goal

abbrev pub invariant-loop-update : goal.invariant-loop-update
invariant-loop-update l = (l.total ≡ sum_by update_length_of (take l.update-index l.updates)) × (l.total ≤ l.most)
