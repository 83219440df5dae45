use Rattle.std.proofs.Common.{◌≡◌, ◌≤◌, ◌*◌, sum_by, take}
use Rattle.record_codec.specs.Entries.{root_length_of}
use Rattle.record_codec.proofs.lengths.roots_length.Given as goal

abbrev pub invariant-loop-root : goal.invariant-loop-root
invariant-loop-root l = (l.total ≡ sum_by root_length_of (take l.root-index l.roots)) × (l.total ≤ l.root-index * 25)
