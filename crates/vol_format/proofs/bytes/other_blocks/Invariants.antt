-- So far each other block is the one beside the spare one.
use Rattle.std.proofs.Common.{◌≡◌, ◌<◌, ◌-◌, ℕ, length}
use Rattle.std.specs.Prelude.{slice_index}
use Rattle.vol_format.proofs.bytes.other_blocks.Given as goal

abbrev pub invariant-loop-dev : goal.invariant-loop-dev
invariant-loop-dev l = record {
  count : length l.others.items ≡ l.dev;
  others : (dev : ℕ) → dev < l.dev → slice_index l.others.items dev ≡ 8 - slice_index l.spares dev;
}
