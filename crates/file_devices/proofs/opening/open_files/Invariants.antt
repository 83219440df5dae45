use Rattle.std.proofs.Common.{◌≡◌, length}
use Rattle.file_devices.proofs.opening.open_files.Given as goal

-- one file was opened for each path so far
abbrev pub invariant-loop-path : goal.invariant-loop-path
invariant-loop-path g l = length l.opened.items ≡ l.path-index
