use Rattle.std.proofs.Common.{◌≡◌, take}
use Rattle.birth_index.specs.Births.{with_named}
use Rattle.birth_index.proofs.making.add_all.Given as goal

abbrev pub invariant-loop-place : goal.invariant-loop-place
invariant-loop-place l = l.names.entries ≡ with_named (take l.place l.news) l.fn.names.entries
