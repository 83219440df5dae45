use Rattle.std.proofs.Common.{◌≡◌, map, take}
use Rattle.birth_index.specs.Births.{with_named}
use Rattle.birth_index.specs.Exchanges.{fresh_of}
use Rattle.birth_index.proofs.making.add_births.Given as goal

abbrev pub invariant-loop-place : goal.invariant-loop-place
invariant-loop-place l = l.names.entries ≡ with_named (map fresh_of (take l.place l.changes)) l.fn.names.entries
