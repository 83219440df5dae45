use Rattle.std.proofs.Common.{◌≡◌, drop}
use Rattle.birth_index.specs.Rooms.{cleared}
use Rattle.birth_index.proofs.making.clear.Given as goal

abbrev pub invariant-loop-new : goal.invariant-loop-new
invariant-loop-new l = cleared l.gone (drop l.new-index l.news) l.names.entries ≡ cleared l.gone l.news l.fn.names.entries
