use Rattle.std.proofs.Common.{◌≡◌, ◌≤◌, take}
use Rattle.std.specs.Prelude.{count_by}
use Rattle.vol_info.specs.Facts.{is_id_in}
use Rattle.vol_info.proofs.ids.count_in.Given as goal

abbrev pub invariant-loop-entry : goal.invariant-loop-entry
invariant-loop-entry l = (l.count ≡ count_by (is_id_in l.state) (take l.entry-index l.records)) × (l.count ≤ l.entry-index)
