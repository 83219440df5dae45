use Rattle.std.proofs.Common.{◌≡◌, drop}
use Rattle.btree_map.specs.Trees.{keys_in}
use Rattle.forest_view.specs.Subvolumes.{with_subs}
use Rattle.forest_view.proofs.forests.insert_subs.Given as goal

abbrev pub invariant-loop-sub : goal.invariant-loop-sub
invariant-loop-sub l = with_subs (keys_in l.map) l.stands (drop l.sub-index l.subs) l.forest ≡ with_subs (keys_in l.map) l.stands l.subs l.fn.forest
