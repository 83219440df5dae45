use Rattle.std.proofs.Common.{List, ◌<◌, subst}
use Rattle.btree_map.proofs.Updating.{applied_keys, cut_below}
use Rattle.btree_map.specs.Applied.{ArePlanned}
use Rattle.btree_map.specs.Trees.{keys_of_cuts}
use Rattle.tree_keys.specs.Cuts.{Cut}
use Rattle.btree_map.proofs.applying.apply.Goals as goal

pub make_all-requires-clause-cuts : goal.make_all-requires-clause-cuts
make_all-requires-clause-cuts c = λ code lt. cut_below c.args.keys.now.items c.requires.cuts code (subst (λ n. code < n) c.in_ok-last.ensures.count lt)

pub returns-clause-keys : goal.returns-clause-keys
returns-clause-keys c =
    let last = c.in_ok-last.field-0.last.items in
    let before = c.in_ok-last.field-0.before in
    let planned = subst (λ (cuts : List Cut). ArePlanned (keys_of_cuts cuts) c.args.updates.now last before) c.as_slice.ensures.value c.in_ok-last.ensures in
    applied_keys c.args.keys.now.items c.make_all.new.keys.items c.args.updates.now last before c.requires.cuts planned c.in_ok-make_all.ensures.ok
