use Rattle.std.proofs.Common.{map, ap, ◌∙◌}
use Rattle.tree_keys.specs.Sizes.{sizes_after}
use Rattle.tree_keys.proofs.Counted.{cut_of}
use Rattle.tree_keys.proofs.Sized.{sized_list}
use Rattle.tree_keys.proofs.TreeKeys.sizes_after.Goals as goal

pub returns : goal.returns
returns g c =
    c.in_ok-listed.ensures
    ∙ sized_list (cut_of c.self.inside.keys.entries c.self.inside.leaves.entries) (map g.C.Change.key c.args.changes.now) c.in_ok-sizes.sizes.entries c.self.invariant.0 c.in_ok-sizes.ensures
    ∙ ap (sizes_after (map g.C.Change.key c.args.changes.now)) c.self.view_is
