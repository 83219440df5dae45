use Rattle.std.proofs.Common.{◌≡◌, drop}
use Rattle.forest_view.specs.Shown.{with_links}
use Rattle.forest_view.proofs.trees.insert_links.Given as goal

abbrev pub invariant-loop-link : goal.invariant-loop-link
invariant-loop-link l = with_links l.directory l.slot (drop l.link-index l.links) l.tree ≡ with_links l.directory l.slot l.links l.fn.tree
