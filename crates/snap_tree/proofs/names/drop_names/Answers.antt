use Rattle.std.proofs.Common.{sym, ap, ◌∙◌}
use Rattle.std.specs.Prelude.{◌==◌, ◌&&◌, not}
use Rattle.snap_tree.specs.Names.{has_pair, names}
use Rattle.snap_tree.proofs.Naming.{three}
use Rattle.snap_tree.proofs.names.drop_names.Goals as goal

pub returns : goal.returns
returns c named namer =
    let snap = c.in-Some.snap in
    let m = namer == c.args.id in
    let z = not (named == 0) in
    let y = not (names named c.args.stays) in
    c.drop_name-3.ensures named namer
    ∙ ap (λ o. o && not (m && z && snap.second_child == named && y)) (c.drop_name-2.ensures named namer ∙ ap (λ o. o && not (m && z && snap.first_child == named && y)) (c.drop_name.ensures named namer))
    ∙ three (has_pair c.args.pairs.now.keys named namer) m z y (snap.parent == named) (snap.first_child == named) (snap.second_child == named)
    ∙ ap (λ o. has_pair c.args.pairs.now.keys named namer && not (m && names named o && y)) (sym c.in-Some.is)
