use Rattle.std.proofs.Common.{◌≡◌, arith, ap, ◌∙◌}
use Rattle.std.specs.Ordering.{nat_cmp}
use Rattle.vol_types.specs.Maps.{value_at, put_at}
use Rattle.snap_tree.specs.Snaps.{live_leaves}
use Rattle.snap_tree.specs.Changes.{live_of}
use Rattle.snap_tree.proofs.Settling.{live_put}
use Rattle.snap_tree.proofs.settle.set_record.Goals as goal

pub returns-clause-live : goal.returns-clause-live
returns-clause-live c =
    let snaps = c.args.snaps.now.entries in
    let old : c.live_of-2.result ≡ live_of (value_at nat_cmp c.args.id snaps) = c.live_of-2.ensures.exact ∙ ap live_of (cc (c.copied-old.ensures, c.get.ensures.value)) in
    let count : live_leaves c.put_record.new.snaps.entries ≡ live_leaves (put_at nat_cmp c.args.id c.args.snap snaps) = ap live_leaves c.in_ok-put_record.ensures.ok in
    omega (arith, old, c.live_of.ensures.exact, count, live_put snaps c.args.id c.args.snap c.requires.rises, c.requires.live)
