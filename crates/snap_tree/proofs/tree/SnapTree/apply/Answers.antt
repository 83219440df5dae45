use Rattle.std.proofs.Common.{sym, ap, ◌∙◌, subst}
use Rattle.snap_tree.specs.Snaps.{Snaps, IsSnapTree, are_trees}
use Rattle.snap_tree.specs.Updates.{snaps_after}
use Rattle.snap_tree.specs.Changes.{Leads}
use Rattle.snap_tree.proofs.Alike.{rises_after}
use Rattle.snap_tree.proofs.Staleness.{links_stay, small_from}
use Rattle.snap_tree.proofs.tree.SnapTree.apply.Goals as goal

pub will_stand-requires-clause-small : goal.will_stand-requires-clause-small
will_stand-requires-clause-small c = small_from c.self.inside.snaps.entries c.self.inside.links.entries c.self.invariant.linked

pub returns-then-not-will_stand-clause-fault : goal.returns-then-not-will_stand-clause-fault
returns-then-not-will_stand-clause-fault c =
    let old = c.self.inside.snaps.entries in
    ap (λ (s : Snaps). are_trees (snaps_after s c.args.updates.now)) (sym c.self.view_is) ∙ sym (c.if-not-will_stand.ensures (snaps_after old c.args.updates.now) (rises_after old c.args.updates.now c.self.invariant.tree.rises) c.in_ok-changes.ensures)

pub stale_of-requires-clause-small : goal.stale_of-requires-clause-small
stale_of-requires-clause-small c = small_from c.self.inside.snaps.entries c.self.inside.links.entries c.self.invariant.linked

pub link_stale-requires-clause-tree : goal.link_stale-requires-clause-tree
link_stale-requires-clause-tree c =
    let old = c.self.inside.snaps.entries in
    let new = snaps_after old c.args.updates.now in
    let rises = rises_after old c.args.updates.now c.self.invariant.tree.rises in
    let made = c.in_ok-make_changes.ensures.ok new rises c.in_ok-changes.ensures in
    subst IsSnapTree (sym made) (record { rises = rises; trees = sym (c.if-not-will_stand.ensures new rises c.in_ok-changes.ensures) })

pub link_stale-requires-clause-fresh : goal.link_stale-requires-clause-fresh
link_stale-requires-clause-fresh c =
    let old = c.self.inside.snaps.entries in
    let new = snaps_after old c.args.updates.now in
    let rises = rises_after old c.args.updates.now c.self.invariant.tree.rises in
    let made = c.in_ok-make_changes.ensures.ok new rises c.in_ok-changes.ensures in
    let tree = subst IsSnapTree (sym made) (record { rises = rises; trees = sym (c.if-not-will_stand.ensures new rises c.in_ok-changes.ensures) }) in
    let leads = subst (λ (s : Snaps). Leads old s c.in_ok-changes.changes.entries) (sym made) c.in_ok-changes.ensures in
    links_stay old c.make_changes.new.snaps.entries c.self.inside.links.entries c.make_changes.new.links.entries c.in_ok-changes.changes.entries c.in_ok-stale.stale.keys c.self.invariant.tree tree leads c.in_ok-stale.ensures.moved c.in_ok-stale.ensures.closed c.self.invariant.linked c.make_changes.ensures.links

pub invariant_of-self-2 : goal.invariant_of-self-2
invariant_of-self-2 c =
    let old = c.self.inside.snaps.entries in
    let new = snaps_after old c.args.updates.now in
    let rises = rises_after old c.args.updates.now c.self.invariant.tree.rises in
    let made = c.in_ok-make_changes.ensures.ok new rises c.in_ok-changes.ensures in
    record {
      tree = subst IsSnapTree (sym made) (record { rises = rises; trees = sym (c.if-not-will_stand.ensures new rises c.in_ok-changes.ensures) });
      linked = c.link_stale.ensures.linked;
      ids = c.link_stale.ensures.ids;
      index = c.make_changes.ensures.index;
      live = c.make_changes.ensures.live;
    }

pub returns-clause-ok : goal.returns-clause-ok
returns-clause-ok c =
    let old = c.self.inside.snaps.entries in
    c.in_ok-make_changes.ensures.ok (snaps_after old c.args.updates.now) (rises_after old c.args.updates.now c.self.invariant.tree.rises) c.in_ok-changes.ensures ∙ ap (λ (s : Snaps). snaps_after s c.args.updates.now) c.self.view_is

pub returns-clause-sound : goal.returns-clause-sound
returns-clause-sound c =
    let old = c.self.inside.snaps.entries in
    let new = snaps_after old c.args.updates.now in
    let rises = rises_after old c.args.updates.now c.self.invariant.tree.rises in
    let made = c.in_ok-make_changes.ensures.ok new rises c.in_ok-changes.ensures in
    subst IsSnapTree (sym made) (record { rises = rises; trees = sym (c.if-not-will_stand.ensures new rises c.in_ok-changes.ensures) })
