use Rattle.std.proofs.Common.{Option, sym, subst, ap, ◌∙◌}
use Rattle.std.specs.Ordering.{nat_cmp}
use Rattle.std.specs.Prelude.{IsSome, option_map}
use Rattle.key_view.specs.Changes.{SeesThere, own_update, updates_to_see}
use Rattle.inode_keys.proofs.Setting.{carried, inode_fits, inode_shows, not_ids, whiteout_fits}
use Rattle.snap_tree.specs.Snaps.{IsSnapTree, Snaps}
use Rattle.vol_types.specs.KeyMaps.{with_updates}
use Rattle.vol_types.specs.Maps.{value_at}
use Rattle.vol_types.specs.Standing.{IsUpdate}
use Rattle.vol_types.specs.declared.positions.Btree.TheVariants.{Inodes}
use Rattle.vol_types.specs.declared.values.Value.{Value}
use Rattle.vol_types.specs.declared.values.Value.TheVariants as values
use Rattle.inode_keys.proofs.inodes.set.Goals as goal

pub returns-clause-updates : goal.returns-clause-updates
returns-clause-updates g c =
    carried c.updates_to_see.result _ _
    (λ updates made keys seen. made keys seen ∙ ap (updates_to_see keys Inodes 0 c.args.number c.args.id) c.value_of.ensures) c.updates_to_see.ensures.updates

pub returns-clause-seen : goal.returns-clause-seen
returns-clause-seen g c =
    let tree = c.args.tree.now in
    let value = option_map values.Inode c.args.inode in
    carried c.updates_to_see.result _ _
    (λ updates made keys seen there.
    subst (λ us. SeesThere keys (with_updates us keys) Inodes 0 c.args.number c.args.id value) (sym (made keys seen ∙ ap (updates_to_see keys Inodes 0 c.args.number c.args.id) c.value_of.ensures))
    (c.changes_are_seen.ensures keys Inodes 0 c.args.number c.args.id value seen.is_map (subst IsSnapTree (sym seen.ids) c.ids_fit.ensures.trees) not_ids (inode_shows c.args.inode)
    (subst (λ (s : Snaps). IsSome (value_at nat_cmp c.args.id s)) (sym seen.ids) there))) c.updates_to_see.ensures.updates

pub returns-clause-fits : goal.returns-clause-fits
returns-clause-fits g c fits =
    c.updates_to_see.ensures.fits (subst (λ (o : Option Value). IsUpdate (own_update Inodes 0 c.args.number c.args.id o)) (sym c.value_of.ensures) (inode_fits c.args.number c.args.id c.args.inode fits)) (whiteout_fits c.args.number c.args.id)
