use Rattle.std.proofs.Common.{sym, ap, ◌∙◌, subst, refl, Some}
use Rattle.std.specs.Ordering.{nat_cmp}
use Rattle.std.specs.Prelude.{IsSome}
use Rattle.dirent_keys.proofs.Looks.{looks_then, seen_before}
use Rattle.dirent_keys.proofs.Seeing.{whiteout_fits}
use Rattle.dirent_keys.proofs.Stepping.{among_is, fits_placed, links_placed, removal_fits, removal_seen, removes, removes_nothing, updates_placed}
use Rattle.dirent_keys.specs.Links.{names_value, without_name}
use Rattle.snap_tree.specs.Snaps.{IsSnapTree, Snaps}
use Rattle.vol_types.specs.Maps.{value_at}
use Rattle.vol_types.specs.declared.values.Value.TheVariants.{White}
use Rattle.dirent_keys.proofs.names.remove.Goals as goal

pub returns-then-not-is_among-clause-removal : goal.returns-then-not-is_among-clause-removal
returns-then-not-is_among-clause-removal g c keys seen =
    let a = c.args in
    let links = c.in_ok-links.links in
    removes_nothing keys a.id a.dir a.name.now links (links_placed c.place_of-own.result a.id a.dir a.name.now c.place_of-own.ensures keys links (c.in_ok-links.ensures.links keys seen))
    (among_is c.as_slice.result.now a.name.now c.as_slice-2.result.now links c.is_among.result _ c.as_slice.ensures c.as_slice-2.ensures c.is_among.ensures c.if-not-is_among.true)

pub returns-clause-removal : goal.returns-clause-removal
returns-clause-removal g c keys seen =
    let a = c.args in
    let links = c.in_ok-links.links in
    let own = c.place_of-own.result in
    let stands = c.place_of-own.ensures in
    let made = g.V.View.made in
    let before = seen_before keys (made c.links_at.new.view) (made c.updates_to_show.new.view) a.tree.now c.in_ok-updates.ensures.looks seen in
    let left = c.without_name-left.ensures ∙ ap (λ n. without_name n links) c.as_slice-3.ensures in
    removes keys a.id a.dir a.name.now links (links_placed own a.id a.dir a.name.now stands keys links (c.in_ok-links.ensures.links keys before))
    (among_is c.as_slice.result.now a.name.now c.as_slice-2.result.now links c.is_among.result _ c.as_slice.ensures c.as_slice-2.ensures c.is_among.ensures c.if-not-is_among.false) c.in_ok-updates.updates
    (updates_placed own a.id a.dir a.name.now stands keys c.without_name-left.result (without_name a.name.now links) c.in_ok-updates.updates left (c.in_ok-updates.ensures.updates keys seen))

pub returns-clause-seen : goal.returns-clause-seen
returns-clause-seen g c keys seen there =
    let a = c.args in
    let links = c.in_ok-links.links in
    let own = c.place_of-own.result in
    let stands = c.place_of-own.ensures in
    let made = g.V.View.made in
    let before = seen_before keys (made c.links_at.new.view) (made c.updates_to_show.new.view) a.tree.now c.in_ok-updates.ensures.looks seen in
    let left = c.without_name-left.ensures ∙ ap (λ n. without_name n links) c.as_slice-3.ensures in
    removal_seen keys a.id a.dir a.name.now links (links_placed own a.id a.dir a.name.now stands keys links (c.in_ok-links.ensures.links keys before)) c.changes_are_seen.ensures seen.is_map (subst IsSnapTree (sym seen.ids) c.ids_fit.ensures.trees)
    (subst (λ (s : Snaps). IsSome (value_at nat_cmp a.id s)) (sym seen.ids) there) c.in_ok-updates.updates
    (updates_placed own a.id a.dir a.name.now stands keys c.without_name-left.result (without_name a.name.now links) c.in_ok-updates.updates left (c.in_ok-updates.ensures.updates keys seen))

pub returns-clause-fits : goal.returns-clause-fits
returns-clause-fits g c keys seen fits =
    let a = c.args in
    let links = c.in_ok-links.links in
    let own = c.place_of-own.result in
    let stands = c.place_of-own.ensures in
    let made = g.V.View.made in
    let before = seen_before keys (made c.links_at.new.view) (made c.updates_to_show.new.view) a.tree.now c.in_ok-updates.ensures.looks seen in
    let left = c.without_name-left.ensures ∙ ap (λ n. without_name n links) c.as_slice-3.ensures in
    c.in_ok-updates.ensures.fits
    (fits_placed own a.id a.dir a.name.now stands (names_value c.without_name-left.result) (names_value (without_name a.name.now links)) (ap names_value left)
    (removal_fits keys a.id a.dir a.name.now links (links_placed own a.id a.dir a.name.now stands keys links (c.in_ok-links.ensures.links keys before)) fits))
    (fits_placed own a.id a.dir a.name.now stands (Some White) (Some White) refl (whiteout_fits a.dir _ a.id))

pub returns-clause-looks : goal.returns-clause-looks
returns-clause-looks g c =
    let made = g.V.View.made in
    looks_then (made c.args.view.now) (made c.links_at.new.view) (made c.updates_to_show.new.view) c.in_ok-links.ensures.looks c.in_ok-updates.ensures.looks

pub returns-in_err-updates-clause-looks : goal.returns-in_err-updates-clause-looks
returns-in_err-updates-clause-looks g c =
    let made = g.V.View.made in
    looks_then (made c.args.view.now) (made c.links_at.new.view) (made c.updates_to_show.new.view) c.in_ok-links.ensures.looks c.in_err-updates.ensures.looks
