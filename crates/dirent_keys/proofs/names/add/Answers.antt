use Rattle.std.proofs.Common.{sym, ap, ◌∙◌, subst, refl, Some}
use Rattle.std.specs.Ordering.{nat_cmp}
use Rattle.std.specs.Prelude.{IsSome, length, nat_le}
use Rattle.dirent_keys.proofs.Looks.{looks_then, seen_before}
use Rattle.dirent_keys.proofs.Seeing.{whiteout_fits}
use Rattle.dirent_keys.proofs.Stepping.{addition_fits, addition_seen, among_is, crowded, done, exists, fits_placed, links_placed, updates_placed}
use Rattle.dirent_keys.specs.Links.{names_value, with_link}
use Rattle.plain_forest.specs.Steps.{names_per_slot}
use Rattle.snap_tree.specs.Snaps.{IsSnapTree, Snaps}
use Rattle.vol_types.specs.Maps.{value_at}
use Rattle.vol_types.specs.declared.values.Link.{Link}
use Rattle.vol_types.specs.declared.values.Value.TheVariants.{White}
use Rattle.dirent_keys.proofs.names.add.Goals as goal

pub returns-then-is_among-clause-step : goal.returns-then-is_among-clause-step
returns-then-is_among-clause-step g c keys seen =
    let a = c.args in
    let links = c.in_ok-links.links in
    exists keys a.id a.dir (record { number = a.number; kind = a.kind; name = a.name.now }) links (links_placed c.place_of-own.result a.id a.dir a.name.now c.place_of-own.ensures keys links (c.in_ok-links.ensures.links keys seen))
    (among_is c.as_slice.result.now a.name.now c.as_slice-2.result.now links c.is_among.result _ c.as_slice.ensures c.as_slice-2.ensures c.is_among.ensures c.if-is_among.true)

pub returns-then-is_full-clause-step : goal.returns-then-is_full-clause-step
returns-then-is_full-clause-step g c keys seen =
    let a = c.args in
    let links = c.in_ok-links.links in
    crowded keys a.id a.dir (record { number = a.number; kind = a.kind; name = a.name.now }) links (links_placed c.place_of-own.result a.id a.dir a.name.now c.place_of-own.ensures keys links (c.in_ok-links.ensures.links keys seen))
    (among_is c.as_slice.result.now a.name.now c.as_slice-2.result.now links c.is_among.result _ c.as_slice.ensures c.as_slice-2.ensures c.is_among.ensures c.if-is_among.false)
    (ap (λ ls. nat_le names_per_slot (length ls)) (sym c.as_slice-3.ensures) ∙ sym c.is_full.ensures ∙ c.if-is_full.true)

pub returns-clause-step : goal.returns-clause-step
returns-clause-step g c keys seen =
    let a = c.args in
    let links = c.in_ok-links.links in
    let own = c.place_of-own.result in
    let stands = c.place_of-own.ensures in
    let link : Link = record { number = a.number; kind = a.kind; name = a.name.now } in
    let made = g.V.View.made in
    let before = seen_before keys (made c.links_at.new.view) (made c.updates_to_show.new.view) a.tree.now c.in_ok-updates.ensures.looks seen in
    let all = c.in_ok-with_link.ensures ∙ ap (λ l. with_link l links) c.in_ok-link.ensures in
    done keys a.id a.dir link links (links_placed own a.id a.dir a.name.now stands keys links (c.in_ok-links.ensures.links keys before))
    (among_is c.as_slice.result.now a.name.now c.as_slice-2.result.now links c.is_among.result _ c.as_slice.ensures c.as_slice-2.ensures c.is_among.ensures c.if-is_among.false)
    (ap (λ ls. nat_le names_per_slot (length ls)) (sym c.as_slice-3.ensures) ∙ sym c.is_full.ensures ∙ c.if-is_full.false) c.in_ok-updates.updates
    (updates_placed own a.id a.dir a.name.now stands keys c.in_ok-with_link.field-0 (with_link link links) c.in_ok-updates.updates all (c.in_ok-updates.ensures.updates keys seen))

pub returns-clause-seen : goal.returns-clause-seen
returns-clause-seen g c keys seen there =
    let a = c.args in
    let links = c.in_ok-links.links in
    let own = c.place_of-own.result in
    let stands = c.place_of-own.ensures in
    let link : Link = record { number = a.number; kind = a.kind; name = a.name.now } in
    let made = g.V.View.made in
    let before = seen_before keys (made c.links_at.new.view) (made c.updates_to_show.new.view) a.tree.now c.in_ok-updates.ensures.looks seen in
    let all = c.in_ok-with_link.ensures ∙ ap (λ l. with_link l links) c.in_ok-link.ensures in
    addition_seen keys a.id a.dir link links (links_placed own a.id a.dir a.name.now stands keys links (c.in_ok-links.ensures.links keys before)) c.changes_are_seen.ensures seen.is_map (subst IsSnapTree (sym seen.ids) c.ids_fit.ensures.trees)
    (subst (λ (s : Snaps). IsSome (value_at nat_cmp a.id s)) (sym seen.ids) there)
    (among_is c.as_slice.result.now a.name.now c.as_slice-2.result.now links c.is_among.result _ c.as_slice.ensures c.as_slice-2.ensures c.is_among.ensures c.if-is_among.false) c.in_ok-updates.updates
    (updates_placed own a.id a.dir a.name.now stands keys c.in_ok-with_link.field-0 (with_link link links) c.in_ok-updates.updates all (c.in_ok-updates.ensures.updates keys seen))

pub returns-clause-fits : goal.returns-clause-fits
returns-clause-fits g c named keys seen fits =
    let a = c.args in
    let links = c.in_ok-links.links in
    let own = c.place_of-own.result in
    let stands = c.place_of-own.ensures in
    let link : Link = record { number = a.number; kind = a.kind; name = a.name.now } in
    let made = g.V.View.made in
    let before = seen_before keys (made c.links_at.new.view) (made c.updates_to_show.new.view) a.tree.now c.in_ok-updates.ensures.looks seen in
    let all = c.in_ok-with_link.ensures ∙ ap (λ l. with_link l links) c.in_ok-link.ensures in
    c.in_ok-updates.ensures.fits
    (fits_placed own a.id a.dir a.name.now stands (names_value c.in_ok-with_link.field-0) (names_value (with_link link links)) (ap names_value all)
    (addition_fits keys a.id a.dir link links (links_placed own a.id a.dir a.name.now stands keys links (c.in_ok-links.ensures.links keys before)) named
    (among_is c.as_slice.result.now a.name.now c.as_slice-2.result.now links c.is_among.result _ c.as_slice.ensures c.as_slice-2.ensures c.is_among.ensures c.if-is_among.false)
    (ap (λ ls. nat_le names_per_slot (length ls)) (sym c.as_slice-3.ensures) ∙ sym c.is_full.ensures ∙ c.if-is_full.false) fits))
    (fits_placed own a.id a.dir a.name.now stands (Some White) (Some White) refl (whiteout_fits a.dir _ a.id))

pub returns-clause-looks : goal.returns-clause-looks
returns-clause-looks g c =
    let made = g.V.View.made in
    looks_then (made c.args.view.now) (made c.links_at.new.view) (made c.updates_to_show.new.view) c.in_ok-links.ensures.looks c.in_ok-updates.ensures.looks

pub returns-in_err-updates-clause-looks : goal.returns-in_err-updates-clause-looks
returns-in_err-updates-clause-looks g c =
    let made = g.V.View.made in
    looks_then (made c.args.view.now) (made c.links_at.new.view) (made c.updates_to_show.new.view) c.in_ok-links.ensures.looks c.in_err-updates.ensures.looks
