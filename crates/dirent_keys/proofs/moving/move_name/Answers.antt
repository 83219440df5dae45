-- The new name exists, or is crowded out, or the old one goes and it comes.
use Rattle.std.proofs.Common.{sym, ap, ◌∙◌, subst}
use Rattle.std.specs.Ordering.{nat_cmp}
use Rattle.std.specs.Prelude.{IsSome, All, length, nat_le}
use Rattle.dirent_keys.proofs.Looks.{seen_before}
use Rattle.dirent_keys.proofs.Moved.{has_no_room, has_room, left_placed, move_crowded, move_done, move_exists, moved_fits, moved_placed, moved_sees}
use Rattle.dirent_keys.proofs.Stepping.{among_is, links_placed, shows}
use Rattle.dirent_keys.specs.Links.{with_link}
use Rattle.dirent_keys.specs.Moves.{MovesName}
use Rattle.plain_forest.specs.Steps.{names_per_slot}
use Rattle.snap_tree.specs.Snaps.{IsSnapTree, Snaps}
use Rattle.vol_types.specs.KeyMaps.{with_updates}
use Rattle.vol_types.specs.Maps.{value_at}
use Rattle.vol_types.specs.Standing.{IsUpdate}
use Rattle.vol_types.specs.declared.values.Link.{Link}
use Rattle.dirent_keys.proofs.moving.move_name.Goals as goal

pub returns-then-is_among-clause-step : goal.returns-then-is_among-clause-step
returns-then-is_among-clause-step g c = λ keys seen.
    let a = c.args in
    let links = c.in_ok-links.links in
    let are = links_placed c.place_of-new.result a.id a.to_dir a.to_name.now c.place_of-new.ensures keys links (c.in_ok-links.ensures.links keys seen) in
    move_exists keys a.id a.from_dir a.from_name.now a.to_dir (record { number = a.number; kind = a.kind; name = a.to_name.now })
    (shows keys a.id a.to_dir a.to_name.now links are _ (among_is c.as_slice.result.now a.to_name.now c.as_slice-2.result.now links c.is_among.result _ c.as_slice.ensures c.as_slice-2.ensures c.is_among.ensures c.if-is_among.true))

pub returns-in_default-clause-step : goal.returns-in_default-clause-step
returns-in_default-clause-step g c = λ keys seen.
    let a = c.args in
    let links = c.in_ok-links.links in
    let link : Link = record { number = a.number; kind = a.kind; name = a.to_name.now } in
    let are = links_placed c.place_of-new.result a.id a.to_dir a.to_name.now c.place_of-new.ensures keys links (c.in_ok-links.ensures.links keys seen) in
    let are_left = left_placed keys a.id a.from_dir a.from_name.now a.to_dir link c.place_of-old.result c.place_of-new.result c.place_of-old.ensures c.place_of-new.ensures c.as_slice-3.result.now links c.as_slice-3.ensures are in
    move_crowded keys a.id a.from_dir a.from_name.now a.to_dir link
    (shows keys a.id a.to_dir a.to_name.now links are _ (among_is c.as_slice.result.now a.to_name.now c.as_slice-2.result.now links c.is_among.result _ c.as_slice.ensures c.as_slice-2.ensures c.is_among.ensures c.if-is_among.false))
    (ap (λ ls. nat_le names_per_slot (length ls)) (sym are_left) ∙ has_no_room _ c.links_with_room.result c.links_with_room.ensures c.in_default.is)

pub returns-clause-step : goal.returns-clause-step
returns-clause-step g c = λ keys seen.
    let a = c.args in
    let links = c.in_ok-links.links in
    let link : Link = record { number = a.number; kind = a.kind; name = a.to_name.now } in
    let made = g.V.View.made in
    let before = seen_before keys (made c.links_at.new.view) (made c.updates_to_move.new.view) a.tree.now c.in_ok-updates.ensures.looks seen in
    let are = links_placed c.place_of-new.result a.id a.to_dir a.to_name.now c.place_of-new.ensures keys links (c.in_ok-links.ensures.links keys before) in
    let are_left = left_placed keys a.id a.from_dir a.from_name.now a.to_dir link c.place_of-old.result c.place_of-new.result c.place_of-old.ensures c.place_of-new.ensures c.as_slice-3.result.now links c.as_slice-3.ensures are in
    let room = has_room _ c.in-Some.left c.links_with_room.result c.links_with_room.ensures c.in-Some.is in
    move_done keys a.id a.from_dir a.from_name.now a.to_dir link
    (shows keys a.id a.to_dir a.to_name.now links are _ (among_is c.as_slice.result.now a.to_name.now c.as_slice-2.result.now links c.is_among.result _ c.as_slice.ensures c.as_slice-2.ensures c.is_among.ensures c.if-is_among.false))
    (ap (λ ls. nat_le names_per_slot (length ls)) (sym are_left) ∙ room.1)
    c.in_ok-updates.updates
    (moved_placed keys a.id a.from_dir a.from_name.now a.to_dir link c.place_of-old.result c.place_of-new.result c.place_of-old.ensures c.place_of-new.ensures c.as_slice-4.result.now c.in-Some.left c.in_ok-all.all c.in_ok-updates.updates c.as_slice-4.ensures (room.0 ∙ are_left)
    (c.in_ok-all.ensures ∙ ap (λ l. with_link l c.in-Some.left) c.in_ok-link.ensures) (c.in_ok-updates.ensures.updates keys seen))

pub returns-clause-seen : goal.returns-clause-seen
returns-clause-seen g c = λ keys seen there move.
    let a = c.args in
    let links = c.in_ok-links.links in
    let link : Link = record { number = a.number; kind = a.kind; name = a.to_name.now } in
    let made = g.V.View.made in
    let before = seen_before keys (made c.links_at.new.view) (made c.updates_to_move.new.view) a.tree.now c.in_ok-updates.ensures.looks seen in
    let are = links_placed c.place_of-new.result a.id a.to_dir a.to_name.now c.place_of-new.ensures keys links (c.in_ok-links.ensures.links keys before) in
    let are_left = left_placed keys a.id a.from_dir a.from_name.now a.to_dir link c.place_of-old.result c.place_of-new.result c.place_of-old.ensures c.place_of-new.ensures c.as_slice-3.result.now links c.as_slice-3.ensures are in
    let room = has_room _ c.in-Some.left c.links_with_room.result c.links_with_room.ensures c.in-Some.is in
    let is = moved_placed keys a.id a.from_dir a.from_name.now a.to_dir link c.place_of-old.result c.place_of-new.result c.place_of-old.ensures c.place_of-new.ensures c.as_slice-4.result.now c.in-Some.left c.in_ok-all.all c.in_ok-updates.updates c.as_slice-4.ensures (room.0 ∙ are_left)
    (c.in_ok-all.ensures ∙ ap (λ l. with_link l c.in-Some.left) c.in_ok-link.ensures) (c.in_ok-updates.ensures.updates keys seen) in
    subst (λ us. MovesName keys (with_updates us keys) a.id a.from_dir a.from_name.now a.to_dir a.to_name.now (a.number, a.kind)) (sym is)
    (moved_sees c.changes_are_seen.ensures keys a.id a.from_dir a.from_name.now a.to_dir link seen.is_map (subst IsSnapTree (sym seen.ids) c.ids_fit.ensures.trees) (subst (λ (s : Snaps). IsSome (value_at nat_cmp a.id s)) (sym seen.ids) there)
    (shows keys a.id a.to_dir a.to_name.now links are _ (among_is c.as_slice.result.now a.to_name.now c.as_slice-2.result.now links c.is_among.result _ c.as_slice.ensures c.as_slice-2.ensures c.is_among.ensures c.if-is_among.false)) move)

pub returns-clause-fits : goal.returns-clause-fits
returns-clause-fits g c = λ named keys seen old_fits new_fits.
    let a = c.args in
    let links = c.in_ok-links.links in
    let link : Link = record { number = a.number; kind = a.kind; name = a.to_name.now } in
    let made = g.V.View.made in
    let before = seen_before keys (made c.links_at.new.view) (made c.updates_to_move.new.view) a.tree.now c.in_ok-updates.ensures.looks seen in
    let are = links_placed c.place_of-new.result a.id a.to_dir a.to_name.now c.place_of-new.ensures keys links (c.in_ok-links.ensures.links keys before) in
    let are_left = left_placed keys a.id a.from_dir a.from_name.now a.to_dir link c.place_of-old.result c.place_of-new.result c.place_of-old.ensures c.place_of-new.ensures c.as_slice-3.result.now links c.as_slice-3.ensures are in
    let room = has_room _ c.in-Some.left c.links_with_room.result c.links_with_room.ensures c.in-Some.is in
    let is = moved_placed keys a.id a.from_dir a.from_name.now a.to_dir link c.place_of-old.result c.place_of-new.result c.place_of-old.ensures c.place_of-new.ensures c.as_slice-4.result.now c.in-Some.left c.in_ok-all.all c.in_ok-updates.updates c.as_slice-4.ensures (room.0 ∙ are_left)
    (c.in_ok-all.ensures ∙ ap (λ l. with_link l c.in-Some.left) c.in_ok-link.ensures) (c.in_ok-updates.ensures.updates keys seen) in
    subst (All IsUpdate) (sym is)
    (moved_fits keys a.id a.from_dir a.from_name.now a.to_dir link named
    (shows keys a.id a.to_dir a.to_name.now links are _ (among_is c.as_slice.result.now a.to_name.now c.as_slice-2.result.now links c.is_among.result _ c.as_slice.ensures c.as_slice-2.ensures c.is_among.ensures c.if-is_among.false))
    (ap (λ ls. nat_le names_per_slot (length ls)) (sym are_left) ∙ room.1)
    old_fits new_fits)
