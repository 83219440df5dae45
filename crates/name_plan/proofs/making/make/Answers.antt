-- A new inode is a step of its client's counter, one of its own key, and one of its name.
use Rattle.std.proofs.Common.{◌+◌, ◌∷◌, [], Some, None, ◌∙◌, ap, sym, refl, inl, subst, arith}
use Rattle.std.specs.Prelude.{All}
use Rattle.std.proofs.lemmas.Bool.{leb-false}
use Rattle.std.proofs.lemmas.List.Elements.{recursion_from_All}
use Rattle.dirent_keys.specs.Links.{with_link}
use Rattle.forest_ops.specs.Trees.{Place}
use Rattle.inode_keys.specs.Draws.{IsNewNumber}
use Rattle.inode_keys.specs.Inodes.{new_inode}
use Rattle.key_meaning.specs.Forest.{Read, kind_in, links_in, next_in, tree_of}
use Rattle.key_meaning.specs.Tidy.{IsDrawn}
use Rattle.key_steps.specs.Shown.{Shown, kind_of, shown_in, with_inode, with_links}
use Rattle.key_view.specs.Changes.{own_update}
use Rattle.name_plan.proofs.AddedNames.{added_is_own, may_stand}
use Rattle.name_plan.proofs.ChangedForests.{AreOfChange}
use Rattle.name_plan.proofs.GoodNames.{last_is_good}
use Rattle.name_plan.proofs.NewInodes.{count_update, drawn_has, good_by_kind, made_agrees, new_inode_fits, number_for, with_made}
use Rattle.name_plan.proofs.Results.{carried_with}
use Rattle.name_plan.proofs.ShownKinds.{is_directory_kind, kind_stays}
use Rattle.name_plan.specs.New.{link_to, put_inode, with_new}
use Rattle.path_plan.specs.LookLaws.{carried, given_is_seen}
use Rattle.vol_digest.specs.Digests.{slot_of}
use Rattle.vol_types.specs.KeyMaps.{with_update, with_updates}
use Rattle.vol_types.specs.Standing.{IsUpdate}
use Rattle.vol_types.specs.declared.positions.Btree.TheVariants.{Dirents}
use Rattle.vol_types.specs.declared.values.FileKind.TheVariants.{Directory}
use Rattle.vol_types.specs.declared.values.Value.TheVariants as values
use Rattle.name_plan.proofs.making.make.Goals as goal

pub returns-clause-is : goal.returns-clause-is
returns-clause-is g c = carried c.make_in.result _ _ (λ result is keys given. is keys (given_is_seen keys (g.V.View.made c.make_in.new.view) (g.V.View.told c.make_in.new.view) c.deref.result.now (c.make_in.ensures.ids ∙ c.in_ok-tree.ensures.ok ∙ ap Some (sym c.deref.ensures)) given)) c.make_in.ensures.made

pub returns-clause-made : goal.returns-clause-made
returns-clause-made g c = carried_with c.make_in.result _ _ _
    (λ result is fits keys nodes layout given sound tidy.
    let client = c.args.client in
    let kind = c.args.kind in
    let path = c.args.path.now in
    let seen = given_is_seen keys (g.V.View.made c.make_in.new.view) (g.V.View.told c.make_in.new.view) c.deref.result.now (c.make_in.ensures.ids ∙ c.in_ok-tree.ensures.ok ∙ ap Some (sym c.deref.ensures)) given in
    let nothing : Read = λ places digest. None in
    let next = next_in keys client in
    let number = number_for keys client in
    made_agrees keys nodes layout kind client path c.requires
    (λ spot at link. c.sound_names_are_refused_alike.ensures.refused keys spot.sub.id spot.number link tidy.drawn sound.names (c.subvolumes_begin_good.ensures.leaf keys nodes layout path.sub spot.sub sound at.sub))
    (λ spot name at last added_names more added each_named.
    let sub = spot.sub in
    let id = sub.id in
    let directory = spot.number in
    let slot = slot_of name in
    let leaf = c.subvolumes_begin_good.ensures.leaf keys nodes layout path.sub sub sound at.sub in
    let counted = with_update (count_update keys client) keys in
    let inoded = with_update (put_inode id number (new_inode kind)) counted in
    let links = links_in keys id directory slot in
    let link = link_to kind name number in
    let all = with_link link links in
    let own = own_update Dirents directory slot id (Some (values.Names all)) in
    let named = with_update own inoded in
    let adds = c.links_are_added_and_taken.ensures.added link links added.free in
    let holds = is_directory_kind (kind_in keys id directory) at.directory in
    let then = c.steps_follow_each_other.ensures.then keys in
    let leaf_in = c.steps_follow_each_other.ensures.leaf keys in
    let drawn = drawn_has keys client (λ n us. IsDrawn (with_updates us keys) n) more (c.draws_are_counted.ensures.drawn keys client c.requires seen.is_map) in
    let unused : (read : Read) → _ = λ read. c.places_stand_in_trees.ensures.unused keys read sub number (drawn_has keys client (λ n us. IsNewNumber keys n) more (c.draws_are_new.ensures.new keys client tidy.drawn)).unused in
    subst (λ us. All IsUpdate (count_update keys client ∷ put_inode id number (new_inode kind) ∷ us) → AreOfChange keys nodes layout (with_made keys nodes layout kind client path spot name number) (count_update keys client ∷ put_inode id number (new_inode kind) ∷ us)) (sym (added_is_own keys id directory link added_names added adds)) (λ each.
    let may = (recursion_from_All IsUpdate (count_update keys client ∷ put_inode id number (new_inode kind) ∷ own ∷ []) each).1.1.0 in
    let one = c.counters_are_steps.ensures keys nodes layout id client (next + 1) (count_update keys client) (c.subvolumes_begin_good.ensures.kept keys nodes layout seen.is_map sound tidy)
    (record { of_counters = refl; place = refl; value = refl }) (record { client_fits = c.requires; raised = omega arith; in_range = (omega arith, omega (arith, leb-false _ next more)) }) in
    let second = c.inodes_are_steps.ensures counted nodes layout id number (Some (new_inode kind)) one.kept (leaf_in counted nodes layout id _ _ one leaf) (new_inode_fits kind) drawn (inl (drawn_has keys client (λ n us. IsNewNumber (with_updates us keys) n) more (c.draws_are_counted.ensures.new keys client c.requires seen.is_map tidy.drawn)).unused) in
    let two = then counted inoded nodes layout id _ _ (with_inode number (Some (new_inode kind))) one second in
    let third = c.names_are_steps.ensures inoded nodes layout id directory slot (Some (values.Names all)) two.kept (leaf_in inoded nodes layout id _ _ two leaf) may refl
    (ap (λ (s : Shown). kind_of s directory) two.shows ∙ kind_stays (shown_in keys id) number directory (Some (new_inode kind)) Directory (unused nothing).1 holds)
    (may_stand inoded id directory slot link links all (ap (λ (s : Shown). s.links directory slot) two.shows) adds (record { good = last_is_good path name at.good last; drawn = second.drawn number drawn })) in
    let three = then inoded named nodes layout id _ _ (with_links directory slot all) two third in
    let place : Place = record { directory = directory; name = name; number = number } in
    let is_good : (read : Read) → _ = λ read. good_by_kind c.good_trees_are_changed.ensures.file c.good_trees_are_changed.ensures.directory kind read sub (shown_in keys id) (tree_of keys read sub) place all (c.subvolumes_begin_good.ensures.good keys nodes layout path.sub sub seen.is_map sound tidy at.sub read)
    (c.places_stand_in_trees.ensures.free keys read sub place holds added.free) (unused read).0 (unused read).1 (unused read).2 adds in
    let good = c.steps_end_in_good_trees.ensures.sound keys named nodes layout path.sub sub _ _ _ seen.is_map sound tidy at.sub three (is_good nothing).means.directories (is_good nothing).good in record {
      sound = good.0;
      tidy = good.1;
      means = λ read. c.steps_end_in_good_trees.ensures.counted keys named nodes layout path.sub sub _ client read (with_new kind place) c.requires sound at.sub three (is_good read).means;
    }) each_named)
    result (is keys seen) (fits (All IsUpdate) (λ updates has. has keys seen tidy)))
    c.make_in.ensures.made c.make_in.ensures.fits
