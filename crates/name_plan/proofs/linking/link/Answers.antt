-- A further name is a step of the file's inode, which counts it, and one of the name.
use Rattle.std.proofs.Common.{◌+◌, ◌∷◌, [], Option, Some, None, ◌∙◌, ap, sym, refl, inr, subst}
use Rattle.std.specs.Prelude.{All, option_map}
use Rattle.std.proofs.lemmas.Bool.{false≢true}
use Rattle.std.proofs.lemmas.List.Elements.{recursion_from_All}
use Rattle.dirent_keys.specs.Links.{with_link}
use Rattle.forest_ops.specs.Trees.{Place, with_name}
use Rattle.inode_keys.specs.Inodes as inodes
use Rattle.key_meaning.specs.Forest.{Read, kind_in, links_in, tree_of}
use Rattle.key_steps.specs.Shown.{Shown, kind_of, shown_in, with_links}
use Rattle.key_view.specs.Changes.{own_update}
use Rattle.name_plan.proofs.AddedNames.{added_is_own, may_stand}
use Rattle.name_plan.proofs.ChangedForests.{AreOfChange}
use Rattle.name_plan.proofs.GoodNames.{last_is_good}
use Rattle.name_plan.proofs.Linked.{linked_agrees, with_linked}
use Rattle.name_plan.proofs.Results.{carried_with}
use Rattle.name_plan.proofs.ShownKinds.{is_directory_kind, kind_kept}
use Rattle.name_plan.specs.New.{link_to, put_inode}
use Rattle.path_plan.specs.LookLaws.{carried, given_is_seen}
use Rattle.vol_digest.specs.Digests.{slot_of}
use Rattle.vol_types.specs.KeyMaps.{with_update}
use Rattle.vol_types.specs.Standing.{IsUpdate}
use Rattle.vol_types.specs.declared.positions.Btree.TheVariants.{Dirents}
use Rattle.vol_types.specs.declared.values.FileKind.TheVariants.{Directory, File}
use Rattle.vol_types.specs.declared.values.Inode.{Inode}
use Rattle.vol_types.specs.declared.values.Value.TheVariants as values
use Rattle.name_plan.proofs.linking.link.Goals as goal

pub returns-clause-is : goal.returns-clause-is
returns-clause-is g c = carried c.link_shared.result _ _ (λ result is keys given. is keys (given_is_seen keys (g.V.View.made c.link_shared.new.view) (g.V.View.told c.link_shared.new.view) c.deref.result.now (c.link_shared.ensures.ids ∙ c.in_ok-tree.ensures.ok ∙ ap Some (sym c.deref.ensures)) given)) c.link_shared.ensures.made

pub returns-clause-made : goal.returns-clause-made
returns-clause-made g c = carried_with c.link_shared.result _ _ _
    (λ result is fits keys nodes layout given sound tidy read.
    let from = c.args.from.now in
    let to = c.args.to.now in
    let seen = given_is_seen keys (g.V.View.made c.link_shared.new.view) (g.V.View.told c.link_shared.new.view) c.deref.result.now (c.link_shared.ensures.ids ∙ c.in_ok-tree.ensures.ok ∙ ap Some (sym c.deref.ensures)) given in
    let nothing : Read = λ places digest. None in
    let kept = c.subvolumes_begin_good.ensures.kept keys nodes layout seen.is_map sound tidy in
    linked_agrees keys nodes layout from to read
    (λ sub shared directory link. c.sound_names_are_refused_alike.ensures.refused keys sub.id directory link tidy.drawn sound.names (c.subvolumes_begin_good.ensures.leaf keys nodes layout from.sub sub sound shared.found))
    (λ sub number inode shared file. (c.subvolumes_begin_good.ensures.good keys nodes layout from.sub sub seen.is_map sound tidy shared.found nothing).good.links number inode file.shows file.kind)
    (λ sub number inode directory name at added_names added each_named.
    let id = sub.id in
    let slot = slot_of name in
    let found = at.shared.found in
    let leaf = c.subvolumes_begin_good.ensures.leaf keys nodes layout from.sub sub sound found in
    let more : Inode = inodes.with_links inode (inode.links + 1) in
    let counted = with_update (put_inode id number more) keys in
    let links = links_in keys id directory slot in
    let link = link_to File name number in
    let all = with_link link links in
    let own = own_update Dirents directory slot id (Some (values.Names all)) in
    let named = with_update own counted in
    let adds = c.links_are_added_and_taken.ensures.added link links added.free in
    let holds = is_directory_kind (kind_in keys id directory) at.found in
    let drawn = c.shown_numbers_are_drawn.ensures.drawn keys nodes layout id number File kept (ap (λ (o : Option Inode). option_map (λ (i : Inode). i.kind) o) at.file.shows ∙ ap Some at.file.kind) in
    subst (λ us. All IsUpdate (put_inode id number more ∷ us) → AreOfChange keys nodes layout (with_linked keys nodes layout from to number directory name) (put_inode id number more ∷ us)) (sym (added_is_own keys id directory link added_names added adds)) (λ each.
    let may = recursion_from_All IsUpdate (put_inode id number more ∷ own ∷ []) each in
    let one = c.inodes_are_steps.ensures keys nodes layout id number (Some more) kept leaf may.0.in_range drawn (inr (record { old = inode; shows = at.file.shows; stays = refl; goes = λ none. absurd (false≢true (sym none)) })) in
    let second = c.names_are_steps.ensures counted nodes layout id directory slot (Some (values.Names all)) one.kept (c.steps_follow_each_other.ensures.leaf keys counted nodes layout id _ _ one leaf) may.1.0 refl
    (ap (λ (s : Shown). kind_of s directory) one.shows ∙ kind_kept (shown_in keys id) number directory inode more Directory at.file.shows refl holds)
    (may_stand counted id directory slot link links all (ap (λ (s : Shown). s.links directory slot) one.shows) adds (record { good = last_is_good to name at.shared.to_good at.last; drawn = one.drawn number drawn })) in
    let two = c.steps_follow_each_other.ensures.then keys counted named nodes layout id _ _ (with_links directory slot all) one second in
    let place : Place = record { directory = directory; name = name; number = number } in
    let is_good : (read : Read) → _ = λ r. c.good_trees_are_changed.ensures.linked r sub (shown_in keys id) (tree_of keys r sub) place all inode (c.subvolumes_begin_good.ensures.good keys nodes layout from.sub sub seen.is_map sound tidy found r)
    (c.places_stand_in_trees.ensures.free keys r sub place holds added.free) at.file.shows at.file.kind adds in
    let good = c.steps_end_in_good_trees.ensures.sound keys named nodes layout from.sub sub _ _ _ seen.is_map sound tidy found two (is_good nothing).means.directories (is_good nothing).good in record {
      sound = good.0;
      tidy = good.1;
      means = λ r. c.steps_end_in_good_trees.ensures.uncounted keys named nodes layout from.sub sub _ r (with_name place) sound found two (is_good r).means;
    }) each_named)
    result (is keys seen) (fits (All IsUpdate) (λ updates has. has keys seen tidy)))
    c.link_shared.ensures.made c.link_shared.ensures.fits
