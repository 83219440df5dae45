-- The name that goes is a step, and so is the inode with one link less, or gone with a note.
use Rattle.std.proofs.Common.{◌≡◌, [], ◌∷◌, ◌++◌, Some, None, ◌∙◌, ap, cond, sym, refl}
use Rattle.std.specs.Prelude.{◌==◌, ◌-◌, All, option_map}
use Rattle.dirent_keys.specs.Names.{updates_to_remove}
use Rattle.forest_ops.specs.Trees.{Place, unlinked}
use Rattle.inode_keys.specs.Inodes.{note_gone, with_links as with_count}
use Rattle.key_meaning.specs.Forest.{Read, kind_in, link_named, links_in, tree_of}
use Rattle.key_meaning.specs.Visible.{visible}
use Rattle.key_steps.specs.Shown.{Shown, shown_in}
use Rattle.name_plan.proofs.FilesShown.{shown_is_file}
use Rattle.name_plan.proofs.Goes.{GoingLaws, all_first, change_ends, inode_fits, inode_goes, link_there, name_goes, planned_once, shown_gone, unnamed}
use Rattle.name_plan.proofs.Results.{carried_with}
use Rattle.name_plan.proofs.ShownKinds.{is_directory_kind}
use Rattle.name_plan.proofs.Unlinked.{inode_left, unlink_agrees, unlinks, updates_gone}
use Rattle.name_plan.specs.Gone.{updates_to_unlink}
use Rattle.path_plan.specs.LookLaws.{carried, given_is_seen}
use Rattle.vol_digest.specs.Digests.{slot_of}
use Rattle.vol_types.specs.Standing.{IsUpdate}
use Rattle.vol_types.specs.declared.positions.Btree.TheVariants.{Inodes}
use Rattle.vol_types.specs.declared.values.FileKind.TheVariants.{File}
use Rattle.vol_types.specs.declared.values.Inode.{Inode}
use Rattle.vol_types.specs.declared.values.Value.TheVariants as values
use Rattle.name_plan.proofs.unlinking.unlink.Goals as goal

pub returns-clause-is : goal.returns-clause-is
returns-clause-is g c = carried c.unlink_in.result _ _ (λ result is keys given. is keys (given_is_seen keys (g.V.View.made c.unlink_in.new.view) (g.V.View.told c.unlink_in.new.view) c.deref.result.now (c.unlink_in.ensures.ids ∙ c.in_ok-tree.ensures.ok ∙ ap Some (sym c.deref.ensures)) given)) c.unlink_in.ensures.made

pub returns-clause-made : goal.returns-clause-made
returns-clause-made g c = carried_with c.unlink_in.result _ _ _
    (λ result is fits keys nodes layout given sound tidy.
    let path = c.args.path.now in
    let seen = given_is_seen keys (g.V.View.made c.unlink_in.new.view) (g.V.View.told c.unlink_in.new.view) c.deref.result.now (c.unlink_in.ensures.ids ∙ c.in_ok-tree.ensures.ok ∙ ap Some (sym c.deref.ensures)) given in
    let nothing : Read = λ places digest. None in
    let begins = c.subvolumes_begin_good.ensures in
    let laws : GoingLaws = record {
      names = c.names_are_steps.ensures;
      then = c.steps_follow_each_other.ensures.then;
      same = c.updates_are_planned_once.ensures.same;
      elsewhere = c.updates_are_planned_once.ensures.elsewhere;
      ids = c.updates_are_planned_once.ensures.ids;
      sound = c.steps_end_in_good_trees.ensures.sound;
      uncounted = c.steps_end_in_good_trees.ensures.uncounted;
    } in
    unlink_agrees keys nodes layout path
    (λ sub found. (begins.good keys nodes layout path.sub sub seen.is_map sound tidy found nothing).good.top)
    (λ name spot number inode last at leads shows each.
    let sub = spot.sub in
    let id = sub.id in
    let directory = spot.number in
    let slot = slot_of name in
    let middle = unnamed laws keys nodes layout id directory name in
    let link = link_there (link_named name (links_in keys id directory slot)) number leads in
    let file = shown_is_file keys id number inode shows in
    let kept = begins.kept keys nodes layout seen.is_map sound tidy in
    let leaf = begins.leaf keys nodes layout path.sub sub sound at.sub in
    let holds = is_directory_kind (kind_in keys id directory) at.directory in
    let takes = c.links_are_added_and_taken.ensures.taken name (links_in keys id directory slot) in
    let in_range = inode_fits (visible keys Inodes 0 number id) inode file.shows (c.sound_names_are_refused_alike.ensures.in_range keys tidy.drawn Inodes 0 number id) in
    let drawn = c.shown_numbers_are_drawn.ensures.drawn keys nodes layout id number File kept (ap (option_map (λ (i : Inode). i.kind)) file.shows ∙ ap Some file.kind) in
    let first = name_goes laws keys nodes layout id directory name kept leaf holds (all_first IsUpdate (updates_to_remove keys id directory name) (updates_to_unlink keys id number inode) each) takes in
    let stays = c.steps_follow_each_other.ensures.leaf keys middle nodes layout id _ _ first leaf in
    let second = unlinks middle nodes layout id number inode (ap (λ (s : Shown). s.inodes number) first.shows ∙ file.shows) file.kind in_range (first.drawn number drawn)
    (λ left. c.inodes_are_steps.ensures middle nodes layout id number left first.kept stays) (c.files_go_in_steps.ensures middle nodes layout id number first.kept stays) in
    let same : updates_to_unlink middle id number inode ≡ updates_to_unlink keys id number inode = λ i. cond (inode.links == 1) (planned_once laws keys nodes layout id directory name seen.is_map number None i ++ note_gone id number ∷ []) (planned_once laws keys nodes layout id directory name seen.is_map number (Some (values.Inode (with_count inode (inode.links - 1)))) i) in
    let place : Place = record { directory = directory; name = name; number = number } in
    change_ends laws keys (updates_gone keys name spot number inode) nodes layout path.sub sub (shown_gone keys id directory name number (inode_left inode)) (unlinked place) seen.is_map sound tidy at.sub
    (inode_goes laws keys nodes layout id directory name number (inode_left inode) (updates_to_unlink middle id number inode) (updates_to_unlink keys id number inode) same first second)
    (λ read. c.good_trees_are_changed.ensures.unlinked read sub (shown_in keys id) (tree_of keys read sub) place _ inode (begins.good keys nodes layout path.sub sub seen.is_map sound tidy at.sub read)
    (begins.apart keys nodes layout seen.is_map sound tidy id) (c.places_stand_in_trees.ensures.there keys read sub place link.0 holds link.1 link.2) file.shows file.kind takes))
    result (is keys seen) (fits (All IsUpdate) (λ updates has. has keys seen tidy)))
    c.unlink_in.ensures.made c.unlink_in.ensures.fits
