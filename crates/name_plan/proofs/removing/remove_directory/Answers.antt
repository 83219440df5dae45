-- The name that goes is a step, and so is the directory that goes with it.
use Rattle.std.proofs.Common.{◌++◌, Some, None, ◌∙◌, ap, cond, sym, refl, inr}
use Rattle.std.specs.Prelude.{All, option_map}
use Rattle.dirent_keys.specs.Names.{updates_to_remove}
use Rattle.forest_ops.specs.Trees.{Place, without_directory}
use Rattle.key_meaning.specs.Forest.{Read, inode_in, kind_in, link_named, links_in, tree_of}
use Rattle.key_steps.specs.Shown.{Shown, shown_in}
use Rattle.key_view.specs.Changes.{updates_to_see}
use Rattle.name_plan.proofs.Emptied.{emptied, no_names}
use Rattle.name_plan.proofs.Goes.{GoingLaws, all_first, change_ends, inode_goes, link_there, name_goes, planned_once, shown_gone, unnamed}
use Rattle.name_plan.proofs.Removed.{bare_there, directory_shows, remove_agrees, updates_gone}
use Rattle.name_plan.proofs.Results.{carried_with}
use Rattle.name_plan.proofs.ShownKinds.{is_directory_kind}
use Rattle.path_plan.specs.LookLaws.{carried, given_is_seen}
use Rattle.vol_digest.specs.Digests.{slot_of}
use Rattle.vol_types.specs.Standing.{IsUpdate}
use Rattle.vol_types.specs.declared.positions.Btree.TheVariants.{Inodes}
use Rattle.vol_types.specs.declared.values.FileKind.TheVariants.{Directory}
use Rattle.vol_types.specs.declared.values.Inode.{Inode}
use Rattle.name_plan.proofs.removing.remove_directory.Goals as goal

pub returns-clause-is : goal.returns-clause-is
returns-clause-is g c = carried c.remove_in.result _ _ (λ result is keys given. is keys (given_is_seen keys (g.V.View.made c.remove_in.new.view) (g.V.View.told c.remove_in.new.view) c.deref.result.now (c.remove_in.ensures.ids ∙ c.in_ok-tree.ensures.ok ∙ ap Some (sym c.deref.ensures)) given)) c.remove_in.ensures.made

pub returns-clause-made : goal.returns-clause-made
returns-clause-made g c = carried_with c.remove_in.result _ _ _
    (λ result is fits keys nodes layout given sound tidy.
    let path = c.args.path.now in
    let seen = given_is_seen keys (g.V.View.made c.remove_in.new.view) (g.V.View.told c.remove_in.new.view) c.deref.result.now (c.remove_in.ensures.ids ∙ c.in_ok-tree.ensures.ok ∙ ap Some (sym c.deref.ensures)) given in
    let nothing : Read = λ places digest. None in
    let begins = c.subvolumes_begin_good.ensures in
    let bares = c.bare_directories_have_no_names.ensures in
    let laws : GoingLaws = record {
      names = c.names_are_steps.ensures;
      then = c.steps_follow_each_other.ensures.then;
      same = c.updates_are_planned_once.ensures.same;
      elsewhere = c.updates_are_planned_once.ensures.elsewhere;
      ids = c.updates_are_planned_once.ensures.ids;
      sound = c.steps_end_in_good_trees.ensures.sound;
      uncounted = c.steps_end_in_good_trees.ensures.uncounted;
    } in
    remove_agrees keys nodes layout path
    (λ sub found. (begins.good keys nodes layout path.sub sub seen.is_map sound tidy found nothing).good.top)
    (λ spot at number. emptied keys spot.sub.id number (bares keys spot.sub.id number sound.names (begins.leaf keys nodes layout path.sub spot.sub sound at.sub)))
    (λ name spot number last at leads kind none each.
    let sub = spot.sub in
    let id = sub.id in
    let directory = spot.number in
    let slot = slot_of name in
    let middle = unnamed laws keys nodes layout id directory name in
    let link = link_there (link_named name (links_in keys id directory slot)) number leads in
    let goes = is_directory_kind (kind_in keys id number) kind in
    let inode = directory_shows (inode_in keys id number) goes in
    let kept = begins.kept keys nodes layout seen.is_map sound tidy in
    let leaf = begins.leaf keys nodes layout path.sub sub sound at.sub in
    let holds = is_directory_kind (kind_in keys id directory) at.directory in
    let takes = c.links_are_added_and_taken.ensures.taken name (links_in keys id directory slot) in
    let drawn = c.shown_numbers_are_drawn.ensures.drawn keys nodes layout id number Directory kept goes in
    let first = name_goes laws keys nodes layout id directory name kept leaf holds (all_first IsUpdate (updates_to_remove keys id directory name) (updates_to_see keys Inodes 0 number id None) each) takes in
    let stays = c.steps_follow_each_other.ensures.leaf keys middle nodes layout id _ _ first leaf in
    let second = c.inodes_are_steps.ensures middle nodes layout id number None first.kept stays tt (first.drawn number drawn)
    (inr (record { old = inode.0; shows = ap (λ (s : Shown). s.inodes number) first.shows ∙ inode.1; stays = tt; goes = λ _. inode.2 })) in
    let place : Place = record { directory = directory; name = name; number = number } in
    change_ends laws keys (updates_gone keys name spot number) nodes layout path.sub sub (shown_gone keys id directory name number None) (without_directory place) seen.is_map sound tidy at.sub
    (inode_goes laws keys nodes layout id directory name number None (updates_to_see middle Inodes 0 number id None) (updates_to_see keys Inodes 0 number id None) (planned_once laws keys nodes layout id directory name seen.is_map number None) first second)
    (λ read. c.good_trees_are_changed.ensures.removed read sub (shown_in keys id) (tree_of keys read sub) place _ (begins.good keys nodes layout path.sub sub seen.is_map sound tidy at.sub read)
    (begins.apart keys nodes layout seen.is_map sound tidy id) (c.places_stand_in_trees.ensures.there keys read sub place link.0 holds link.1 link.2)
    (bare_there keys read sub number kind (no_names keys id number (bares keys id number sound.names leaf) none)) takes))
    result (is keys seen) (fits (All IsUpdate) (λ updates has. has keys seen tidy)))
    c.remove_in.ensures.made c.remove_in.ensures.fits
