-- What the keys show before a name moves, by which step it moves, and what shows then.
use Rattle.std.proofs.Common.{Some, refl, sym, ap, ◌∙◌, subst, inr, arith}
use Rattle.std.specs.Prelude.{is_some}
use Rattle.dirent_keys.specs.Links.{with_link, without_name}
use Rattle.dirent_keys.specs.Moves.{shown_with}
use Rattle.forest_ops.specs.Refusals.{result_map}
use Rattle.forest_ops.specs.Trees.{moved}
use Rattle.key_meaning.specs.Forest.{forest_in, kind_in, link_named, links_in, tree_of}
use Rattle.key_steps.specs.Shown.{shown_in}
use Rattle.name_plan.proofs.AddedNames.{none_there}
use Rattle.name_plan.proofs.DirectoriesUnder.{found_is_directory}
use Rattle.name_plan.proofs.FewUpdates.{AreFew, few_are_made}
use Rattle.name_plan.proofs.GoodNames.{good_is_name, last_is_good}
use Rattle.name_plan.proofs.MovedKeys.{carried_moved, is_moved, kind_there, moved_few}
use Rattle.name_plan.proofs.Renamed.{rename_agrees}
use Rattle.name_plan.proofs.Sources.{same_value}
use Rattle.name_plan.proofs.ShownKinds.{is_directory_kind}
use Rattle.path_plan.specs.LookLaws.{carried, given_is_seen}
use Rattle.path_plan.specs.PathLaws.{shared_is, sub_is_shared}
use Rattle.plain_forest.specs.Names.{parent_names}
use Rattle.tree_changes.specs.Trees.{MayMove}
use Rattle.vol_digest.specs.Digests.{slot_of}
use Rattle.vol_types.specs.KeyMaps.{with_updates}
use Rattle.vol_types.specs.declared.values.Link.{Link}
use Rattle.name_plan.proofs.renaming.rename.Goals as goal

pub returns-clause-is : goal.returns-clause-is
returns-clause-is g c = carried c.rename_shared.result _ _ (λ result is keys given. is keys (given_is_seen keys (g.V.View.made c.rename_shared.new.view) (g.V.View.told c.rename_shared.new.view) c.deref.result.now (c.rename_shared.ensures.ids ∙ c.in_ok-tree.ensures.ok ∙ ap Some (sym c.deref.ensures)) given)) c.rename_shared.ensures.moved

pub returns-clause-made : goal.returns-clause-made
returns-clause-made g c = carried_moved c.rename_shared.result _ _ _
    (λ planned is fits keys nodes layout given sound tidy read.
    let from = c.args.from.now in
    let to = c.args.to.now in
    let seen = given_is_seen keys (g.V.View.made c.rename_shared.new.view) (g.V.View.told c.rename_shared.new.view) c.deref.result.now (c.rename_shared.ensures.ids ∙ c.in_ok-tree.ensures.ok ∙ ap Some (sym c.deref.ensures)) given in
    let kept = c.subvolumes_begin_good.ensures.kept keys nodes layout seen.is_map sound tidy in
    rename_agrees from to keys read nodes layout planned (is keys seen)
    (λ sub shared directory name target link. c.moves_are_refused_alike.ensures keys sub.id directory name target link tidy.drawn sound.names (c.subvolumes_begin_good.ensures.leaf keys nodes layout from.sub sub sound (sub_is_shared keys from to sub shared).found))
    (λ updates places updates_are moves move.
    let sub = move.sub in
    let id = sub.id in
    let old = places.0 in
    let new = places.1 in
    let shared = sub_is_shared keys from to sub move.shared in
    let link : Link = record { number = new.number; kind = move.kind; name = new.name } in
    let leaf = c.subvolumes_begin_good.ensures.leaf keys nodes layout from.sub sub sound shared.found in
    let good = c.subvolumes_begin_good.ensures.good keys nodes layout from.sub sub seen.is_map sound tidy shared.found read in
    let passed = c.refusals_that_are_passed.ensures.moved from to (forest_in keys read) old new moves in
    let may_move = subst (MayMove old new) (same_value (sym passed.1 ∙ shared_is keys read from to ∙ ap (result_map (tree_of keys read)) move.shared)) passed.3 in
    let free = none_there (link_named new.name (links_in keys id new.directory (slot_of new.name))) (is_moved keys id old.directory old.name new.directory link updates move.step).fresh in
    let kind = kind_there sub.root (shown_in keys id) _ good.good old.directory old.name old.number move.kind move.target in
    let name_good = last_is_good to new.name shared.to_good move.last in
    let drawn = c.shown_numbers_are_drawn.ensures.drawn keys nodes layout id new.number move.kind kept (ap (kind_in keys id) move.same ∙ kind) in
    let steps = c.moves_are_steps.ensures keys nodes layout id old.directory old.name new.directory link updates kept leaf
    (is_directory_kind (kind_in keys id old.directory) (found_is_directory keys sub (parent_names from) old.directory move.old))
    (is_directory_kind (kind_in keys id new.directory) (found_is_directory keys sub (parent_names to) new.directory move.new))
    (record { good = name_good; drawn = drawn }) (good_is_name new.name name_good) (inr (ap is_some move.target)) move.step in
    let shown = shown_with keys id new.directory link in
    let changed = c.moved_names_are_good.ensures read sub (shown_in keys id) (tree_of keys read sub) old new move.kind
    (with_link link (links_in keys id new.directory (slot_of new.name))) (without_name old.name (shown.links old.directory (slot_of old.name))) good may_move kind
    (c.links_are_added_and_taken.ensures.added link (links_in keys id new.directory (slot_of new.name)) free)
    (c.links_are_added_and_taken.ensures.taken old.name (shown.links old.directory (slot_of old.name))) in
    let end = c.steps_end_in_good_trees.ensures.sound keys (with_updates updates keys) nodes layout from.sub sub _ _ _ seen.is_map sound tidy shared.found steps changed.means.directories changed.good in record {
      reply = refl;
      means = c.steps_end_in_good_trees.ensures.uncounted keys (with_updates updates keys) nodes layout from.sub sub _ read (moved old new) sound shared.found steps changed.means;
      sound = end.0;
      tidy = end.1;
      made = few_are_made 2 updates (omega arith) (subst (AreFew 2) (sym (is_moved keys id old.directory old.name new.directory link updates move.step).are) (moved_few keys id old.directory old.name new.directory link)) (fits updates updates_are keys seen tidy);
    }))
    c.rename_shared.ensures.moved c.rename_shared.ensures.fits
