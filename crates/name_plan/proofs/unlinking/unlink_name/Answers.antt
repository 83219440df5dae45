-- The refusals in their order, and then the updates of the name and of the inode.
use Rattle.std.proofs.Common.{◌∙◌, ◌++◌, Some, ap, sym, subst}
use Rattle.std.specs.Prelude.{All, Ok, option_map}
use Rattle.std.proofs.lemmas.List.Elements.{All-append}
use Rattle.dirent_keys.specs.Names.{Target}
use Rattle.key_meaning.specs.Visible.{visible}
use Rattle.name_plan.proofs.FilesShown.{shown_is_file}
use Rattle.name_plan.proofs.Goes.{inode_fits, number_found, removal_is, some_has}
use Rattle.name_plan.proofs.Unlinked.{unlinks_locked, unlinks_name, unlinks_no_file}
use Rattle.path_plan.specs.LookLaws.{seen_before}
use Rattle.vol_types.specs.Standing.{IsUpdate}
use Rattle.vol_types.specs.declared.positions.Btree.TheVariants.{Inodes}
use Rattle.name_plan.proofs.unlinking.unlink_name.Goals as goal

pub returns-in_default-2-clause-made : goal.returns-in_default-2-clause-made
returns-in_default-2-clause-made g c = λ keys seen.
    let a = c.args in
    let spot = a.spot.now in
    let made = g.V.View.made in
    let before = seen_before keys (made c.find.new.view) (made c.file_shown.new.view) a.tree.now c.in_ok-inode.ensures.looks seen in
    let leads = c.in-Some.ensures ∙ ap (option_map (λ (t : Target). t.0)) (c.in_ok-find.ensures.target keys before) ∙ number_found keys spot.sub.id spot.number a.name.now in
    unlinks_no_file keys a.name.now spot c.in-Some.number (sym leads) (sym (c.in_ok-inode.ensures.inode keys seen) ∙ c.in_default-2.is)

pub returns-then-spot-clause-made : goal.returns-then-spot-clause-made
returns-then-spot-clause-made g c = λ keys seen.
    let a = c.args in
    let spot = a.spot.now in
    let made = g.V.View.made in
    let before = seen_before keys (made c.find.new.view) (made c.file_shown.new.view) a.tree.now c.in_ok-inode.ensures.looks seen in
    let leads = c.in-Some.ensures ∙ ap (option_map (λ (t : Target). t.0)) (c.in_ok-find.ensures.target keys before) ∙ number_found keys spot.sub.id spot.number a.name.now in
    unlinks_locked keys a.name.now spot c.in-Some.number (sym leads) c.in-Some-2.inode (sym (c.in_ok-inode.ensures.inode keys seen) ∙ c.in-Some-2.is) c.if-spot.true

pub returns-clause-made : goal.returns-clause-made
returns-clause-made g c = λ keys seen.
    let a = c.args in
    let spot = a.spot.now in
    let made = g.V.View.made in
    let third = seen_before keys (made c.remove.new.view) (made c.one_link_less.new.view) a.tree.now c.in_ok-unlinked.ensures.looks seen in
    let second = seen_before keys (made c.file_shown.new.view) (made c.remove.new.view) a.tree.now c.in_ok-named.ensures.looks third in
    let first = seen_before keys (made c.find.new.view) (made c.file_shown.new.view) a.tree.now c.in_ok-inode.ensures.looks second in
    let leads = sym (c.in-Some.ensures ∙ ap (option_map (λ (t : Target). t.0)) (c.in_ok-find.ensures.target keys first) ∙ number_found keys spot.sub.id spot.number a.name.now) in
    ap Ok (c.in_ok-joined.ensures
    ∙ (λ i. removal_is keys spot.sub.id spot.number a.name.now c.in-Some.number c.in-Some-3.named leads (sym c.in-Some-3.is ∙ c.in_ok-named.ensures.removal keys third) i ++ c.in_ok-unlinked.ensures.updates keys seen i))
    ∙ unlinks_name keys a.name.now spot c.in-Some.number leads c.in-Some-2.inode (sym (c.in_ok-inode.ensures.inode keys second) ∙ c.in-Some-2.is) c.if-spot.false

pub returns-clause-fits : goal.returns-clause-fits
returns-clause-fits g c = λ keys seen names inodes.
    let a = c.args in
    let id = a.spot.now.sub.id in
    let number = c.in-Some.number in
    let made = g.V.View.made in
    let third = seen_before keys (made c.remove.new.view) (made c.one_link_less.new.view) a.tree.now c.in_ok-unlinked.ensures.looks seen in
    let second = seen_before keys (made c.file_shown.new.view) (made c.remove.new.view) a.tree.now c.in_ok-named.ensures.looks third in
    let file = shown_is_file keys id number c.in-Some-2.inode (sym (c.in_ok-inode.ensures.inode keys second) ∙ c.in-Some-2.is) in
    subst (All IsUpdate) (sym c.in_ok-joined.ensures)
    (All-append IsUpdate c.in-Some-3.named c.in_ok-unlinked.unlinked (some_has _ c.in-Some-3.is c.in_ok-named.ensures.fits keys third names)
    (c.in_ok-unlinked.ensures.fits (inode_fits (visible keys Inodes 0 number id) c.in-Some-2.inode file.shows (inodes number))))
