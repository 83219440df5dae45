-- The refusals in their order, and then the updates of the name and of the inode.
use Rattle.std.proofs.Common.{◌∙◌, ◌++◌, Option, Some, ap, sym, subst}
use Rattle.std.specs.Prelude.{All, Ok, option_map}
use Rattle.std.proofs.lemmas.List.Elements.{All-append}
use Rattle.dirent_keys.specs.Names.{Target}
use Rattle.key_meaning.specs.Forest.{is_directory}
use Rattle.name_plan.proofs.Goes.{number_found, removal_is, some_has}
use Rattle.name_plan.proofs.Removed.{removes_full, removes_locked, removes_name, removes_no_directory}
use Rattle.path_plan.specs.LookLaws.{seen_before}
use Rattle.vol_types.specs.Standing.{IsUpdate}
use Rattle.vol_types.specs.declared.values.Inode.{Inode}
use Rattle.name_plan.proofs.removing.remove_name.Goals as goal

pub returns-then-not-is_of_directory-clause-made : goal.returns-then-not-is_of_directory-clause-made
returns-then-not-is_of_directory-clause-made g c = λ keys seen.
    let a = c.args in
    let spot = a.spot.now in
    let id = spot.sub.id in
    let number = c.in-Some.number in
    let name = a.name.now in
    let made = g.V.View.made in
    let first = seen_before keys (made c.find.new.view) (made c.inode_of.new.view) a.tree.now c.in_ok-inode_of.ensures.looks seen in
    let leads = sym (c.in-Some.ensures ∙ ap (option_map (λ (t : Target). t.0)) (c.in_ok-find.ensures.target keys first) ∙ number_found keys id spot.number name) in
    let kind = sym (c.is_of_directory.ensures ∙ ap (λ (o : Option Inode). is_directory (option_map (λ (i : Inode). i.kind) o)) (c.in_ok-inode_of.ensures.inode keys seen)) ∙ c.if-not-is_of_directory.true in
    removes_no_directory keys name spot number leads kind

pub returns-then-spot-clause-made : goal.returns-then-spot-clause-made
returns-then-spot-clause-made g c = λ keys seen.
    let a = c.args in
    let spot = a.spot.now in
    let id = spot.sub.id in
    let number = c.in-Some.number in
    let name = a.name.now in
    let made = g.V.View.made in
    let first = seen_before keys (made c.find.new.view) (made c.inode_of.new.view) a.tree.now c.in_ok-inode_of.ensures.looks seen in
    let leads = sym (c.in-Some.ensures ∙ ap (option_map (λ (t : Target). t.0)) (c.in_ok-find.ensures.target keys first) ∙ number_found keys id spot.number name) in
    let kind = sym (c.is_of_directory.ensures ∙ ap (λ (o : Option Inode). is_directory (option_map (λ (i : Inode). i.kind) o)) (c.in_ok-inode_of.ensures.inode keys seen)) ∙ c.if-not-is_of_directory.false in
    removes_locked keys name spot number leads kind c.if-spot.true

pub returns-then-branch-clause-made : goal.returns-then-branch-clause-made
returns-then-branch-clause-made g c = λ keys seen.
    let a = c.args in
    let spot = a.spot.now in
    let id = spot.sub.id in
    let number = c.in-Some.number in
    let name = a.name.now in
    let made = g.V.View.made in
    let second = seen_before keys (made c.inode_of.new.view) (made c.has_names.new.view) a.tree.now c.in_ok-has_names.ensures.looks seen in
    let first = seen_before keys (made c.find.new.view) (made c.inode_of.new.view) a.tree.now c.in_ok-inode_of.ensures.looks second in
    let leads = sym (c.in-Some.ensures ∙ ap (option_map (λ (t : Target). t.0)) (c.in_ok-find.ensures.target keys first) ∙ number_found keys id spot.number name) in
    let kind = sym (c.is_of_directory.ensures ∙ ap (λ (o : Option Inode). is_directory (option_map (λ (i : Inode). i.kind) o)) (c.in_ok-inode_of.ensures.inode keys second)) ∙ c.if-not-is_of_directory.false in
    removes_full keys name spot number leads kind c.if-spot.false (sym (c.in_ok-has_names.ensures.has keys seen) ∙ c.if-branch.true)

pub returns-clause-made : goal.returns-clause-made
returns-clause-made g c = λ keys seen.
    let a = c.args in
    let spot = a.spot.now in
    let id = spot.sub.id in
    let number = c.in-Some.number in
    let name = a.name.now in
    let made = g.V.View.made in
    let fourth = seen_before keys (made c.remove.new.view) (made c.set.new.view) a.tree.now c.in_ok-gone.ensures.looks seen in
    let third = seen_before keys (made c.has_names.new.view) (made c.remove.new.view) a.tree.now c.in_ok-named.ensures.looks fourth in
    let second = seen_before keys (made c.inode_of.new.view) (made c.has_names.new.view) a.tree.now c.in_ok-has_names.ensures.looks third in
    let first = seen_before keys (made c.find.new.view) (made c.inode_of.new.view) a.tree.now c.in_ok-inode_of.ensures.looks second in
    let leads = sym (c.in-Some.ensures ∙ ap (option_map (λ (t : Target). t.0)) (c.in_ok-find.ensures.target keys first) ∙ number_found keys id spot.number name) in
    let kind = sym (c.is_of_directory.ensures ∙ ap (λ (o : Option Inode). is_directory (option_map (λ (i : Inode). i.kind) o)) (c.in_ok-inode_of.ensures.inode keys second)) ∙ c.if-not-is_of_directory.false in
    ap Ok (c.in_ok-joined.ensures
    ∙ (λ i. removal_is keys id spot.number name number c.in-Some-2.named leads (sym c.in-Some-2.is ∙ c.in_ok-named.ensures.removal keys fourth) i ++ c.in_ok-gone.ensures.updates keys seen i))
    ∙ removes_name keys name spot number leads kind c.if-spot.false (sym (c.in_ok-has_names.ensures.has keys third) ∙ c.if-branch.false)

pub returns-clause-fits : goal.returns-clause-fits
returns-clause-fits g c = λ keys seen names.
    let made = g.V.View.made in
    let before = seen_before keys (made c.remove.new.view) (made c.set.new.view) c.args.tree.now c.in_ok-gone.ensures.looks seen in
    subst (All IsUpdate) (sym c.in_ok-joined.ensures)
    (All-append IsUpdate c.in-Some-2.named c.in_ok-gone.gone (some_has _ c.in-Some-2.is c.in_ok-named.ensures.fits keys before names) (c.in_ok-gone.ensures.fits tt))
