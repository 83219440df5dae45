-- The directory of the new path, the refusals in their order, and then the name.
use Rattle.std.proofs.Common.{◌∙◌, ap, sym}
use Rattle.std.specs.Option.{ok_or}
use Rattle.forest_ops.specs.Refusals.{◌>>=◌, refused_if}
use Rattle.forest_ops.specs.declared.operation.Cause.TheVariants.{Exists, ReadOnly}
use Rattle.name_plan.proofs.GoodNames.{good_is_name, last_is_good}
use Rattle.name_plan.proofs.Results.{carried_made}
use Rattle.name_plan.specs.Directories.{directory_under}
use Rattle.name_plan.specs.New.{file_named}
use Rattle.path_plan.specs.LookLaws.{carried, seen_before}
use Rattle.plain_forest.specs.Names.{last_name}
use Rattle.vol_digest.specs.Digests.{slot_of}
use Rattle.vol_types.specs.declared.positions.Btree.TheVariants.{Dirents}
use Rattle.name_plan.proofs.linking.link_file.Goals as goal

pub returns-in-Err-clause-made : goal.returns-in-Err-clause-made
returns-in-Err-clause-made g c = λ keys seen.
    let a = c.args in
    ap (λ r. r >>= (λ directory. refused_if a.sub.now.read_only ReadOnly >>= (λ _. ok_or (last_name a.to.now) Exists >>= (λ name. file_named keys a.sub.now.id a.number a.inode directory name))))
    (sym c.in-Err.is ∙ c.in_ok-directory.ensures.found keys seen ∙ ap (directory_under keys a.sub.now) c.parents.ensures)

pub returns-then-sub-clause-made : goal.returns-then-sub-clause-made
returns-then-sub-clause-made g c = λ keys seen.
    let a = c.args in
    ap (λ b. refused_if b ReadOnly >>= (λ _. ok_or (last_name a.to.now) Exists >>= (λ name. file_named keys a.sub.now.id a.number a.inode c.in-Ok.directory name))) (sym c.if-sub.true)
    ∙ ap (λ r. r >>= (λ directory. refused_if a.sub.now.read_only ReadOnly >>= (λ _. ok_or (last_name a.to.now) Exists >>= (λ name. file_named keys a.sub.now.id a.number a.inode directory name))))
    (sym c.in-Ok.is ∙ c.in_ok-directory.ensures.found keys seen ∙ ap (directory_under keys a.sub.now) c.parents.ensures)

pub returns-in_default-clause-made : goal.returns-in_default-clause-made
returns-in_default-clause-made g c = λ keys seen.
    let a = c.args in
    ap (λ o. ok_or o Exists >>= (λ name. file_named keys a.sub.now.id a.number a.inode c.in-Ok.directory name)) c.in_default.ensures
    ∙ ap (λ b. refused_if b ReadOnly >>= (λ _. ok_or (last_name a.to.now) Exists >>= (λ name. file_named keys a.sub.now.id a.number a.inode c.in-Ok.directory name))) (sym c.if-sub.false)
    ∙ ap (λ r. r >>= (λ directory. refused_if a.sub.now.read_only ReadOnly >>= (λ _. ok_or (last_name a.to.now) Exists >>= (λ name. file_named keys a.sub.now.id a.number a.inode directory name))))
    (sym c.in-Ok.is ∙ c.in_ok-directory.ensures.found keys seen ∙ ap (directory_under keys a.sub.now) c.parents.ensures)

pub returns-clause-made : goal.returns-clause-made
returns-clause-made g c = carried c.name_file.result _ _
    (λ result is keys seen.
    let a = c.args in
    let before = seen_before keys (g.V.View.made c.directory_under.new.view) (g.V.View.made c.name_file.new.view) a.tree.now c.name_file.ensures.looks seen in
    is keys seen
    ∙ ap (λ o. ok_or o Exists >>= (λ name. file_named keys a.sub.now.id a.number a.inode c.in-Ok.directory name)) c.in-Some.ensures
    ∙ ap (λ b. refused_if b ReadOnly >>= (λ _. ok_or (last_name a.to.now) Exists >>= (λ name. file_named keys a.sub.now.id a.number a.inode c.in-Ok.directory name))) (sym c.if-sub.false)
    ∙ ap (λ r. r >>= (λ directory. refused_if a.sub.now.read_only ReadOnly >>= (λ _. ok_or (last_name a.to.now) Exists >>= (λ name. file_named keys a.sub.now.id a.number a.inode directory name))))
    (sym c.in-Ok.is ∙ c.in_ok-directory.ensures.found keys before ∙ ap (directory_under keys a.sub.now) c.parents.ensures))
    c.name_file.ensures.made

pub returns-clause-fits : goal.returns-clause-fits
returns-clause-fits g c = carried_made c.name_file.result _ _
    (λ updates has kind inode good keys seen drawn.
    let name = c.in-Some.name.now in
    has kind inode (good_is_name name (last_is_good c.args.to.now name good (sym c.in-Some.ensures))) keys seen (c.sound_names_are_refused_alike.ensures.in_range keys drawn Dirents c.in-Ok.directory (slot_of name) c.args.sub.now.id))
    c.name_file.ensures.fits
