-- The file at the first path, and then its further name.
use Rattle.std.proofs.Common.{◌∙◌, ap, sym}
use Rattle.std.specs.Option.{ok_or}
use Rattle.forest_ops.specs.Refusals.{◌>>=◌}
use Rattle.forest_ops.specs.declared.operation.Cause.TheVariants.{IsDir}
use Rattle.name_plan.proofs.FilesShown.{shown_fits, shown_is_file}
use Rattle.name_plan.proofs.Results.{carried_made}
use Rattle.name_plan.specs.Files.{file_shown}
use Rattle.name_plan.specs.New.{file_linked}
use Rattle.path_plan.specs.LookLaws.{carried, seen_before}
use Rattle.path_plan.specs.Looking.{lead_to}
use Rattle.vol_types.specs.declared.positions.Btree.TheVariants.{Inodes}
use Rattle.name_plan.proofs.linking.link_in.Goals as goal

pub returns-in-Err-clause-made : goal.returns-in-Err-clause-made
returns-in-Err-clause-made g c = λ keys seen.
    let a = c.args in
    ap (λ r. r >>= (λ number. ok_or (file_shown keys a.sub.now.id number) IsDir >>= (λ inode. file_linked keys a.to.now a.sub.now number inode))) (sym c.in-Err.is ∙ c.in_ok-number.ensures.found keys seen ∙ ap (λ names. lead_to keys a.sub.now.id names a.sub.now.root) c.as_slice.ensures)

pub returns-in-None-clause-made : goal.returns-in-None-clause-made
returns-in-None-clause-made g c = λ keys seen.
    let a = c.args in
    let before = seen_before keys (g.V.View.made c.walk.new.view) (g.V.View.made c.file_shown.new.view) a.tree.now c.in_ok-inode.ensures.looks seen in
    ap (λ o. ok_or o IsDir >>= (λ inode. file_linked keys a.to.now a.sub.now c.in-Ok.number inode)) (sym c.in-None.is ∙ c.in_ok-inode.ensures.inode keys seen)
    ∙ ap (λ r. r >>= (λ number. ok_or (file_shown keys a.sub.now.id number) IsDir >>= (λ inode. file_linked keys a.to.now a.sub.now number inode))) (sym c.in-Ok.is ∙ c.in_ok-number.ensures.found keys before ∙ ap (λ names. lead_to keys a.sub.now.id names a.sub.now.root) c.as_slice.ensures)

pub returns-in-Some-clause-made : goal.returns-in-Some-clause-made
returns-in-Some-clause-made g c = carried c.link_file.result _ _
    (λ result is keys seen.
    let a = c.args in
    let after = seen_before keys (g.V.View.made c.file_shown.new.view) (g.V.View.made c.link_file.new.view) a.tree.now c.link_file.ensures.looks seen in
    let before = seen_before keys (g.V.View.made c.walk.new.view) (g.V.View.made c.file_shown.new.view) a.tree.now c.in_ok-inode.ensures.looks after in
    is keys seen
    ∙ ap (λ o. ok_or o IsDir >>= (λ inode. file_linked keys a.to.now a.sub.now c.in-Ok.number inode)) (sym c.in-Some.is ∙ c.in_ok-inode.ensures.inode keys after)
    ∙ ap (λ r. r >>= (λ number. ok_or (file_shown keys a.sub.now.id number) IsDir >>= (λ inode. file_linked keys a.to.now a.sub.now number inode))) (sym c.in-Ok.is ∙ c.in_ok-number.ensures.found keys before ∙ ap (λ names. lead_to keys a.sub.now.id names a.sub.now.root) c.as_slice.ensures))
    c.link_file.ensures.made

pub returns-in-Some-clause-fits : goal.returns-in-Some-clause-fits
returns-in-Some-clause-fits g c = carried_made c.link_file.result _ _
    (λ updates has good keys seen drawn.
    let a = c.args in
    let after = seen_before keys (g.V.View.made c.file_shown.new.view) (g.V.View.made c.link_file.new.view) a.tree.now c.link_file.ensures.looks seen in
    let file = shown_is_file keys a.sub.now.id c.in-Ok.number c.in-Some.inode (sym (sym c.in-Some.is ∙ c.in_ok-inode.ensures.inode keys after)) in
    has file.kind (shown_fits keys a.sub.now.id c.in-Ok.number c.in-Some.inode (c.sound_names_are_refused_alike.ensures.in_range keys drawn Inodes 0 c.in-Ok.number a.sub.now.id) file.shows) good keys seen drawn)
    c.link_file.ensures.fits
