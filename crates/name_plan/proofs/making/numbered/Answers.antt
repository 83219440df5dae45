-- The updates of the counter, of the inode and of the name, one after the other.
use Rattle.std.proofs.Common.{Some, ◌++◌, ◌∙◌, ap, sym, subst}
use Rattle.std.specs.Prelude.{All, ◌∷◌, Ok}
use Rattle.std.proofs.lemmas.List.Elements.{All-append}
use Rattle.forest_ops.specs.Refusals.{◌>>=◌}
use Rattle.inode_keys.specs.Inodes.{new_inode}
use Rattle.key_view.specs.Changes.{updates_to_see}
use Rattle.name_plan.proofs.Results.{made_has}
use Rattle.name_plan.specs.NameSteps.{step_made}
use Rattle.name_plan.specs.New.{put_inode}
use Rattle.path_plan.specs.LookLaws.{seen_before}
use Rattle.vol_types.specs.Standing.{IsUpdate}
use Rattle.vol_types.specs.declared.positions.Btree.TheVariants.{Inodes}
use Rattle.vol_types.specs.declared.values.Value.TheVariants as values
use Rattle.name_plan.proofs.making.numbered.Goals as goal

pub returns-in_ok-all-in-Ok-clause-made : goal.returns-in_ok-all-in-Ok-clause-made
returns-in_ok-all-in-Ok-clause-made g c = λ keys seen.
    let a = c.args in
    let before = seen_before keys (g.V.View.made c.add.new.view) (g.V.View.made c.set.new.view) a.tree.now c.in_ok-inode-in-Ok.ensures.looks seen in
    ap (λ us. Ok us) (c.in_ok-all-in-Ok.ensures ∙ ap (λ us. a.counted ++ us) (c.in_ok-both-in-Ok.ensures ∙ ap (λ us. us ++ c.in-Ok.named) (c.in_ok-inode-in-Ok.ensures.updates keys seen ∙ ap (λ p. updates_to_see keys Inodes 0 a.number a.id (Some (values.Inode p))) c.new_inode.ensures.inode)))
    ∙ ap (λ r. r >>= (λ named. Ok (a.counted ++ put_inode a.id a.number (new_inode a.kind) ∷ named))) (sym c.in-Ok.is ∙ c.step_made.ensures ∙ ap step_made (c.in_ok-step.ensures.step keys before))

pub returns-in_ok-all-in-Ok-clause-fits : goal.returns-in_ok-all-in-Ok-clause-fits
returns-in_ok-all-in-Ok-clause-fits g c = λ counted named keys seen shows.
    let a = c.args in
    let before = seen_before keys (g.V.View.made c.add.new.view) (g.V.View.made c.set.new.view) a.tree.now c.in_ok-inode-in-Ok.ensures.looks seen in
    subst (All IsUpdate) (sym c.in_ok-all-in-Ok.ensures)
    (All-append IsUpdate a.counted c.in_ok-both-in-Ok.both counted (subst (All IsUpdate) (sym c.in_ok-both-in-Ok.ensures)
    (All-append IsUpdate c.in_ok-inode-in-Ok.inode c.in-Ok.named (c.in_ok-inode-in-Ok.ensures.fits c.new_inode.ensures.in_range)
    (made_has _ c.in_ok-step.step c.in-Ok.named (sym c.step_made.ensures ∙ c.in-Ok.is) (c.in_ok-step.ensures.fits named) keys before shows))))

pub returns-in-Err-clause-made : goal.returns-in-Err-clause-made
returns-in-Err-clause-made g c = λ keys seen.
    let a = c.args in
    ap (λ r. r >>= (λ named. Ok (a.counted ++ put_inode a.id a.number (new_inode a.kind) ∷ named))) (sym c.in-Err.is ∙ c.step_made.ensures ∙ ap step_made (c.in_ok-step.ensures.step keys seen))
