-- The updates of the inode and of the name, where the file may have one name more.
use Rattle.std.proofs.Common.{◌+◌, Some, ◌++◌, ◌∙◌, ap, sym, subst, arith}
use Rattle.std.specs.Prelude.{All, ◌∷◌, Ok, nat_le}
use Rattle.std.proofs.lemmas.Bool.{le-leb, lt-leb}
use Rattle.std.proofs.lemmas.List.Elements.{All-append}
use Rattle.std.specs.Int.{IsInRange}
use Rattle.forest_ops.specs.Names.{links_max}
use Rattle.forest_ops.specs.Refusals.{◌>>=◌, refused_if}
use Rattle.forest_ops.specs.declared.operation.Cause.TheVariants.{LinksFull}
use Rattle.inode_keys.specs.Inodes.{with_links}
use Rattle.key_view.specs.Changes.{updates_to_see}
use Rattle.name_plan.proofs.Results.{made_has}
use Rattle.name_plan.specs.NameSteps.{step_made}
use Rattle.name_plan.specs.New.{put_inode}
use Rattle.path_plan.specs.LookLaws.{seen_before}
use Rattle.vol_types.specs.Ranges.{most_links}
use Rattle.vol_types.specs.Standing.{IsUpdate}
use Rattle.vol_types.specs.declared.positions.Btree.TheVariants.{Inodes}
use Rattle.vol_types.specs.declared.values.Value.TheVariants as values
use Rattle.name_plan.proofs.linking.name_file.Goals as goal

pub returns-in-Err-clause-made : goal.returns-in-Err-clause-made
returns-in-Err-clause-made g c = λ keys seen.
    let a = c.args in
    ap (λ r. r >>= (λ named. refused_if (nat_le links_max a.inode.links) LinksFull >>= (λ _. Ok (put_inode a.id a.number (with_links a.inode (a.inode.links + 1)) ∷ named)))) (sym c.in-Err.is ∙ c.step_made.ensures ∙ ap step_made (c.in_ok-step.ensures.step keys seen))

pub returns-then-inode-ge-LINKS_MAX-clause-made : goal.returns-then-inode-ge-LINKS_MAX-clause-made
returns-then-inode-ge-LINKS_MAX-clause-made g c = λ keys seen.
    let a = c.args in
    ap (λ b. refused_if b LinksFull >>= (λ _. Ok (put_inode a.id a.number (with_links a.inode (a.inode.links + 1)) ∷ c.in-Ok.named))) (sym (le-leb 255 c.args.inode.links c.if-inode-ge-LINKS_MAX.true))
    ∙ ap (λ r. r >>= (λ named. refused_if (nat_le links_max a.inode.links) LinksFull >>= (λ _. Ok (put_inode a.id a.number (with_links a.inode (a.inode.links + 1)) ∷ named)))) (sym c.in-Ok.is ∙ c.step_made.ensures ∙ ap step_made (c.in_ok-step.ensures.step keys seen))

pub returns-clause-made : goal.returns-clause-made
returns-clause-made g c = λ keys seen.
    let a = c.args in
    let before = seen_before keys (g.V.View.made c.add.new.view) (g.V.View.made c.set.new.view) a.tree.now c.in_ok-counted.ensures.looks seen in
    ap (λ us. Ok us) (c.in_ok-all.ensures ∙ ap (λ us. us ++ c.in-Ok.named) (c.in_ok-counted.ensures.updates keys seen ∙ ap (λ p. updates_to_see keys Inodes 0 a.number a.id (Some (values.Inode p))) c.with_links.ensures.inode))
    ∙ ap (λ b. refused_if b LinksFull >>= (λ _. Ok (put_inode a.id a.number (with_links a.inode (a.inode.links + 1)) ∷ c.in-Ok.named))) (sym (lt-leb 255 c.args.inode.links c.if-inode-ge-LINKS_MAX.false))
    ∙ ap (λ r. r >>= (λ named. refused_if (nat_le links_max a.inode.links) LinksFull >>= (λ _. Ok (put_inode a.id a.number (with_links a.inode (a.inode.links + 1)) ∷ named)))) (sym c.in-Ok.is ∙ c.step_made.ensures ∙ ap step_made (c.in_ok-step.ensures.step keys before))

pub returns-clause-fits : goal.returns-clause-fits
returns-clause-fits g c = λ kind inode named keys seen shows.
    let a = c.args in
    let before = seen_before keys (g.V.View.made c.add.new.view) (g.V.View.made c.set.new.view) a.tree.now c.in_ok-counted.ensures.looks seen in
    let range = subst (λ k. IsInRange 1 (most_links k) (a.inode.links + 1)) (sym kind) (omega arith, omega (arith, c.if-inode-ge-LINKS_MAX.false)) in
    subst (All IsUpdate) (sym c.in_ok-all.ensures)
    (All-append IsUpdate c.in_ok-counted.counted c.in-Ok.named (c.in_ok-counted.ensures.fits (c.with_links.ensures.in_range inode range))
    (made_has _ c.in_ok-step.step c.in-Ok.named (sym c.step_made.ensures ∙ c.in-Ok.is) (c.in_ok-step.ensures.fits named) keys before shows))
