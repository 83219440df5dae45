-- A name leads where the looks at the inode of its directory and at the name say.
use Rattle.std.proofs.Common.{◌∙◌, ap, sym}
use Rattle.std.specs.Option.{ok_or}
use Rattle.std.specs.Prelude.{not}
use Rattle.forest_ops.specs.Refusals.{◌>>=◌, refused_if}
use Rattle.forest_ops.specs.declared.operation.Cause.TheVariants.{NotDir, NotFound}
use Rattle.path_plan.specs.LookLaws.{looks_then, seen_before}
use Rattle.key_meaning.specs.Forest.{number_in}
use Rattle.path_plan.proofs.walking.named.Goals as goal

pub returns-clause-found : goal.returns-clause-found
returns-clause-found g c = λ keys seen.
    let made = g.V.View.made in
    let a = c.args in
    let before = seen_before keys (made c.is_directory.new.view) (made c.number_of.new.view) a.tree.now c.in_ok-leads.ensures.looks seen in
    c.ok_or.ensures.value ∙ ap (λ o. ok_or o NotFound) (c.in_ok-leads.ensures.leads keys seen)
    ∙ ap (λ b. refused_if (not b) NotDir >>= (λ _. ok_or (number_in keys a.id a.number a.name.now) NotFound)) (sym c.if-not-branch.false ∙ c.in_ok-is_directory.ensures.is keys before)

pub returns-clause-looks : goal.returns-clause-looks
returns-clause-looks g c =
    let made = g.V.View.made in
    looks_then (made c.args.view.now) (made c.is_directory.new.view) (made c.number_of.new.view) c.in_ok-is_directory.ensures.looks c.in_ok-leads.ensures.looks

pub returns-in_err-leads-clause-looks : goal.returns-in_err-leads-clause-looks
returns-in_err-leads-clause-looks g c =
    let made = g.V.View.made in
    looks_then (made c.args.view.now) (made c.is_directory.new.view) (made c.number_of.new.view) c.in_ok-is_directory.ensures.looks c.in_err-leads.ensures.looks

pub returns-then-not-branch-clause-found : goal.returns-then-not-branch-clause-found
returns-then-not-branch-clause-found g c = λ keys seen.
    let a = c.args in
    ap (λ b. refused_if (not b) NotDir >>= (λ _. ok_or (number_in keys a.id a.number a.name.now) NotFound)) (sym c.if-not-branch.true ∙ c.in_ok-is_directory.ensures.is keys seen)
