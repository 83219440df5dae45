-- The inode along the path, where it is a directory.
use Rattle.std.proofs.Common.{◌∙◌, ap, sym}
use Rattle.std.specs.Prelude.{not}
use Rattle.forest_ops.specs.Refusals.{◌>>=◌, refused_if}
use Rattle.forest_ops.specs.declared.operation.Cause.TheVariants.{NotDir}
use Rattle.path_plan.specs.LookLaws.{seen_before}
use Rattle.path_plan.specs.Looking.{if_directory}
use Rattle.std.specs.Prelude.{Ok}
use Rattle.path_plan.proofs.walking.directory_along.Goals as goal

pub returns-in-Err-clause-found : goal.returns-in-Err-clause-found
returns-in-Err-clause-found g c = λ keys seen. ap (λ r. r >>= if_directory keys) (sym c.in-Err.is ∙ c.in_ok-spot.ensures.found keys seen)

pub returns-then-not-branch-clause-found : goal.returns-then-not-branch-clause-found
returns-then-not-branch-clause-found g c = λ keys seen.
    let made = g.V.View.made in
    let before = seen_before keys (made c.reached_along.new.view) (made c.is_directory.new.view) c.args.tree.now c.in_ok-is_directory.ensures.looks seen in
    ap (λ b. refused_if (not b) NotDir >>= (λ _. Ok c.in-Ok.spot)) (sym c.if-not-branch.true ∙ c.in_ok-is_directory.ensures.is keys seen)
    ∙ ap (λ r. r >>= if_directory keys) (sym c.in-Ok.is ∙ c.in_ok-spot.ensures.found keys before)

pub returns-clause-found : goal.returns-clause-found
returns-clause-found g c = λ keys seen.
    let made = g.V.View.made in
    let before = seen_before keys (made c.reached_along.new.view) (made c.is_directory.new.view) c.args.tree.now c.in_ok-is_directory.ensures.looks seen in
    ap (λ b. refused_if (not b) NotDir >>= (λ _. Ok c.in-Ok.spot)) (sym c.if-not-branch.false ∙ c.in_ok-is_directory.ensures.is keys seen)
    ∙ ap (λ r. r >>= if_directory keys) (sym c.in-Ok.is ∙ c.in_ok-spot.ensures.found keys before)
