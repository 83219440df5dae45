-- The directory of the second path, the refusals in their order, and then the move.
use Rattle.std.proofs.Common.{cond, None, ◌∙◌, ap, sym}
use Rattle.std.specs.Prelude.{Ok}
use Rattle.forest_ops.specs.Refusals.{◌>>=◌, refused_if}
use Rattle.forest_ops.specs.Names.{same_path}
use Rattle.forest_ops.specs.declared.operation.Cause.TheVariants.{ReadOnly}
use Rattle.name_plan.specs.Directories.{directory_under}
use Rattle.name_plan.specs.Moved.{moved_to, renamed_to}
use Rattle.path_plan.specs.LookLaws.{carried, seen_before}
use Rattle.name_plan.proofs.renaming.rename_source.Goals as goal

pub returns-clause-moved : goal.returns-clause-moved
returns-clause-moved g c = carried c.move_to.result _ _
    (λ result is keys seen.
    let a = c.args in
    let from = a.from.now in
    let to = a.to.now in
    let sub = a.sub.now in
    let directory = c.in-Ok.directory in
    let before = seen_before keys (g.V.View.made c.directory_under.new.view) (g.V.View.made c.move_to.new.view) a.tree.now c.move_to.ensures.looks seen in
    is keys seen
    ∙ ap (λ b. cond b (Ok None) (moved_to keys sub.id a.source directory from to)) (sym c.if-are_same_paths.false ∙ c.are_same_paths.ensures)
    ∙ ap (λ b. refused_if b ReadOnly >>= (λ _. cond (same_path from to) (Ok None) (moved_to keys sub.id a.source directory from to))) (sym c.if-sub.false)
    ∙ ap (λ r. r >>= (λ found. renamed_to keys sub a.source found from to)) (sym c.in-Ok.is ∙ c.in_ok-directory.ensures.found keys before ∙ ap (directory_under keys sub) c.parents.ensures))
    c.move_to.ensures.moved
