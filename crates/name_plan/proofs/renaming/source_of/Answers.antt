-- The directory of the last name, and then what the name leads to.
use Rattle.std.proofs.Common.{◌∙◌, ap, sym}
use Rattle.dirent_keys.specs.Names.{target_in}
use Rattle.forest_ops.specs.Refusals.{◌>>=◌}
use Rattle.name_plan.specs.Directories.{directory_under}
use Rattle.name_plan.specs.Moved.{source_at, source_by}
use Rattle.path_plan.specs.LookLaws.{seen_before}
use Rattle.name_plan.proofs.renaming.source_of.Goals as goal

pub returns-in_default-clause-source : goal.returns-in_default-clause-source
returns-in_default-clause-source g c = λ keys seen. ap (source_by keys c.args.sub.now c.args.path.now) c.in_default.ensures

pub returns-in-Err-clause-source : goal.returns-in-Err-clause-source
returns-in-Err-clause-source g c = λ keys seen.
    let sub = c.args.sub.now in
    ap (λ r. r >>= (λ directory. source_at directory (target_in keys sub.id directory c.in-Some.name.now))) (sym c.in-Err.is ∙ c.in_ok-directory.ensures.found keys seen ∙ ap (directory_under keys sub) c.parents.ensures)
    ∙ ap (source_by keys sub c.args.path.now) c.in-Some.ensures

pub returns-clause-source : goal.returns-clause-source
returns-clause-source g c = λ keys seen.
    let sub = c.args.sub.now in
    let before = seen_before keys (g.V.View.made c.directory_under.new.view) (g.V.View.made c.find.new.view) c.args.tree.now c.in_ok-target.ensures.looks seen in
    c.source_at.ensures
    ∙ ap (source_at c.in-Ok.directory) (c.in_ok-target.ensures.target keys seen)
    ∙ ap (λ r. r >>= (λ directory. source_at directory (target_in keys sub.id directory c.in-Some.name.now))) (sym c.in-Ok.is ∙ c.in_ok-directory.ensures.found keys before ∙ ap (directory_under keys sub) c.parents.ensures)
    ∙ ap (source_by keys sub c.args.path.now) c.in-Some.ensures
