-- The names that were gathered are those of the directory.
use Rattle.std.proofs.Common.{◌∙◌}
use Rattle.fs_plan.proofs.Listed.{listed_names_in}
use Rattle.fs_plan.proofs.listing.names_of.Goals as goal

pub returns-clause-names : goal.returns-clause-names
returns-clause-names g c = λ keys read sub seen joined live same.
    c.in_ok-list_of.ensures.list ∙ listed_names_in keys read sub c.args.id c.args.directory joined live same c.in_ok-flags.flags.entries c.list_of.ensures.rises (c.in_ok-flags.ensures.flags keys seen joined live)
